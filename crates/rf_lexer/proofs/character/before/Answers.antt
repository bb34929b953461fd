use Rattle.rf_lexer.proofs.Encoded.{text_boundary, text_longer, text_before}
use Rattle.rf_lexer.proofs.character.before.Goals as goal

pub overflow_sub-text : goal.overflow_sub-text
overflow_sub-text c = text_longer _ _ c.requires.prefix c.utf8.text c.utf8.rest c.requires.joined

pub range-requires-clause-end_boundary : goal.range-requires-clause-end_boundary
range-requires-clause-end_boundary c = text_boundary _ _ c.requires.prefix c.utf8.text c.utf8.rest c.requires.joined

pub returns : goal.returns
returns c prefix e = text_before _ _ _ prefix c.range.ensures.value c.utf8.text c.utf8.rest e
