use Rattle.std.proofs.Common.{length, sym, ap}
use Rattle.std.proofs.lemmas.Str.{encodes-chars}
use Rattle.rf_lexer.proofs.character.size.Goals as goal

pub returns-clause-characters : goal.returns-clause-characters
returns-clause-characters c = ap length (sym (encodes-chars c.args.text.now c.utf8.text))
