use Rattle.rf_lexer.proofs.Keywords.{keywords_told}
use Rattle.rf_lexer.proofs.laws.keywords_law.Goals as goal

pub returns : goal.returns
returns _ = keywords_told
