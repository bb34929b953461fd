use Rattle.rf_text.proofs.IdentifierLemmas.{identifier_told}
use Rattle.rf_text.proofs.laws.identifiers_law.Goals as goal

pub returns : goal.returns
returns _ = identifier_told
