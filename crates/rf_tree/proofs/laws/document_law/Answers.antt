use Rattle.rf_tree.proofs.StopLemmas.{document_once, lines_of_document}
use Rattle.rf_tree.proofs.laws.document_law.Goals as goal

pub returns-clause-once : goal.returns-clause-once
returns-clause-once _ = document_once

pub returns-clause-lines : goal.returns-clause-lines
returns-clause-lines _ = lines_of_document
