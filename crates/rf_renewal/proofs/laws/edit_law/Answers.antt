use Rattle.rf_renewal.proofs.Editing.{candidates_are_covered, count_is_covered, edge_is_covered}
use Rattle.rf_renewal.proofs.laws.edit_law.Goals as goal

pub returns-clause-edge : goal.returns-clause-edge
returns-clause-edge c = edge_is_covered

pub returns-clause-count : goal.returns-clause-count
returns-clause-count c = count_is_covered

pub returns-clause-candidates : goal.returns-clause-candidates
returns-clause-candidates c = candidates_are_covered
