use Rattle.std.proofs.Common.{map}
use Rattle.std.specs.Prelude.{slice_index}
use Rattle.rf_problem.specs.Reading.{element_of}
use Rattle.rf_evaluate.proofs.Cells.{AreFilled}
use Rattle.rf_evaluate.proofs.claim.elements_of_variables.Given as goal

abbrev pub invariant-loop-i : goal.invariant-loop-i
invariant-loop-i l = AreFilled 0 8 (λ k. 0) (slice_index (map (element_of (slice_index l.assignment) (λ o. 0)) l.terms)) l.elements l.i
