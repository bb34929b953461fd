use Rattle.std.proofs.Common.{◌≡◌, ◌<◌, ℕ, false, true, Some, slice_get, slice_index_or}
use Rattle.rf_problem.specs.declared.predicate.Literal.{Literal}
use Rattle.rf_evaluate.specs.Terms.{names_unassigned}
use Rattle.rf_evaluate.proofs.stage.Stage.first_ground.Given as goal

abbrev pub invariant-loop-i : goal.invariant-loop-i
invariant-loop-i l = (k : ℕ) (m : Literal) → k < l.i → slice_get l.body.literals.now k ≡ Some m
    → slice_index_or l.self.pending k false ≡ true → names_unassigned l.self.unassigned m ≡ true
