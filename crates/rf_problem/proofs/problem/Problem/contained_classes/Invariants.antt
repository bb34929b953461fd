use Rattle.std.proofs.Common.{◌≡◌, ℕ, ◌&&◌, take}
use Rattle.std.specs.FinSet.{contains}
use Rattle.std.specs.List.{list_any}
use Rattle.rf_problem.specs.Classes.{is_below}
use Rattle.rf_problem.specs.Parts.{is_contains}
use Rattle.rf_problem.proofs.problem.Problem.contained_classes.Given as goal

abbrev pub invariant-loop-reference : goal.invariant-loop-reference
invariant-loop-reference l =
    (c : ℕ) → contains l.contained c ≡ list_any (λ r. is_contains r.kind && is_below l.self.classes c r.target) (take l.reference-index l.reference-items)
