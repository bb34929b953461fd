use Rattle.std.proofs.Common.{if◌then◌else◌, get_or}
use Rattle.std.specs.Prelude.{slice_index}
use Rattle.rf_problem.specs.declared.predicate.Term.TheVariants.{Var}
use Rattle.rf_evaluate.specs.Terms.{is_atom}
use Rattle.rf_evaluate.proofs.Cells.{AreFilled}
use Rattle.rf_evaluate.proofs.claim.with_atom.Given as goal

abbrev pub invariant-loop-i : goal.invariant-loop-i
invariant-loop-i l =
    AreFilled 0 8 (slice_index l.initial.changed) (λ k. if is_atom l.atom (get_or l.terms k (Var 0)) then l.x else slice_index l.initial.changed k) l.changed l.i
