use Rattle.std.proofs.Common.{◌≡◌, ℕ, ◌<◌, None}
use Rattle.rf_prop_broken.specs.Pending.{first_in_clause}
use Rattle.rf_prop_broken.proofs.kinds.first_forced.Given as goal

abbrev pub invariant-loop-k : goal.invariant-loop-k
invariant-loop-k g l = (i : ℕ) → i < l.k → first_in_clause (g.V.Facts.problem l.view) (g.V.Facts.state l.view) l.q i ≡ None
