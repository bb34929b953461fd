use Rattle.std.proofs.Common.{◌≡◌, ℕ, ◌<◌, None}
use Rattle.rf_prop_broken.specs.Pending.{first_at_literal}
use Rattle.rf_prop_broken.proofs.kinds.first_in_clause.Given as goal

abbrev pub invariant-loop-j : goal.invariant-loop-j
invariant-loop-j g l = (i : ℕ) → i < l.j → first_at_literal (g.V.Facts.problem l.view) (g.V.Facts.state l.view) l.q l.k i ≡ None
