use Rattle.std.proofs.Common.{◌≡◌, ◌<◌, ℕ, false}
use Rattle.rf_rules.specs.Words.{may}
use Rattle.rf_prop_contain.proofs.acyclic.may_lead.Given as goal

abbrev pub invariant-loop-b : goal.invariant-loop-b
invariant-loop-b g l = (j : ℕ) → j < l.b → may (g.F.Facts.problem l.view) (g.F.Facts.state l.view) l.r l.a j ≡ false
