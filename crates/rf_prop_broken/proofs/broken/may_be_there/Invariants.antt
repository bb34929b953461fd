use Rattle.std.proofs.Common.{◌≡◌, ◌<◌, ◌≤◌, ℕ, true}
use Rattle.rf_state.specs.Values.{may_have_node}
use Rattle.rf_rules.specs.Words.{lo}
use Rattle.rf_prop_broken.proofs.broken.may_be_there.Given as goal

abbrev pub invariant-loop-o : goal.invariant-loop-o
invariant-loop-o g l = (j : ℕ) → j < l.o → 1 ≤ lo (g.F.Facts.state l.view) j → may_have_node (g.F.Facts.state l.view) j ≡ true
