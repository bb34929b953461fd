use Rattle.std.proofs.Common.{◌≡◌}
use Rattle.rf_finite.specs.Passing.{passing}
use Rattle.rf_rules.specs.Words.{is_one}
use Rattle.rf_final.proofs.graph.singles.Given as goal

abbrev pub invariant-loop-o : goal.invariant-loop-o
invariant-loop-o g l = l.singles.items ≡ passing l.o (is_one (g.F.Facts.state l.view))
