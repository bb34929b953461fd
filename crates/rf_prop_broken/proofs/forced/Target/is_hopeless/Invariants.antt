use Rattle.std.proofs.Common.{◌≡◌}
use Rattle.rf_prop_broken.proofs.forced.Target.is_hopeless.Given as goal

abbrev pub invariant-loop-i : goal.invariant-loop-i
invariant-loop-i g l = record { view : l.evaluator.facts.now ≡ l.self.view.now }
