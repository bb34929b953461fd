use Rattle.rf_prop_broken.proofs.forced.Target.next.Given as goal

abbrev pub invariant-loop-i : goal.invariant-loop-i
invariant-loop-i g l = Unit {0}
