use Rattle.std.proofs.Common.{◌≡◌}
use Rattle.rf_vstate.specs.Copies.{HasFacts, with_fresh_below}
use Rattle.rf_vstate.proofs.copies.copy_facts.Given as goal

abbrev pub invariant-loop-r : goal.invariant-loop-r
invariant-loop-r l =
    HasFacts l.initial.store.current l.store.current (with_fresh_below l.initial.store.current l.r l.fresh.of l.fresh.number)
    × (l.store.saved ≡ l.initial.store.saved)
