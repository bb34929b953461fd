use Rattle.std.proofs.Common.{◌≡◌}
use Rattle.rf_vstate.specs.Copies.{HasFacts, with_copies_into}
use Rattle.rf_vstate.proofs.copies.copy_into.Given as goal

abbrev pub invariant-loop-a : goal.invariant-loop-a
invariant-loop-a l =
    HasFacts l.initial.store.current l.store.current (with_copies_into l.initial.store.current l.r l.fresh.of l.fresh.number l.a)
    × (l.store.saved ≡ l.initial.store.saved)
