use Rattle.std.proofs.Common.{◌≡◌}
use Rattle.rf_vstate.specs.Copies.{HasFacts, with_copies_from}
use Rattle.rf_vstate.proofs.copies.copy_from.Given as goal

abbrev pub invariant-loop-b : goal.invariant-loop-b
invariant-loop-b l =
    HasFacts l.initial.store.current l.store.current (with_copies_from l.initial.store.current l.r l.fresh.of l.fresh.number l.b)
    × (l.store.saved ≡ l.initial.store.saved)
