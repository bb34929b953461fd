use Rattle.std.proofs.Common.{◌≡◌, [], take}
use Rattle.rf_state.specs.Meaning.{meaning}
use Rattle.rf_vstate.proofs.RootLemmas.{of_objects}
use Rattle.rf_vstate.proofs.SoundLemmas.{IsMade}
use Rattle.rf_vstate.proofs.versioned.Versioned.root.Given as goal

abbrev pub invariant-loop-o : goal.invariant-loop-o
invariant-loop-o l = IsMade l.problem (of_objects (take l.o (meaning l.root).objects)) l.store.current × (l.store.saved ≡ [])
