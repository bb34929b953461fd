-- Which state a state of the code is.
use Rattle.rf_state.specs.Added.{added_at}
use Rattle.rf_state.specs.State.{State}
use Rattle.rf_state.specs.declared.state.State.{State as Stored}

-- its objects, and what its map has
abbrev pub meaning : Stored → State
meaning s = record { objects = s.objects.items; added = added_at s.added }
