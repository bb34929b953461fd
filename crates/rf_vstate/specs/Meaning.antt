-- Which states a `Versioned` stands for.
use Rattle.std.specs.Prelude.{List}
use Rattle.rf_state.specs.State.{State}
use Rattle.rf_vstate.specs.Maps.{state_of, states_at}
use Rattle.rf_vstate.specs.declared.versioned.Versioned.{Versioned}

-- the state that a `Versioned` stands at, and those that it keeps
abbrev pub current : Versioned → State
current v = state_of v.store.current

abbrev pub kept : Versioned → List State
kept v = states_at v.store.saved v.places.items
