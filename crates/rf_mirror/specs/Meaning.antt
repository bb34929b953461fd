-- Which states a `Mirrored` stands for.
use Rattle.std.specs.Prelude.{List}
use Rattle.rf_state.specs.State.{State}
use Rattle.rf_vstate.specs.Meaning.{current as current_of, kept as kept_of}
use Rattle.rf_mirror.specs.declared.mirrored.Mirrored.{Mirrored}

-- the state that it stands at, and those that it keeps
abbrev pub current : Mirrored → State
current m = current_of m.inner

abbrev pub kept : Mirrored → List State
kept m = kept_of m.inner
