-- What rules do to a state: there are six kinds of effect.
use Rattle.std.specs.Prelude.{suc, Bool, true, false, ◌&&◌, not, nat_lt, None, Some}
use Rattle.std.specs.FinSet.{difference, intersection}
use Rattle.rf_finite.specs.Ends.{within}
use Rattle.rf_values.specs.ClassSet.{is_same_set}
use Rattle.rf_values.specs.Truth.{merge}
use Rattle.rf_values.specs.declared.truth.Truth.{Truth}
use Rattle.rf_values.specs.declared.truth.Truth.TheVariants.{True, False, Unknown, Error}
use Rattle.rf_state.specs.State.{State, kept_to, merged_at, narrowed, object_of}
use Rattle.rf_rules.specs.Words.{hi, lo}
use Rattle.rf_rules.specs.declared.effect.Effect.{Effect}
use Rattle.rf_rules.specs.declared.effect.Effect.TheVariants.{Close, AtMost, AtLeast, Keep, Lose, Merge}

-- what a rule asks for at some numbers, and what it does there
pub record Instance : Type 0 where
  pub holds : Bool
  pub effect : Effect

-- the state after an effect; a closing leaves it
abbrev pub after_effect : State → Effect → State
after_effect s Close = s
after_effect s (AtMost o n) = narrowed s o (record { lo = 0; hi = Some n })
after_effect s (AtLeast o n) = narrowed s o (record { lo = n; hi = None })
after_effect s (Keep o set) = kept_to s o set
after_effect s (Lose o set) = kept_to s o (difference (object_of s o).candidates set)
after_effect s (Merge r a b v) = merged_at s r a b v

abbrev pub is_same_truth : Truth → Truth → Bool
is_same_truth True True = true
is_same_truth False False = true
is_same_truth Unknown Unknown = true
is_same_truth Error Error = true
is_same_truth _ _ = false

-- whether it closes the state, or the state after it is another
abbrev pub has_effect : State → Effect → Bool
has_effect s Close = true
has_effect s (AtMost o n) = within (suc n) (hi s o)
has_effect s (AtLeast o n) = nat_lt (lo s o) n
has_effect s (Keep o set) = not (is_same_set (intersection (object_of s o).candidates set) (object_of s o).candidates)
has_effect s (Lose o set) = not (is_same_set (difference (object_of s o).candidates set) (object_of s o).candidates)
has_effect s (Merge r a b v) = not (is_same_truth (merge (s.added r a b) v) (s.added r a b))

abbrev pub is_close : Effect → Bool
is_close Close = true
is_close _ = false

-- whether what it asks for holds and it closes the state or changes it
abbrev pub is_ready : State → Instance → Bool
is_ready s i = i.holds && has_effect s i.effect
