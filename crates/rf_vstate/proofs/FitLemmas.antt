-- The objects that are read from a map fit the problem, and so do those that are made of them.
use Rattle.std.proofs.Common.{◌≡◌, ◌∙◌, ℕ, ◌<◌, ◌≤◌, ◌-◌, List, Option, None, Some, length, refl, sym, subst, arith}
use Rattle.std.specs.Option.{ForSome}
use Rattle.std.proofs.lemmas.Option.{same_Some}
use Rattle.rf_finite.proofs.Range.{None-ne_Some}
use Rattle.rf_bounds.specs.declared.TheConstants.{GREATEST_NUMBER}
use Rattle.rf_values.specs.Count.{end_less_one, less_one}
use Rattle.rf_values.specs.declared.count.Count.{Count}
use Rattle.rf_problem.specs.Valid.{IsSmall}
use Rattle.rf_problem.specs.declared.problem.Problem.{Problem}
use Rattle.rf_store.specs.Entries.{Entry}
use Rattle.rf_state.specs.Root.{FitsObject}
use Rattle.rf_state.specs.State.{no_object, object_of}
use Rattle.rf_state.specs.declared.object.Object.{Object}
use Rattle.rf_vstate.specs.Maps.{object_in, state_of, words_at}
use Rattle.rf_vstate.specs.Rows.{IsSound}
use Rattle.rf_vstate.specs.Words.{object_key}
use Rattle.rf_vstate.proofs.Reading.{object-read}

pub FitsObject-of : (p : Problem) (entries : List Entry) (o : ℕ) → IsSound p entries → o < length (state_of entries).objects → FitsObject p (object_of (state_of entries) o)
FitsObject-of p entries o sound there = sound.fit o no_object there

pub FitsObject-read : (p : Problem) (entries : List Entry) (o : ℕ) (x : Object) → IsSound p entries → o < length (state_of entries).objects
    → x ≡ object_in (words_at entries (object_key o)) → FitsObject p x
FitsObject-read p entries o x sound there is = subst (FitsObject p) (object-read entries o there ∙ sym is) (FitsObject-of p entries o sound there)

small-less_one : (end : Option ℕ) → ForSome end (λ n. n ≤ GREATEST_NUMBER) → ForSome (end_less_one end) (λ n. n ≤ GREATEST_NUMBER)
small-less_one None small n e = absurd (None-ne_Some e)
small-less_one (Some m) small n e = let l = small m refl in let same = same_Some (m - 1) n e in omega (arith, l, same)

pub IsSmall-less_one : (c : Count) → IsSmall c → IsSmall (less_one c)
IsSmall-less_one c small = record { lower = let l = small.lower in omega (arith, l); upper = small-less_one c.hi small.upper }

pub IsSmall-one : IsSmall (record { lo = 1; hi = Some 1 })
IsSmall-one = record { lower = omega arith; upper = λ n e. let same = same_Some 1 n e in omega (arith, same) }
