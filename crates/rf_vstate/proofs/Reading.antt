-- A map that has the values of a state is that state.
use Rattle.std.proofs.Common.{◌≡◌, ◌∙◌, ℕ, ◌<◌, List, [], ◌∷◌, length, unwrap_or, refl, sym, ap, subst, arith}
use Rattle.std.specs.Prelude.{All, slice_index}
use Rattle.std.specs.List.{range_with_len}
use Rattle.std.proofs.lemmas.List.{ext_get_or, length-map}
use Rattle.std.proofs.lemmas.List.FromFn.{get_or-map-range_with_len, length-range_with_len}
use Rattle.rf_values.specs.declared.truth.Truth.{Truth}
use Rattle.rf_values.specs.declared.truth.Truth.TheVariants.{True, False, Unknown, Error}
use Rattle.rf_problem.specs.declared.problem.Problem.{Problem}
use Rattle.rf_store.specs.Entries.{Entry}
use Rattle.rf_state.specs.Root.{FitsObject}
use Rattle.rf_state.specs.State.{State, no_object, object_of}
use Rattle.rf_vstate.specs.Maps.{number_in, object_in, state_of, truth_in, words_at}
use Rattle.rf_vstate.specs.Rows.{AreOwn, HasRows, IsSound, IsWithin, fact_row}
use Rattle.rf_vstate.specs.Words.{fact_key, object_key, object_value}

abbrev zeros : List ℕ
zeros = 0 ∷ 0 ∷ 0 ∷ 0 ∷ 0 ∷ 0 ∷ 0 ∷ []

pub length-state_of : (entries : List Entry) → length (state_of entries).objects ≡ number_in entries
length-state_of entries =
    length-map (range_with_len 0 (number_in entries)) (λ o. object_in (words_at entries (object_key o))) ∙ length-range_with_len 0 (number_in entries)

-- what is read at an object's key is the object
pub object-read : (entries : List Entry) (o : ℕ) → o < length (state_of entries).objects → object_of (state_of entries) o ≡ object_in (words_at entries (object_key o))
object-read entries o l =
    get_or-map-range_with_len (λ x. object_in (words_at entries (object_key x))) 0 (number_in entries) o o no_object
    (subst (λ n. o < n) (length-state_of entries) l) (omega arith)

row-read : (t : Truth) → truth_in (slice_index (unwrap_or (fact_row t) zeros) 0) ≡ t
row-read True = refl
row-read False = refl
row-read Unknown = refl
row-read Error = refl

-- the words of each object give it back
abbrev pub AreKnown : State → Type 0
AreKnown s = (o : ℕ) → o < length s.objects → object_in (object_value (object_of s o)) ≡ object_of s o

module _ (s : State) (entries : List Entry) (rows : HasRows s entries) where
  pub number-read : number_in entries ≡ length s.objects
  number-read = ap (λ w. slice_index (unwrap_or w zeros) 0) rows.number

  added-read : (r a b : ℕ) → truth_in (slice_index (words_at entries (fact_key r a b)) 0) ≡ s.added r a b
  added-read r a b = ap (λ w. truth_in (slice_index (unwrap_or w zeros) 0)) (rows.facts r a b) ∙ row-read (s.added r a b)

  words-read : (o : ℕ) → o < length s.objects → words_at entries (object_key o) ≡ object_value (object_of s o)
  words-read o l = ap (λ w. unwrap_or w zeros) (rows.objects o l)

  pub state-read : AreKnown s → state_of entries ≡ s
  state-read known = λ i. record { objects = objects i; added = λ r a b. added-read r a b i }
    where
      many : length (state_of entries).objects ≡ length s.objects
      many = length-state_of entries ∙ number-read

      object : (o : ℕ) → o < length (state_of entries).objects → object_of (state_of entries) o ≡ object_of s o
      object o l =
          let there = subst (λ n. o < n) many l in
          object-read entries o l ∙ ap object_in (words-read o there) ∙ known o there

      objects : (state_of entries).objects ≡ s.objects
      objects = ext_get_or no_object (state_of entries).objects s.objects many object

-- what was read is known
pub AreKnown-sound : (entries : List Entry) → HasRows (state_of entries) entries → AreKnown (state_of entries)
AreKnown-sound entries rows o l = ap object_in (sym (words-read (state_of entries) entries rows o l)) ∙ sym (object-read entries o l)

-- the map of a state that the problem allows
pub IsSound-rows : (p : Problem) (s : State) (entries : List Entry) → HasRows s entries → AreKnown s → AreOwn entries → All (FitsObject p) s.objects → IsWithin p s
    → IsSound p entries
IsSound-rows p s entries rows known own fit within =
    let is = sym (state-read s entries rows known) in
    record {
      rows = subst (λ (u : State). HasRows u entries) is rows;
      own = own;
      fit = subst (λ (u : State). All (FitsObject p) u.objects) is fit;
      within = subst (IsWithin p) is within;
    }
