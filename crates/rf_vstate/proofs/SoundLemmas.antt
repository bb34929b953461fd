-- A map of a state of the problem, after an entry was put.
use Rattle.std.proofs.Common.{◌≡◌, ◌≢◌, ◌∙◌, ℕ, ◌+◌, ◌<◌, List, [], ◌∷◌, Bool, true, if◌then◌else◌, length, sym, ap, subst, inl, inr, arith}
use Rattle.std.proofs.lemmas.Bool.{cases_Bool, cases_eq}
use Rattle.std.proofs.lemmas.List.{get_or-set_other, get_or-set_same, get_or_append_left, get_or_push, length-set, length_push}
use Rattle.std.proofs.lemmas.List.Elements.{All-push}
use Rattle.rf_values.specs.declared.truth.Truth.{Truth}
use Rattle.rf_values.specs.declared.truth.Truth.TheVariants.{Unknown}
use Rattle.rf_problem.specs.declared.problem.Problem.{Problem}
use Rattle.rf_store.specs.Contents.{SetsOnly}
use Rattle.rf_store.specs.Entries.{Entry}
use Rattle.rf_state.specs.Root.{FitsObject}
use Rattle.rf_state.specs.State.{State, is_at, no_object, object_of, with_object}
use Rattle.rf_state.specs.declared.object.Object.{Object}
use Rattle.rf_state.proofs.FittingObjects.{AreFit-object}
use Rattle.rf_state.proofs.Keys.{same_key}
use Rattle.rf_vstate.specs.Maps.{number_in, object_in, state_of}
use Rattle.rf_vstate.specs.Rows.{HasRows, IsSound, IsWithin, with_fact, with_one_more}
use Rattle.rf_vstate.specs.Words.{fact_key, fact_value, number_key, number_value, object_key, object_value}
use Rattle.rf_vstate.proofs.Entries.{AreOwn-ordered}
use Rattle.rf_vstate.proofs.Reading.{AreKnown, AreKnown-sound, IsSound-rows, length-state_of, state-read}
use Rattle.rf_vstate.proofs.RowLemmas.{HasRows-fact, HasRows-object, HasRows-pushed}

-- the new map is that of a state of the problem
pub record IsMade (p : Problem) (s : State) (new : List Entry) : Type 0 where
  pub sound : IsSound p new
  pub state : state_of new ≡ s

module _ (p : Problem) (old new : List Entry) (sound : IsSound p old) where
  abbrev s : State
  s = state_of old

  known : AreKnown s
  known = AreKnown-sound old sound.rows

  module _ (o : ℕ) (x : Object) (there : o < length s.objects) (fits : FitsObject p x) (is : object_in (object_value x) ≡ x)
      (put : SetsOnly old new (object_key o) (object_value x)) where
    many : length (with_object s o x).objects ≡ length s.objects
    many = length-set s.objects o x

    known-object : AreKnown (with_object s o x)
    known-object y l = elim (cases_eq y o) [
      | inl e ↦ (let here : object_of (with_object s o x) y ≡ x = ap (object_of (with_object s o x)) e ∙ get_or-set_same s.objects o x no_object there in
          subst (λ (z : Object). object_in (object_value z) ≡ z) (sym here) is)
      | inr ne ↦ subst (λ (z : Object). object_in (object_value z) ≡ z) (sym (get_or-set_other s.objects o y x no_object ne)) (known y (subst (λ n. y < n) many l))
    ]

    within-object : IsWithin p (with_object s o x)
    within-object r a b more = subst (λ (n : ℕ). (r < length p.references) × ((a < n) × (b < n))) (sym many) (sound.within r a b more)

    rows-object : HasRows (with_object s o x) new
    rows-object = HasRows-object s old new sound.rows o x there put

    pub object-made : IsMade p (with_object s o x) new
    object-made = record {
      sound = IsSound-rows p (with_object s o x) new rows-object known-object (AreOwn-ordered new put.in_order)
          (AreFit-object p s.objects o x fits sound.fit) within-object;
      state = state-read (with_object s o x) new rows-object known-object;
    }

  module _ (r a b : ℕ) (v : Truth) (reference : r < length p.references) (from : a < length s.objects) (to : b < length s.objects) (some : v ≢ Unknown)
      (put : SetsOnly old new (fact_key r a b) (fact_value v)) where
    within-fact : IsWithin p (with_fact s r a b v)
    within-fact q x y more = elim (cases_Bool (is_at r a b q x y)) [
      | inl t ↦ same-within q x y t (reference, (from, to))
      | inr f ↦ sound.within q x y (λ none. more (ap (λ (c : Bool). if c then v else s.added q x y) f ∙ none))
    ]
      where
        same-within : (q x y : ℕ) → is_at r a b q x y ≡ true → (r < length p.references) × ((a < length s.objects) × (b < length s.objects))
            → (q < length p.references) × ((x < length s.objects) × (y < length s.objects))
        same-within q x y t held = (
          subst (λ (n : ℕ). n < length p.references) (sym (same_key (λ i j k. i) r a b q x y t)) held.0,
          (
            subst (λ (n : ℕ). n < length s.objects) (sym (same_key (λ i j k. j) r a b q x y t)) held.1.0,
            subst (λ (n : ℕ). n < length s.objects) (sym (same_key (λ i j k. k) r a b q x y t)) held.1.1,
          ),
        )

    rows-fact : HasRows (with_fact s r a b v) new
    rows-fact = HasRows-fact s old new sound.rows r a b v some put

    pub fact-made : IsMade p (with_fact s r a b v) new
    fact-made = record {
      sound = IsSound-rows p (with_fact s r a b v) new rows-fact known (AreOwn-ordered new put.in_order) sound.fit within-fact;
      state = state-read (with_fact s r a b v) new rows-fact known;
    }

  module _ (mid : List Entry) (n : ℕ) (x : Object) (last : n ≡ number_in old) (fits : FitsObject p x) (is : object_in (object_value x) ≡ x)
      (first : SetsOnly old mid (object_key n) (object_value x)) (second : SetsOnly mid new number_key (number_value (n + 1))) where
    more : length (with_one_more s x).objects ≡ length s.objects + 1
    more = length_push s.objects x

    at : n ≡ length s.objects
    at = last ∙ sym (length-state_of old)

    known-pushed : AreKnown (with_one_more s x)
    known-pushed y l = elim (cases_eq y (length s.objects)) [
      | inl e ↦ subst (λ (z : Object). object_in (object_value z) ≡ z) (sym (get_or_push s.objects x no_object y (sym e))) is
      | inr ne ↦ (let below : y < length s.objects = (let m = more in omega (arith, l, ne, m)) in
          subst (λ (z : Object). object_in (object_value z) ≡ z) (sym (get_or_append_left s.objects (x ∷ []) no_object y below)) (known y below))
    ]

    within-pushed : IsWithin p (with_one_more s x)
    within-pushed r a b some =
        let was = sound.within r a b some in
        let m = more in
        (was.0, (omega (arith, was, m), omega (arith, was, m)))

    rows-pushed : HasRows (with_one_more s x) new
    rows-pushed = HasRows-pushed s old new sound.rows mid x (subst (λ (k : ℕ). SetsOnly old mid (object_key k) (object_value x)) at first)
        (subst (λ (k : ℕ). SetsOnly mid new number_key (number_value (k + 1))) at second)

    pub pushed-made : IsMade p (with_one_more s x) new
    pushed-made = record {
      sound = IsSound-rows p (with_one_more s x) new rows-pushed known-pushed (AreOwn-ordered new second.in_order) (All-push (FitsObject p) s.objects x sound.fit fits) within-pushed;
      state = state-read (with_one_more s x) new rows-pushed known-pushed;
    }
