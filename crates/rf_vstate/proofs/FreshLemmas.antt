-- A map in which a fresh object stands in the facts in which another does.
use Rattle.std.proofs.Common.{◌≡◌, ◌≢◌, ◌∙◌, ℕ, ◌+◌, ◌<◌, ◌≤◌, List, [], ◌∷◌, ◌++◌, Bool, if◌then◌else◌, ◌⊎◌, None, Some, length, refl, sym, ap, subst, inl, inr, arith}
use Rattle.std.specs.Prelude.{slice_set}
use Rattle.std.proofs.lemmas.Bool.{cases_eq, cases_lt, le-ltb, lt-ltb, ne_eqb}
use Rattle.std.proofs.lemmas.List.{length-set, length_push}
use Rattle.rf_values.specs.Count.{less_one}
use Rattle.rf_values.specs.declared.truth.Truth.{Truth}
use Rattle.rf_values.specs.declared.truth.Truth.TheVariants.{True, False, Unknown, Error}
use Rattle.rf_problem.specs.declared.problem.Problem.{Problem}
use Rattle.rf_store.specs.Entries.{Entry, value_at}
use Rattle.rf_state.specs.State.{State, copied_from, fresh_of, object_of, with_object}
use Rattle.rf_state.specs.declared.object.Object.{Object}
use Rattle.rf_vstate.specs.Copies.{AreBelow, HasFacts, fact_at, with_fresh_below}
use Rattle.rf_vstate.specs.Maps.{number_in, state_of}
use Rattle.rf_vstate.specs.Rows.{HasRows, IsSound, IsWithin, fact_row, with_one_more}
use Rattle.rf_vstate.specs.Words.{fact_key, number_key, object_key}
use Rattle.rf_vstate.proofs.KeyKinds.{number-ne_fact, object-ne_fact}
use Rattle.rf_vstate.proofs.Reading.{AreKnown-sound, IsSound-rows, length-state_of, state-read}
use Rattle.rf_vstate.proofs.SoundLemmas.{IsMade}

-- whether something was added
cases_known : (t : Truth) → (t ≡ Unknown) ⊎ (t ≢ Unknown)
cases_known True = inr (λ e. cc)
cases_known False = inr (λ e. cc)
cases_known Unknown = inl refl
cases_known Error = inr (λ e. cc)

row-none : (t : Truth) → fact_row t ≢ None → t ≢ Unknown
row-none t some e = some (ap fact_row e)

-- what was added is of objects below n
abbrev pub IsBelow : State → ℕ → Type 0
IsBelow s n = (r a b : ℕ) → s.added r a b ≢ Unknown → (a < n) × (b < n)

pub AreBelow-state : (entries : List Entry) (n : ℕ) → HasRows (state_of entries) entries → IsBelow (state_of entries) n → (r : ℕ) → AreBelow entries r n
AreBelow-state entries n rows below r a b some = below r a b (row-none ((state_of entries).added r a b) (λ none. some (rows.facts r a b ∙ none)))

abbrev with_fresh : State → ℕ → ℕ → State
with_fresh u o n = record { objects = u.objects; added = λ r a b. u.added r (copied_from o n a) (copied_from o n b) }

module _ (p : Problem) (old new : List Entry) (o n : ℕ) (sound : IsSound p old) (there : n < length (state_of old).objects)
    (copied : HasFacts old new (with_fresh_below old (length p.references) o n)) where
  abbrev u : State
  u = state_of old

  past : (r a b : ℕ) → length p.references ≤ r → u.added r a b ≡ Unknown
  past r a b l = elim (cases_known (u.added r a b)) [
    | inl e ↦ e
    | inr some ↦ (let h = sound.within r a b some in absurd (omega (arith, h, l)))
  ]

  fact : (r a b : ℕ) → value_at new (fact_key r a b) ≡ fact_row (u.added r (copied_from o n a) (copied_from o n b))
  fact r a b = copied.each r a b ∙ elim (cases_lt r (length p.references)) [
    | inl l ↦ ap (λ (c : Bool). if c then fact_at old r (copied_from o n a) (copied_from o n b) else fact_at old r a b) (lt-ltb r (length p.references) l)
        ∙ sound.rows.facts r (copied_from o n a) (copied_from o n b)
    | inr m ↦ ap (λ (c : Bool). if c then fact_at old r (copied_from o n a) (copied_from o n b) else fact_at old r a b) (le-ltb r (length p.references) m)
        ∙ sound.rows.facts r a b
        ∙ ap fact_row (past r a b m ∙ sym (past r (copied_from o n a) (copied_from o n b) m))
  ]

  rows : HasRows (with_fresh u o n) new
  rows = record {
    number = copied.others number_key number-ne_fact ∙ sound.rows.number;
    objects = λ x l. copied.others (object_key x) (object-ne_fact x) ∙ sound.rows.objects x l;
    facts = fact;
    others = λ k other. copied.others k other.fact ∙ sound.rows.others k other;
  }

  inside : (x : ℕ) → copied_from o n x < length u.objects → x < length u.objects
  inside x l = elim (cases_eq x n) [
    | inl e ↦ subst (λ (y : ℕ). y < length u.objects) (sym e) there
    | inr ne ↦ subst (λ (y : ℕ). y < length u.objects) (ap (λ (c : Bool). if c then o else x) (ne_eqb x n ne)) l
  ]

  within : IsWithin p (with_fresh u o n)
  within r a b some =
      let h = sound.within r (copied_from o n a) (copied_from o n b) some in
      (h.0, (inside a h.1.0, inside b h.1.1))

  pub copied-made : IsMade p (with_fresh u o n) new
  copied-made = record {
    sound = IsSound-rows p (with_fresh u o n) new rows (AreKnown-sound old sound.rows) copied.own sound.fit within;
    state = state-read (with_fresh u o n) new rows (AreKnown-sound old sound.rows);
  }

-- with one node less of the object, and the fresh one after the others
module _ (p : Problem) (first mid last new : List Entry) (o n : ℕ) (rest made : Object) (sound : IsSound p first) (there : o < length (state_of first).objects)
    (number : n ≡ number_in first) (set_sound : IsSound p mid) (is_set : state_of mid ≡ with_object (state_of first) o rest)
    (push_sound : IsSound p last) (is_pushed : state_of last ≡ with_one_more (state_of mid) made) where
  abbrev s : State
  s = state_of first

  abbrev both : State
  both = with_one_more (with_object s o rest) made

  is : state_of last ≡ both
  is = is_pushed ∙ ap (λ (v : State). with_one_more v made) is_set

  at : n ≡ length s.objects
  at = number ∙ sym (length-state_of first)

  pub fresh-below : IsBelow (state_of last) n
  fresh-below r a b some =
      let h = sound.within r a b (λ none. some (ap (λ (v : State). v.added r a b) is ∙ none)) in
      (subst (λ (m : ℕ). a < m) (sym at) h.1.0, subst (λ (m : ℕ). b < m) (sym at) h.1.1)

  pub fresh-there : n < length (state_of last).objects
  fresh-there =
      let many : length (state_of last).objects ≡ length s.objects + 1 =
      ap (λ (v : State). length v.objects) is ∙ length_push (slice_set s.objects o rest) made ∙ ap (λ m. m + 1) (length-set s.objects o rest) in
      let e = at in
      omega (arith, many, e)

  pub fresh-made : rest ≡ record (object_of s o) { count = less_one (object_of s o).count } → made ≡ record (object_of s o) { count = record { lo = 1; hi = Some 1 } }
      → HasFacts last new (with_fresh_below last (length p.references) o n) → IsMade p (fresh_of s o) new
  fresh-made rest-is made-is copied =
      let m = copied-made p last new o n push_sound fresh-there copied in
      record {
        sound = m.sound;
        state = m.state ∙ (λ i. with_fresh (is i) o (at i)) ∙ (λ i. record {
          objects = slice_set s.objects o (rest-is i) ++ made-is i ∷ [];
          added = λ r a b. s.added r (copied_from o (length s.objects) a) (copied_from o (length s.objects) b);
        });
      }
