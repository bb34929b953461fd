-- A map of a state has exactly the state's entries.
use Rattle.std.proofs.Common.{◌≡◌, ◌≢◌, ◌∙◌, ℕ, List, Some, length, refl, sym, ap, subst, inl, inr}
use Rattle.std.specs.Prelude.{Contains}
use Rattle.std.proofs.lemmas.List.Elements.{All-contains}
use Rattle.std.proofs.lemmas.Option.{same_Some}
use Rattle.rf_finite.proofs.Range.{None-ne_Some}
use Rattle.rf_values.specs.declared.truth.Truth.{Truth}
use Rattle.rf_values.specs.declared.truth.Truth.TheVariants.{True, False, Unknown, Error}
use Rattle.rf_store.specs.Entries.{Entry, value_at}
use Rattle.rf_state.specs.State.{State, object_of}
use Rattle.rf_vstate.specs.Rows.{AreOwn, HasRows, fact_row}
use Rattle.rf_vstate.specs.Table.{IsEntryOf, IsMapOf}
use Rattle.rf_vstate.specs.Words.{fact_key, fact_value, number_key, number_value, object_key, object_value}
use Rattle.rf_vstate.proofs.Entries.{entry-from_value}
use Rattle.rf_vstate.proofs.KeyKinds.{cases_fact, cases_number, cases_object}

row-known : (t : Truth) → t ≢ Unknown → fact_row t ≡ Some (fact_value t)
row-known True ne = refl
row-known False ne = refl
row-known Unknown ne = absurd (ne refl)
row-known Error ne = refl

row-some : (t : Truth) (v : List ℕ) → fact_row t ≡ Some v → (t ≢ Unknown) × (fact_value t ≡ v)
row-some True v e = (λ f. cc, same_Some (fact_value True) v e)
row-some False v e = (λ f. cc, same_Some (fact_value False) v e)
row-some Unknown v e = absurd (None-ne_Some e)
row-some Error v e = (λ f. cc, same_Some (fact_value Error) v e)

module _ (s : State) (entries : List Entry) (rows : HasRows s entries) (own : AreOwn entries) where
  here : (e : Entry) (k v : List ℕ) → e.0 ≡ k → v ≡ e.1 → e ≡ (k, v)
  here e k v key value = λ i. (key i, sym value i)

  -- what the value at a key is
  value : (e : Entry) (k v : List ℕ) → e.0 ≡ k → value_at entries e.0 ≡ Some e.1 → value_at entries k ≡ Some v → v ≡ e.1
  value e k v key found is = same_Some v e.1 (sym is ∙ ap (value_at entries) (sym key) ∙ found)

  of-entry : (e : Entry) → value_at entries e.0 ≡ Some e.1 → IsEntryOf s e
  of-entry e found = elim (cases_number e.0) [
    | inl k ↦ inl (here e number_key (number_value (length s.objects)) k (value e number_key (number_value (length s.objects)) k found rows.number))
    | inr no_number ↦ elim (cases_object (length s.objects) e.0) [
      | inl w ↦ inr (inl record {
        number = w.0;
        there = w.1.0;
        entry = here e (object_key w.0) (object_value (object_of s w.0)) w.1.1
            (value e (object_key w.0) (object_value (object_of s w.0)) w.1.1 found (rows.objects w.0 w.1.0));
      })
      | inr no_object ↦ elim (cases_fact e.0) [
        | inl w ↦ (
            let row = row-some (s.added w.0 w.1.0 w.1.1.0) e.1 (sym (rows.facts w.0 w.1.0 w.1.1.0) ∙ ap (value_at entries) (sym w.1.1.1) ∙ found) in
            inr (inr record {
              reference = w.0;
              from = w.1.0;
              to = w.1.1.0;
              known = row.0;
              entry = here e (fact_key w.0 w.1.0 w.1.1.0) (fact_value (s.added w.0 w.1.0 w.1.1.0)) w.1.1.1 row.1;
            }))
        | inr no_fact ↦ absurd (None-ne_Some (sym (rows.others e.0 record { number = no_number; object = no_object; fact = no_fact }) ∙ found))
      ]
    ]
  ]

  at : (e : Entry) (k v : List ℕ) → e ≡ (k, v) → value_at entries k ≡ Some v → Contains entries e
  at e k v is found = subst (λ (f : Entry). Contains entries f) (sym is) (entry-from_value entries k v found)

  entry-of : (e : Entry) → IsEntryOf s e → Contains entries e
  entry-of e is = elim is [
    | inl n ↦ at e number_key (number_value (length s.objects)) n rows.number
    | inr rest ↦ elim rest [
      | inl o ↦ at e (object_key o.number) (object_value (object_of s o.number)) o.entry (rows.objects o.number o.there)
      | inr f ↦ at e (fact_key f.reference f.from f.to) (fact_value (s.added f.reference f.from f.to)) f.entry
          (rows.facts f.reference f.from f.to ∙ row-known (s.added f.reference f.from f.to) f.known)
    ]
  ]

  pub IsMapOf-rows : IsMapOf s entries
  IsMapOf-rows e = (λ there. of-entry e (All-contains (λ (f : Entry). value_at entries f.0 ≡ Some f.1) entries e own there), entry-of e)
