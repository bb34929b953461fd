-- The values of a state in a map, after an entry was put.
use Rattle.std.proofs.Common.{◌≡◌, ◌≢◌, ◌∙◌, ℕ, ◌+◌, ◌<◌, ◌≤◌, List, [], ◌∷◌, Some, Bool, true, false, ◌&&◌, ◌==◌, if◌then◌else◌, length, refl, sym, ap, subst, inl, inr, arith}
use Rattle.std.proofs.lemmas.Bool.{and_from, cases_Bool, cases_eq, eq-eqb}
use Rattle.std.proofs.lemmas.List.{get_or-set_other, get_or-set_same, get_or_append_left, get_or_push, length-set, length_push}
use Rattle.rf_values.specs.declared.truth.Truth.{Truth}
use Rattle.rf_values.specs.declared.truth.Truth.TheVariants.{True, False, Unknown, Error}
use Rattle.rf_store.specs.Contents.{SetsOnly}
use Rattle.rf_store.specs.Entries.{Entry, value_at}
use Rattle.rf_state.specs.State.{State, is_at, no_object, object_of, with_object}
use Rattle.rf_state.specs.declared.object.Object.{Object}
use Rattle.rf_state.proofs.Keys.{same_key}
use Rattle.rf_vstate.specs.Rows.{HasRows, IsOtherKey, fact_row, with_fact, with_one_more}
use Rattle.rf_vstate.specs.Words.{fact_key, fact_value, number_key, number_value, object_key, object_value}
use Rattle.rf_vstate.proofs.KeyKinds.{fact_key-same, number-ne_fact, number-ne_object, object-ne_fact, object_key-same}

-- a key of no kind stays so where there are fewer objects
IsOtherKey-fewer : (n m : ℕ) (k : List ℕ) → n ≤ m → IsOtherKey m k → IsOtherKey n k
IsOtherKey-fewer n m k le other = record { number = other.number; object = λ o l. other.object o (omega (arith, le, l)); fact = other.fact }

module _ (s : State) (old new : List Entry) (rows : HasRows s old) where
  -- another object
  module _ (o : ℕ) (x : Object) (there : o < length s.objects) (put : SetsOnly old new (object_key o) (object_value x)) where
    many : length (with_object s o x).objects ≡ length s.objects
    many = length-set s.objects o x

    object : (y : ℕ) → y < length s.objects → value_at new (object_key y) ≡ Some (object_value (object_of (with_object s o x) y))
    object y l = elim (cases_eq y o) [
      | inl e ↦ subst (λ z. value_at new (object_key z) ≡ Some (object_value (object_of (with_object s o x) z))) (sym e)
          (put.this_key ∙ ap (λ (z : Object). Some (object_value z)) (sym (get_or-set_same s.objects o x no_object there)))
      | inr ne ↦ put.other_keys (object_key y) (λ same. ne (object_key-same y o same)) ∙ rows.objects y l
          ∙ ap (λ (z : Object). Some (object_value z)) (sym (get_or-set_other s.objects o y x no_object ne))
    ]

    pub HasRows-object : HasRows (with_object s o x) new
    HasRows-object = record {
      number = put.other_keys number_key (number-ne_object o) ∙ rows.number ∙ ap (λ n. Some (number_value n)) (sym many);
      objects = λ y l. object y (subst (λ n. y < n) many l);
      facts = λ r a b. put.other_keys (fact_key r a b) (λ e. object-ne_fact o r a b (sym e)) ∙ rows.facts r a b;
      others = λ k other.
          let same = subst (λ n. IsOtherKey n k) many other in
          put.other_keys k (same.object o there) ∙ rows.others k same;
    }

  -- another truth of a fact
  module _ (r a b : ℕ) (v : Truth) (known : v ≢ Unknown) (put : SetsOnly old new (fact_key r a b) (fact_value v)) where
    row-known : (t : Truth) → t ≢ Unknown → Some (fact_value t) ≡ fact_row t
    row-known True ne = refl
    row-known False ne = refl
    row-known Unknown ne = absurd (ne refl)
    row-known Error ne = refl

    fact : (q x y : ℕ) → value_at new (fact_key q x y) ≡ fact_row ((with_fact s r a b v).added q x y)
    fact q x y = elim (cases_Bool (is_at r a b q x y)) [
      | inl t ↦ same_key (λ i j k. value_at new (fact_key i j k)) r a b q x y t ∙ put.this_key ∙ row-known v known
          ∙ ap (λ (c : Bool). fact_row (if c then v else s.added q x y)) (sym t)
      | inr f ↦ put.other_keys (fact_key q x y) (apart q x y f) ∙ rows.facts q x y
          ∙ ap (λ (c : Bool). fact_row (if c then v else s.added q x y)) (sym f)
    ]
      where
        apart : (q x y : ℕ) → is_at r a b q x y ≡ false → fact_key q x y ≢ fact_key r a b
        apart q x y f e =
            let same = fact_key-same q x y r a b e in
            let t = and_from (q == r) (x == a && y == b) (eq-eqb q r same.0) (and_from (x == a) (y == b) (eq-eqb x a same.1.0) (eq-eqb y b same.1.1)) in
            let h : true ≡ false = sym t ∙ f in
            cc

    pub HasRows-fact : HasRows (with_fact s r a b v) new
    HasRows-fact = record {
      number = put.other_keys number_key (number-ne_fact r a b) ∙ rows.number;
      objects = λ y l. put.other_keys (object_key y) (object-ne_fact y r a b) ∙ rows.objects y l;
      facts = fact;
      others = λ k other. put.other_keys k (other.fact r a b) ∙ rows.others k other;
    }

  -- one object more
  module _ (mid : List Entry) (x : Object) (first : SetsOnly old mid (object_key (length s.objects)) (object_value x))
      (second : SetsOnly mid new number_key (number_value (length s.objects + 1))) where
    more : length (with_one_more s x).objects ≡ length s.objects + 1
    more = length_push s.objects x

    pushed : (y : ℕ) → y < length s.objects + 1 → value_at new (object_key y) ≡ Some (object_value (object_of (with_one_more s x) y))
    pushed y l = second.other_keys (object_key y) (λ e. number-ne_object y (sym e)) ∙ elim (cases_eq y (length s.objects)) [
      | inl e ↦ subst (λ z. value_at mid (object_key z) ≡ Some (object_value (object_of (with_one_more s x) z))) (sym e)
          (first.this_key ∙ ap (λ (z : Object). Some (object_value z)) (sym (get_or_push s.objects x no_object (length s.objects) refl)))
      | inr ne ↦ (let below : y < length s.objects = omega (arith, l, ne) in
          first.other_keys (object_key y) (λ same. ne (object_key-same y (length s.objects) same)) ∙ rows.objects y below
          ∙ ap (λ (z : Object). Some (object_value z)) (sym (get_or_append_left s.objects (x ∷ []) no_object y below)))
    ]

    pub HasRows-pushed : HasRows (with_one_more s x) new
    HasRows-pushed = record {
      number = second.this_key ∙ ap (λ n. Some (number_value n)) (sym more);
      objects = λ y l. pushed y (subst (λ n. y < n) more l);
      facts = λ r a b.
          second.other_keys (fact_key r a b) (λ e. number-ne_fact r a b (sym e))
          ∙ first.other_keys (fact_key r a b) (λ e. object-ne_fact (length s.objects) r a b (sym e))
          ∙ rows.facts r a b;
      others = λ k other.
          let same = subst (λ n. IsOtherKey n k) more other in
          second.other_keys k same.number
          ∙ first.other_keys k (same.object (length s.objects) (omega arith))
          ∙ rows.others k (IsOtherKey-fewer (length s.objects) (length s.objects + 1) k (omega arith) same);
    }
