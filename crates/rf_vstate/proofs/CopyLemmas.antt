-- Facts copied within a map, one after another.
use Rattle.std.proofs.Common.{◌≡◌, ◌∙◌, ℕ, ◌+◌, ◌<◌, ◌≤◌, List, Bool, true, true≢false, ◌&&◌, ◌==◌, nat_lt, if◌then◌else◌, Option, None, Some, refl, sym, ap, inl, inr, arith}
use Rattle.std.proofs.lemmas.Bool.{and_from, and_parts, cases_Bool, cases_eq, cases_lt, eq-eqb, eqb-true, false_from_ne_true, lt-ltb, ltb-true, ne_eqb}
use Rattle.rf_finite.proofs.Range.{None-ne_Some}
use Rattle.rf_store.specs.Contents.{SetsOnly}
use Rattle.rf_store.specs.Entries.{Entry}
use Rattle.rf_state.specs.State.{copied_from, is_at}
use Rattle.rf_state.proofs.Keys.{same_key}
use Rattle.rf_vstate.specs.Copies.{AreBelow, HasFacts, fact_at, with_copies_from, with_copies_into, with_copy, with_fresh_at, with_fresh_below}
use Rattle.rf_vstate.specs.Rows.{AreOwn}
use Rattle.rf_vstate.specs.Words.{fact_key}
use Rattle.rf_vstate.proofs.Entries.{AreOwn-ordered}
use Rattle.rf_vstate.proofs.KeyKinds.{fact_key-same}

abbrev Row : Type 0
Row = Option (List ℕ)

-- one of two rows, by a test
chosen : (b : Bool) (x y : Row) → b ≡ true → (if b then x else y) ≡ x
chosen b x y t = ap (λ (c : Bool). if c then x else y) t

left : (b : Bool) (x y : Row) → (b ≡ true → ⊥) → (if b then x else y) ≡ y
left b x y off = ap (λ (c : Bool). if c then x else y) (false_from_ne_true b off)

is_at-same : (r a b q x y : ℕ) → q ≡ r → x ≡ a → y ≡ b → is_at r a b q x y ≡ true
is_at-same r a b q x y e f g = and_from (q == r) (x == a && y == b) (eq-eqb q r e) (and_from (x == a) (y == b) (eq-eqb x a f) (eq-eqb y b g))

-- whether these are the same reference and object, and the other is before the end
abbrev is_line : ℕ → ℕ → ℕ → ℕ → ℕ → ℕ → Bool
is_line r n end q z w = q == r && (z == n && nat_lt w end)

is_line-same : (r n end q z w : ℕ) → q ≡ r → z ≡ n → w < end → is_line r n end q z w ≡ true
is_line-same r n end q z w e f l = and_from (q == r) (z == n && nat_lt w end) (eq-eqb q r e) (and_from (z == n) (nat_lt w end) (eq-eqb z n f) (lt-ltb w end l))

line-parts : (r n end q z w : ℕ) → is_line r n end q z w ≡ true → (q ≡ r) × ((z ≡ n) × (w < end))
line-parts r n end q z w t =
    let parts = and_parts (q == r) (z == n && nat_lt w end) t in
    let rest = and_parts (z == n) (nat_lt w end) parts.1 in
    (eqb-true q r parts.0, (eqb-true z n rest.0, ltb-true w end rest.1))

at-parts : (r a b q x y : ℕ) → is_at r a b q x y ≡ true → (q ≡ r) × ((x ≡ a) × (y ≡ b))
at-parts r a b q x y t =
    let parts = and_parts (q == r) (x == a && y == b) t in
    let rest = and_parts (x == a) (y == b) parts.1 in
    (eqb-true q r parts.0, (eqb-true x a rest.0, eqb-true y b rest.1))

-- ---- one fact

module _ (old new : List Entry) (r a b x y : ℕ) where
  pub HasFacts-put : (value : List ℕ) → fact_at old r a b ≡ Some value → SetsOnly old new (fact_key r x y) value → HasFacts old new (with_copy old r a b x y)
  HasFacts-put value found put = record {
    each = λ q u v. elim (cases_Bool (is_at r x y q u v)) [
      | inl t ↦ same_key (fact_at new) r x y q u v t ∙ put.this_key ∙ sym found ∙ sym (chosen (is_at r x y q u v) (fact_at old r a b) (fact_at old q u v) t)
      | inr f ↦ put.other_keys (fact_key q u v) (λ e. (let s = fact_key-same q u v r x y e in true≢false (sym (is_at-same r x y q u v s.0 s.1.0 s.1.1) ∙ f)))
          ∙ sym (ap (λ (c : Bool). if c then fact_at old r a b else fact_at old q u v) f)
    ];
    others = λ k other. put.other_keys k (other r x y);
    own = AreOwn-ordered new put.in_order;
  }

  pub HasFacts-nothing : fact_at old r a b ≡ None → fact_at old r x y ≡ None → AreOwn old → HasFacts old old (with_copy old r a b x y)
  HasFacts-nothing none free own = record {
    each = λ q u v. elim (cases_Bool (is_at r x y q u v)) [
      | inl t ↦ same_key (fact_at old) r x y q u v t ∙ free ∙ sym none ∙ sym (chosen (is_at r x y q u v) (fact_at old r a b) (fact_at old q u v) t)
      | inr f ↦ sym (ap (λ (c : Bool). if c then fact_at old r a b else fact_at old q u v) f)
    ];
    others = λ k other. refl;
    own = own;
  }

-- where nothing is, outside
pub none-outside : (entries : List Entry) (r n a b : ℕ) → AreBelow entries r n → (a < n → b < n → ⊥) → fact_at entries r a b ≡ None
none-outside entries r n a b below out = go (fact_at entries r a b) refl
  where
    go : (w : Row) → fact_at entries r a b ≡ w → fact_at entries r a b ≡ None
    go None is = is
    go (Some v) is = (let in_ = below a b (λ none. None-ne_Some (sym none ∙ is)) in absurd (out in_.0 in_.1))

-- ---- a line of facts

pub HasFacts-same : (old : List Entry) (f : ℕ → ℕ → ℕ → Row) → AreOwn old → ((q u v : ℕ) → f q u v ≡ fact_at old q u v) → HasFacts old old f
HasFacts-same old f own same = record { each = λ q u v. sym (same q u v); others = λ k other. refl; own = own }

pub into-none : (old : List Entry) (r o n q u v : ℕ) → with_copies_into old r o n 0 q u v ≡ fact_at old q u v
into-none old r o n q u v = left (is_line r n 0 q v u) _ _ (λ t. (let l = line-parts r n 0 q v u t in absurd (omega (arith, l))))

pub from-none : (old : List Entry) (r o n q u v : ℕ) → with_copies_from old r o n 0 q u v ≡ fact_at old q u v
from-none old r o n q u v = left (is_line r n 0 q u v) _ _ (λ t. (let l = line-parts r n 0 q u v t in absurd (omega (arith, l))))

module _ (old mid : List Entry) (r o n a : ℕ) (of : o < n) (so_far : HasFacts old mid (with_copies_into old r o n a)) where
  pub into-free : AreBelow old r n → fact_at mid r a n ≡ None
  into-free below = so_far.each r a n ∙ left (is_line r n a r n a) _ _ (λ t. (let l = line-parts r n a r n a t in absurd (omega (arith, l))))
      ∙ none-outside old r n a n below (λ _ l. absurd (omega (arith, l)))

  into-source : (u : ℕ) → fact_at mid r u o ≡ fact_at old r u o
  into-source u = so_far.each r u o ∙ left (is_line r n a r o u) _ _ (λ t. (let l = line-parts r n a r o u t in absurd (omega (arith, l, of))))

  pub into-more : (new : List Entry) → HasFacts mid new (with_copy mid r a o a n) → HasFacts old new (with_copies_into old r o n (a + 1))
  into-more new more = record {
    each = λ q u v. more.each q u v ∙ step q u v;
    others = λ k other. more.others k other ∙ so_far.others k other;
    own = more.own;
  }
    where
      step : (q u v : ℕ) → with_copy mid r a o a n q u v ≡ with_copies_into old r o n (a + 1) q u v
      step q u v = elim (cases_Bool (is_at r a n q u v)) [
        | inl t ↦ (
            let same = at-parts r a n q u v t in
            chosen (is_at r a n q u v) _ _ t ∙ into-source a ∙ ap (λ m. fact_at old r m o) (sym same.1.0)
            ∙ sym (chosen (is_line r n (a + 1) q v u) _ _ (is_line-same r n (a + 1) q v u same.0 same.1.1 (omega (arith, same)))))
        | inr f ↦ ap (λ (c : Bool). if c then fact_at mid r a o else fact_at mid q u v) f ∙ so_far.each q u v ∙ elim (cases_Bool (is_line r n a q v u)) [
          | inl t ↦ (
              let l = line-parts r n a q v u t in
              chosen (is_line r n a q v u) _ _ t
              ∙ sym (chosen (is_line r n (a + 1) q v u) _ _ (is_line-same r n (a + 1) q v u l.0 l.1.0 (omega (arith, l)))))
          | inr g ↦ ap (λ (c : Bool). if c then fact_at old r u o else fact_at old q u v) g
              ∙ sym (left (is_line r n (a + 1) q v u) _ _ (λ t. (let l = line-parts r n (a + 1) q v u t in elim (cases_eq u a) [
                | inl e ↦ absurd (true≢false (sym (is_at-same r a n q u v l.0 e l.1.0) ∙ f))
                | inr ne ↦ absurd (true≢false (sym (is_line-same r n a q v u l.0 l.1.0 (omega (arith, l, ne))) ∙ g))
              ])))
        ]
      ]

module _ (old mid : List Entry) (r o n b : ℕ) (of : o < n) (so_far : HasFacts old mid (with_copies_from old r o n b)) where
  pub from-free : ((v : ℕ) → fact_at old r n v ≡ None) → fact_at mid r n b ≡ None
  from-free free = so_far.each r n b ∙ left (is_line r n b r n b) _ _ (λ t. (let l = line-parts r n b r n b t in absurd (omega (arith, l)))) ∙ free b

  from-source : (v : ℕ) → fact_at mid r o v ≡ fact_at old r o v
  from-source v = so_far.each r o v ∙ left (is_line r n b r o v) _ _ (λ t. (let l = line-parts r n b r o v t in absurd (omega (arith, l, of))))

  pub from-more : (new : List Entry) → HasFacts mid new (with_copy mid r o b n b) → HasFacts old new (with_copies_from old r o n (b + 1))
  from-more new more = record {
    each = λ q u v. more.each q u v ∙ step q u v;
    others = λ k other. more.others k other ∙ so_far.others k other;
    own = more.own;
  }
    where
      step : (q u v : ℕ) → with_copy mid r o b n b q u v ≡ with_copies_from old r o n (b + 1) q u v
      step q u v = elim (cases_Bool (is_at r n b q u v)) [
        | inl t ↦ (
            let same = at-parts r n b q u v t in
            chosen (is_at r n b q u v) _ _ t ∙ from-source b ∙ ap (fact_at old r o) (sym same.1.1)
            ∙ sym (chosen (is_line r n (b + 1) q u v) _ _ (is_line-same r n (b + 1) q u v same.0 same.1.0 (omega (arith, same)))))
        | inr f ↦ ap (λ (c : Bool). if c then fact_at mid r o b else fact_at mid q u v) f ∙ so_far.each q u v ∙ elim (cases_Bool (is_line r n b q u v)) [
          | inl t ↦ (
              let l = line-parts r n b q u v t in
              chosen (is_line r n b q u v) _ _ t
              ∙ sym (chosen (is_line r n (b + 1) q u v) _ _ (is_line-same r n (b + 1) q u v l.0 l.1.0 (omega (arith, l)))))
          | inr g ↦ ap (λ (c : Bool). if c then fact_at old r o v else fact_at old q u v) g
              ∙ sym (left (is_line r n (b + 1) q u v) _ _ (λ t. (let l = line-parts r n (b + 1) q u v t in elim (cases_eq v b) [
                | inl e ↦ absurd (true≢false (sym (is_at-same r n b q u v l.0 l.1.0 e) ∙ f))
                | inr ne ↦ absurd (true≢false (sym (is_line-same r n b q u v l.0 l.1.0 (omega (arith, l, ne))) ∙ g))
              ])))
        ]
      ]

-- ---- the facts of a reference

copied-here : (o n : ℕ) → copied_from o n n ≡ o
copied-here o n = ap (λ (c : Bool). if c then o else n) (eq-eqb n n refl)

copied-other : (o n x : ℕ) → (x ≡ n → ⊥) → copied_from o n x ≡ x
copied-other o n x ne = ap (λ (c : Bool). if c then o else x) (ne_eqb x n ne)

module _ (old mid new : List Entry) (r o n : ℕ) (of : o < n) (below : AreBelow old r n)
    (first : HasFacts old mid (with_copies_into old r o n n)) (second : HasFacts mid new (with_copies_from mid r o n (n + 1))) where
  -- the second end alone
  ends : (u v : ℕ) → fact_at mid r u v ≡ fact_at old r u (copied_from o n v)
  ends u v = first.each r u v ∙ elim (cases_eq v n) [
    | inl e ↦ elim (cases_lt u n) [
      | inl l ↦ chosen (is_line r n n r v u) _ _ (is_line-same r n n r v u refl e l) ∙ ap (fact_at old r u) (sym (ap (copied_from o n) e ∙ copied-here o n))
      | inr m ↦ left (is_line r n n r v u) _ _ (λ t. (let l = line-parts r n n r v u t in absurd (omega (arith, l, m))))
          ∙ none-outside old r n u v below (λ l _. absurd (omega (arith, l, m)))
          ∙ sym (none-outside old r n u (copied_from o n v) below (λ l _. absurd (omega (arith, l, m))))
    ]
    | inr ne ↦ left (is_line r n n r v u) _ _ (λ t. ne (line-parts r n n r v u t).1.0) ∙ ap (fact_at old r u) (sym (copied-other o n v ne))
  ]

  both : (u v : ℕ) → fact_at new r u v ≡ fact_at old r (copied_from o n u) (copied_from o n v)
  both u v = second.each r u v ∙ elim (cases_eq u n) [
    | inl e ↦ elim (cases_lt v (n + 1)) [
      | inl l ↦ chosen (is_line r n (n + 1) r u v) _ _ (is_line-same r n (n + 1) r u v refl e l) ∙ ends o v
          ∙ ap (λ m. fact_at old r m (copied_from o n v)) (sym (ap (copied_from o n) e ∙ copied-here o n))
      | inr m ↦ (let same = copied-other o n v (λ f. absurd (omega (arith, f, m))) in
          left (is_line r n (n + 1) r u v) _ _ (λ t. (let l = line-parts r n (n + 1) r u v t in absurd (omega (arith, l, m))))
          ∙ ends u v
          ∙ none-outside old r n u (copied_from o n v) below (λ l _. absurd (omega (arith, l, e)))
          ∙ sym (none-outside old r n (copied_from o n u) (copied_from o n v) below (λ _ l. absurd (omega (arith, l, m, same)))))
    ]
    | inr ne ↦ left (is_line r n (n + 1) r u v) _ _ (λ t. ne (line-parts r n (n + 1) r u v t).1.0) ∙ ends u v
        ∙ ap (λ m. fact_at old r m (copied_from o n v)) (sym (copied-other o n u ne))
  ]

  pub reference-copied : HasFacts old new (with_fresh_at old r o n)
  reference-copied = record {
    each = λ q u v. elim (cases_eq q r) [
      | inl e ↦ ap (λ m. fact_at new m u v) e ∙ both u v ∙ ap (λ m. fact_at old m (copied_from o n u) (copied_from o n v)) (sym e)
          ∙ sym (chosen (q == r) _ _ (eq-eqb q r e))
      | inr ne ↦ second.each q u v ∙ left (is_line r n (n + 1) q u v) _ _ (λ t. ne (line-parts r n (n + 1) q u v t).0)
          ∙ first.each q u v ∙ left (is_line r n n q v u) _ _ (λ t. ne (line-parts r n n q v u t).0)
          ∙ sym (left (q == r) _ _ (λ t. ne (eqb-true q r t)))
    ];
    others = λ k other. second.others k other ∙ first.others k other;
    own = second.own;
  }

-- the object at the first end is no fresh one
pub into-first_free : (old mid : List Entry) (r o n : ℕ) → AreBelow old r n → HasFacts old mid (with_copies_into old r o n n) → (v : ℕ) → fact_at mid r n v ≡ None
into-first_free old mid r o n below first v = first.each r n v
    ∙ left (is_line r n n r v n) _ _ (λ t. (let l = line-parts r n n r v n t in absurd (omega (arith, l))))
    ∙ none-outside old r n n v below (λ l _. absurd (omega (arith, l)))

-- ---- the facts of all references

pub below-none : (old : List Entry) (o n q u v : ℕ) → with_fresh_below old 0 o n q u v ≡ fact_at old q u v
below-none old o n q u v = left (nat_lt q 0) _ _ (λ t. (let l = ltb-true q 0 t in absurd (omega (arith, l))))

module _ (old mid : List Entry) (r o n : ℕ) (so_far : HasFacts old mid (with_fresh_below old r o n)) where
  later : (q u v : ℕ) → r ≤ q → fact_at mid q u v ≡ fact_at old q u v
  later q u v l = so_far.each q u v ∙ left (nat_lt q r) _ _ (λ t. (let m = ltb-true q r t in absurd (omega (arith, l, m))))

  pub reference-below : AreBelow old r n → AreBelow mid r n
  reference-below below a b some = below a b (λ none. some (later r a b (omega arith) ∙ none))

  pub references-more : (new : List Entry) → HasFacts mid new (with_fresh_at mid r o n) → HasFacts old new (with_fresh_below old (r + 1) o n)
  references-more new more = record {
    each = λ q u v. more.each q u v ∙ step q u v;
    others = λ k other. more.others k other ∙ so_far.others k other;
    own = more.own;
  }
    where
      step : (q u v : ℕ) → with_fresh_at mid r o n q u v ≡ with_fresh_below old (r + 1) o n q u v
      step q u v = elim (cases_eq q r) [
        | inl e ↦ chosen (q == r) _ _ (eq-eqb q r e) ∙ later q (copied_from o n u) (copied_from o n v) (omega (arith, e))
            ∙ sym (chosen (nat_lt q (r + 1)) _ _ (lt-ltb q (r + 1) (omega (arith, e))))
        | inr ne ↦ left (q == r) _ _ (λ t. ne (eqb-true q r t)) ∙ so_far.each q u v ∙ elim (cases_lt q r) [
          | inl l ↦ chosen (nat_lt q r) _ _ (lt-ltb q r l) ∙ sym (chosen (nat_lt q (r + 1)) _ _ (lt-ltb q (r + 1) (omega (arith, l))))
          | inr m ↦ left (nat_lt q r) _ _ (λ t. (let l = ltb-true q r t in absurd (omega (arith, l, m))))
              ∙ sym (left (nat_lt q (r + 1)) _ _ (λ t. (let l = ltb-true q (r + 1) t in absurd (omega (arith, l, m, ne)))))
        ]
      ]
