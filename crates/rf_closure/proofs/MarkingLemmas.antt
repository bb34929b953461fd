-- Marking the vertices of a row, one after another.
use Rattle.std.proofs.Common.{◌≡◌, ℕ, zero, suc, ◌+◌, ◌<◌, ◌||◌, ◌&&◌, Bool, true, false, ltb, eqb, not, ap, true≢false, List, [], ◌∷◌, ◌++◌, length, take, get_or, set, refl, sym, ◌∙◌, subst, inl, inr, arith, get_or-set_same, get_or-set_other, length-set, length-append}
use Rattle.std.proofs.lemmas.Bool.{and_parts, not-true, cases_eq, lt-ltb, le-ltb, eq-eqb, ne_eqb, cases_lt, or_left}
use Rattle.std.proofs.lemmas.List.Elements.{Contains-append_left, Contains-push, Contains-push_cases}
use Rattle.std.proofs.lemmas.List.Folds.{list_any_more}
use Rattle.std.specs.Prelude.{Contains}
use Rattle.std.specs.List.{list_any}
use Rattle.rf_closure.specs.Marking.{Marking, unmarked_count}

unmarked_count-set : (marks : List Bool) (i : ℕ) → i < length marks → get_or marks i false ≡ false → unmarked_count marks ≡ suc (unmarked_count (set marks i true))
unmarked_count-set [] i l e = absurd (omega arith)
unmarked_count-set (true ∷ ms) zero l e = absurd (true≢false e)
unmarked_count-set (false ∷ ms) zero l e = omega arith
unmarked_count-set (true ∷ ms) (suc i) l e = let r = unmarked_count-set ms i (omega arith) e in omega arith
unmarked_count-set (false ∷ ms) (suc i) l e = let r = unmarked_count-set ms i (omega arith) e in omega arith

or_false : (b : Bool) → b ≡ (b || false)
or_false true = refl
or_false false = refl

or_true : (b : Bool) → true ≡ (b || true)
or_true true = refl
or_true false = refl

-- the row goes on by one vertex b, which counts where listed says so
pub record IsRowMore (row row' : ℕ → Bool) (b : ℕ) (listed : Bool) : Type 0 where
  pub at : (k : ℕ) → row' k ≡ (row k || (eqb b k && listed))

-- a row below i goes on by its vertex i
pub IsRowMore-below : (row : ℕ → Bool) (i : ℕ) → IsRowMore (λ k. ltb k i && row k) (λ k. ltb k (i + 1) && row k) i (row i)
IsRowMore-below row i = record {
  at = λ k. elim (cases_eq k i) [
    | inl e ↦ (let before : ltb i i ≡ false = le-ltb i i (omega arith) in
        let after : ltb i (i + 1) ≡ true = lt-ltb i (i + 1) (omega arith) in
        let same : eqb i i ≡ true = eq-eqb i i refl in
        subst (λ k. (ltb k (i + 1) && row k) ≡ ((ltb k i && row k) || (eqb i k && row i))) (sym e) (rw (before, after, same) refl))
    | inr ne ↦ (let other : eqb i k ≡ false = ne_eqb i k (λ e. ne (sym e)) in elim (cases_lt k i) [
      | inl l ↦ (let before : ltb k i ≡ true = lt-ltb k i l in
          let after : ltb k (i + 1) ≡ true = lt-ltb k (i + 1) (omega arith) in
          rw (before, after, other) (or_false (row k)))
      | inr g ↦ (let before : ltb k i ≡ false = le-ltb k i g in
          let after : ltb k (i + 1) ≡ false = le-ltb k (i + 1) (omega arith) in
          rw (before, after, other) refl)
    ])
  ];
}

-- the vertices of a list go on by the next of the list
pub IsRowMore-listed : (vertices : List ℕ) (i : ℕ) → i < length vertices
    → IsRowMore (λ k. list_any (λ c. eqb c k) (take i vertices)) (λ k. list_any (λ c. eqb c k) (take (i + 1) vertices)) (get_or vertices i 0) true
IsRowMore-listed vertices i l = record {
  at = λ k. list_any_more (λ c. eqb c k) vertices i 0 l ∙ ap (λ t. list_any (λ c. eqb c k) (take i vertices) || t) (and_true (eqb (get_or vertices i 0) k));
}
  where
    and_true : (b : Bool) → b ≡ (b && true)
    and_true true = refl
    and_true false = refl

module _ (size : ℕ) (old_marks : List Bool) (old_stack : List ℕ) where
  -- b isn't a vertex, or marked already, or not in the row
  pub Marking-skip : (row row' : ℕ → Bool) (marks : List Bool) (stack : List ℕ) (b : ℕ) (listed : Bool) → IsRowMore row row' b listed
      → Marking size row old_marks old_stack marks stack → (b < size → (not (get_or marks b false) && listed) ≡ false)
      → Marking size row' old_marks old_stack marks stack
  Marking-skip row row' marks stack b listed more m old = record {
    len = m.len;
    marked = λ k l. m.marked k l ∙ elim (cases_eq k b) [
      | inl e ↦ (let same : eqb b k ≡ true = eq-eqb b k (sym e) in
          let skipped : (not (get_or marks k false) && listed) ≡ false =
          subst (λ b. (not (get_or marks b false) && listed) ≡ false) (sym e) (old (subst (λ k. k < size) e l)) in
          rw (more.at k, same) (no_more (get_or marks k false) (get_or old_marks k false) (row k) listed (m.marked k l) skipped))
      | inr ne ↦ (let other : eqb b k ≡ false = ne_eqb b k (λ e. ne (sym e)) in
          ap (λ t. get_or old_marks k false || t) (rw (more.at k, other) (or_false (row k))))
    ];
    kept = m.kept;
    added = m.added;
    only = λ k c. elim (m.only k c) [ inl e ↦ inl e | inr e ↦ inr (e.0, more.at k ∙ or_left (row k) (eqb b k && listed) e.1) ];
    balance = m.balance;
  }
    where
      no_more : (b w r i : Bool) → b ≡ (w || r) → (not b && i) ≡ false → (w || r) ≡ (w || (r || i))
      no_more b true r i e s = refl
      no_more b false true i e s = refl
      no_more true false false i e s = absurd (true≢false e)
      no_more false false false i e s = sym s

  -- b is a vertex in the row and was not marked
  pub Marking-mark : (row row' : ℕ → Bool) (marks : List Bool) (stack : List ℕ) (b : ℕ) (listed : Bool) → IsRowMore row row' b listed
      → Marking size row old_marks old_stack marks stack → b < size → (not (get_or marks b false) && listed) ≡ true
      → Marking size row' old_marks old_stack (set marks b true) (stack ++ b ∷ [])
  Marking-mark row row' marks stack b listed more m l new =
      let parts = and_parts (not (get_or marks b false)) listed new in
      let in_row : row' b ≡ true = (let same : eqb b b ≡ true = eq-eqb b b refl in rw (more.at b, same, parts.1) (sym (or_true (row b)))) in
      let in_marks : b < length marks = (let e = m.len in omega arith) in record {
        len = rw length-set m.len;
        marked = λ k lk. elim (cases_eq k b) [
          | inl e ↦ subst (λ k. get_or (set marks b true) k false ≡ (get_or old_marks k false || row' k)) (sym e)
              (get_or-set_same marks b true false in_marks ∙ rw in_row (or_true (get_or old_marks b false)))
          | inr ne ↦ (let other : eqb b k ≡ false = ne_eqb b k (λ e. ne (sym e)) in
              get_or-set_other marks b k true false ne ∙ (m.marked k lk
              ∙ ap (λ t. get_or old_marks k false || t) (rw (more.at k, other) (or_false (row k)))))
        ];
        kept = λ k c. Contains-append_left stack (b ∷ []) k (m.kept k c);
        added = λ k lk unmarked marked. elim (cases_eq k b) [
          | inl e ↦ subst (Contains (stack ++ b ∷ [])) (sym e) (Contains-push stack b)
          | inr ne ↦ Contains-append_left stack (b ∷ []) k (m.added k lk unmarked (sym (get_or-set_other marks b k true false ne) ∙ marked))
        ];
        only = λ k c. elim (Contains-push_cases stack b k c) [
          | inl e ↦ elim (m.only k e) [ inl f ↦ inl f | inr f ↦ inr (f.0, more.at k ∙ or_left (row k) (eqb b k && listed) f.1) ]
          | inr e ↦ inr (subst (λ k. k < size) e l, subst (λ k. row' k ≡ true) e in_row)
        ];
        balance = (let total = m.balance in let one = unmarked_count-set marks b in_marks (not-true (get_or marks b false) parts.0) in rw length-append (omega arith));
      }
