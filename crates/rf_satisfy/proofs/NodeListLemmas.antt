-- Lists of the numbers that pass, and of the nodes that come from each object.
use Rattle.std.proofs.Common.{◌≡◌, ℕ, ◌+◌, ◌<◌, Bool, true, false, ◌||◌, eqb, List, [], ◌∷◌, ◌++◌, length, refl, sym, ◌∙◌, subst, ◌⊎◌, inl, inr, arith, length-append}
use Rattle.std.specs.Prelude.{Vec}
use Rattle.std.specs.declared.alloc.Global.{Global}
use Rattle.std.specs.List.{list_any}
use Rattle.std.proofs.lemmas.Bool.{cases_order, cases_eq, or_left, or_right, both_ways, eq-eqb, ne_eqb}
use Rattle.std.proofs.lemmas.List.{get_or_append_left, get_or_push}
use Rattle.std.proofs.lemmas.List.Folds.{list_any-append}
use Rattle.rf_graph.specs.Graph.{origin_of}
use Rattle.rf_graph.specs.declared.graph.Graph.{Graph}
use Rattle.rf_satisfy.specs.NodeLists.{AreLists, row_of}
use Rattle.rf_satisfy.specs.Tuples.{ArePassing}

-- a list of the numbers that pass, with one number more
pub ArePassing-skip : (n : ℕ) (test : ℕ → Bool) (items : List ℕ) → ArePassing n test items → test n ≡ false → ArePassing (n + 1) test items
ArePassing-skip n test items h f = record {
  only = λ i l. let o = h.only i l in let b = o.0 in (omega arith, o.1);
  ascending = h.ascending;
  complete = λ x l t. elim (cases_order x n) [
    | inl e ↦ absurd (both_ways (test n) f (subst (λ (y : ℕ). test y ≡ true) e t))
    | inr s ↦ elim s [ inl lt ↦ h.complete x lt t | inr gt ↦ absurd (omega arith) ]
  ];
}

pub ArePassing-push : (n : ℕ) (test : ℕ → Bool) (items : List ℕ) → ArePassing n test items → test n ≡ true → ArePassing (n + 1) test (items ++ n ∷ [])
ArePassing-push n test items h t = record {
  only = λ i l. elim (place i l) [
    | inl lt ↦ (let o = h.only i lt in let b = o.0 in rw (get_or_append_left items (n ∷ []) 0 i lt) (omega arith, o.1))
    | inr e ↦ rw (get_or_push items n 0 i (sym e)) (omega arith, t)
  ];
  ascending = λ i j ij l. elim (place j l) [
    | inl lt ↦ (let li : i < length items = omega arith in rw (get_or_append_left items (n ∷ []) 0 j lt, get_or_append_left items (n ∷ []) 0 i li) (h.ascending i j ij lt))
    | inr e ↦ (let li : i < length items = omega arith in let b = (h.only i li).0 in rw (get_or_push items n 0 j (sym e), get_or_append_left items (n ∷ []) 0 i li) b)
  ];
  complete = λ x l tx. list_any-append (λ y. eqb y x) items (n ∷ []) ∙ elim (cases_order x n) [
    | inl e ↦ or_right (list_any (λ y. eqb y x) items) (eqb n x || false) (or_left (eqb n x) false (eq-eqb n x (sym e)))
    | inr s ↦ elim s [
      | inl lt ↦ or_left (list_any (λ y. eqb y x) items) (eqb n x || false) (h.complete x lt tx)
      | inr gt ↦ absurd (omega arith)
    ]
  ];
}
  where
    longer : length (items ++ n ∷ []) ≡ length items + 1
    longer = length-append items (n ∷ [])

    place : (i : ℕ) → i < length (items ++ n ∷ []) → (i < length items) ⊎ (i ≡ length items)
    place i l = elim (cases_order i (length items)) [
      | inl e ↦ inr e
      | inr s ↦ elim s [ inl lt ↦ inl lt | inr gt ↦ absurd (omega (arith, longer)) ]
    ]

-- one node more
pub AreLists-more : (n : ℕ) (g : Graph) (objects : ℕ) (all : List ℕ) (rows now : List (Vec ℕ Global)) → AreLists n g objects all rows
    → length now ≡ length rows → row_of now (origin_of g n) ≡ row_of rows (origin_of g n) ++ n ∷ []
    → ((o : ℕ) → (o ≡ origin_of g n → ⊥) → row_of now o ≡ row_of rows o) → AreLists (n + 1) g objects (all ++ n ∷ []) now
AreLists-more n g objects all rows now h len here others = record {
  len = len ∙ h.len;
  all = ArePassing-push n (λ x. true) all h.all refl;
  each = λ o lo. elim (cases_eq o (origin_of g n)) [
    | inl e ↦ subst (λ (k : ℕ). ArePassing (n + 1) (λ x. eqb k (origin_of g x)) (row_of now k)) (sym e)
        (rw here (ArePassing-push n (λ x. eqb (origin_of g n) (origin_of g x)) (row_of rows (origin_of g n)) (subst (λ (k : ℕ). ArePassing n (λ x. eqb k (origin_of g x)) (row_of rows k)) e (h.each o lo)) (eq-eqb (origin_of g n) (origin_of g n) refl)))
    | inr ne ↦ rw (others o ne) (ArePassing-skip n (λ x. eqb o (origin_of g x)) (row_of rows o) (h.each o lo) (ne_eqb o (origin_of g n) ne))
  ];
}
