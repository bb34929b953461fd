-- One more name in an index of names, and one more in a list of names.
use Rattle.std.proofs.Common.{◌≡◌, ◌∙◌, ℕ, ◌+◌, ◌<◌, List, [], ◌∷◌, ◌++◌, length, get_or, IfSome, IfNone, Option, Some, None, true, refl, sym, ap, arith, inl, inr, length-append}
use Rattle.std.proofs.Math.Seq.{get_or-append_seam}
use Rattle.std.proofs.Math.ListN.{get_or-append}
use Rattle.std.proofs.lemmas.Bool.{cases_Bool, cases_lt}
use Rattle.std.proofs.lemmas.Slice.Eq.{bytes_eq-Decides}
use Rattle.std.specs.BTreeMap.{BTreeMap}
use Rattle.std.specs.Map.{update}
use Rattle.std.specs.Str.{bytes_eq}
use denote.Ref.{Bor}
use Rattle.rf_graph.specs.Names.{AreNames, IsCalled, IsIndex, IsNameOf, number_of}

pub one_more :
    (names : List (List ℕ)) (many : ℕ) (name : List ℕ) (old new : BTreeMap (Bor (List ℕ)) ℕ) → IsIndex names many old → get_or names many [] ≡ name →
    ((query : List ℕ) → number_of new query ≡ update bytes_eq (number_of old) name (Some many) query) → IsIndex names (many + 1) new
one_more names many name old new index called updated = record { right = right; full = full }
  where
    right : (query : List ℕ) (k : ℕ) → number_of new query ≡ Some k → (k < many + 1) × (get_or names k [] ≡ query)
    right query k found = elim (cases_Bool (bytes_eq name query)) [
      | inl same ↦ (let now : number_of new query ≡ Some many = updated query ∙ rw same refl in
          let here : many ≡ k = cc in
          (omega arith, rw (← here) (called ∙ (bytes_eq-Decides name query).0 same)))
      | inr other ↦ (let now : number_of new query ≡ number_of old query = updated query ∙ rw other refl in
          let before = index.right query k (sym now ∙ found) in
          (omega (arith, before.0), before.1))
    ]

    full : (k : ℕ) → k < many + 1 → number_of new (get_or names k []) ≡ None → ⊥
    full k within none = elim (cases_Bool (bytes_eq name (get_or names k []))) [
      | inl same ↦ (let now : number_of new (get_or names k []) ≡ Some many = updated (get_or names k []) ∙ rw same refl in cc)
      | inr other ↦ (let now : number_of new (get_or names k []) ≡ number_of old (get_or names k []) = updated (get_or names k []) ∙ rw other refl in
          elim (cases_lt k many) [
            | inl before ↦ index.full k before (sym now ∙ none)
            | inr not_before ↦ (let here : k ≡ many = omega arith in
                let again : name ≡ get_or names k [] = sym called ∙ ap (λ (j : ℕ). get_or names j []) (sym here) in
                let equal : bytes_eq name (get_or names k []) ≡ true = (bytes_eq-Decides name (get_or names k [])).1 again in
                cc)
          ])
    ]

-- an index of no name
pub none_yet : (names : List (List ℕ)) (numbers : BTreeMap (Bor (List ℕ)) ℕ) → numbers.entries ≡ [] → IsIndex names 0 numbers
none_yet names numbers empty = record {
  right = λ name k found. (let e : number_of numbers name ≡ None = rw empty refl in absurd (clash name k e found));
  full = λ k within. absurd (omega arith);
}
  where
    clash : (name : List ℕ) (k : ℕ) → number_of numbers name ≡ None → number_of numbers name ≡ Some k → ⊥
    clash name k a b = cc

-- what is found in an index of all names
pub found_called :
    (names : List (List ℕ)) (numbers : BTreeMap (Bor (List ℕ)) ℕ) (name : List ℕ) (r : Option ℕ) → IsIndex names (length names) numbers → r ≡ number_of numbers name →
    IfSome r (λ k. IsCalled names k name)
found_called names numbers name None index e = tt
found_called names numbers name (Some k) index e = index.right name k (sym e)

-- and what isn't
pub not_called :
    (names : List (List ℕ)) (numbers : BTreeMap (Bor (List ℕ)) ℕ) (name : List ℕ) (r : Option ℕ) → IsIndex names (length names) numbers → r ≡ number_of numbers name →
    IfNone r ((k : ℕ) → IsCalled names k name → ⊥)
not_called names numbers name None index e = λ k called. index.full k called.0 (ap (number_of numbers) called.1 ∙ sym e)
not_called names numbers name (Some k) index e = tt

-- names of so many numbers, and one more
pub one_more_name :
    (many : ℕ) (name_of : ℕ → List ℕ) (names more : List (List ℕ)) (start name : List ℕ) → AreNames many name_of names → start ≡ [] →
    name ≡ start ++ name_of many → more ≡ names ++ name ∷ [] → AreNames (many + 1) name_of more
one_more_name many name_of names more start name are empty called pushed = record {
  count = omega (arith, ap length pushed, length-append names (name ∷ []), are.count);
  each = λ k within. elim (cases_lt k many) [
    | inl before ↦ (let room : k < length names = omega (arith, are.count) in
        ap (λ ns. get_or ns k []) pushed ∙ get_or-append names (name ∷ []) [] k room ∙ are.each k before)
    | inr not_before ↦ (let here : k ≡ length names = omega (arith, are.count) in
        let many_here : many ≡ k = omega (arith, are.count) in
        ap (λ ns. get_or ns k []) pushed ∙ ap (λ (j : ℕ). get_or (names ++ name ∷ []) j []) here ∙ get_or-append_seam names name [] []
        ∙ called ∙ ap (λ s. s ++ name_of many) empty ∙ ap name_of many_here)
  ];
}

pub no_name : (name_of : ℕ → List ℕ) (names : List (List ℕ)) → names ≡ [] → AreNames 0 name_of names
no_name name_of names empty = record { count = ap length empty; each = λ k within. absurd (omega arith) }

-- what a name of the list stands for
pub named_found :
    (many : ℕ) (name_of : ℕ → List ℕ) (names : List (List ℕ)) (k : ℕ) (name : List ℕ) → AreNames many name_of names → IsCalled names k name →
    IsNameOf many name_of k name
named_found many name_of names k name are called =
    let within : k < many = omega (arith, called.0, are.count) in
    (within, sym (are.each k within) ∙ called.1)

pub named_there :
    (many : ℕ) (name_of : ℕ → List ℕ) (names : List (List ℕ)) (k : ℕ) (name : List ℕ) → AreNames many name_of names → IsNameOf many name_of k name →
    IsCalled names k name
named_there many name_of names k name are called = (omega (arith, called.0, are.count), are.each k called.0 ∙ called.1)
