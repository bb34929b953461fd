-- Lists of which no two elements clash.
use Rattle.std.proofs.Common.{◌≡◌, ◌∙◌, ℕ, ◌+◌, ◌-◌, ◌<◌, List, All, length, take, drop, take_all, length-drop, get_or, get_or-drop, sym, subst, ap, inl, inr, arith}
use Rattle.std.specs.Prelude.{AllPairs, slice_index_or}
use Rattle.std.proofs.lemmas.Bool.{cases_eq}
use Rattle.std.proofs.lemmas.List.{get_or_default}

-- the rest of a list up to its end is the rest
take_rest : {X : Type 0} (xs : List X) (n : ℕ) → take (length xs - n) (drop n xs) ≡ drop n xs
take_rest xs n = take_all (length xs - n) (drop n xs) (let short = length-drop n xs in omega arith)

module _ {X : Type 0} (R : X → X → Type 0) where
  -- each of the first i is apart from each later one
  abbrev pub AreFirstApart : List X → ℕ → Type 0
  AreFirstApart xs i = (j k : ℕ) (d : X) → j < i → j < k → k < length xs → R (slice_index_or xs j d) (slice_index_or xs k d)

  pub AreFirstApart-more :
      (xs : List X) (i n : ℕ) (x : X) → i < length xs → x ≡ get_or xs i x → All (R x) (take (length xs - (i + 1)) (drop (i + 1) xs)) → AreFirstApart xs i → n ≡ i + 1 →
      AreFirstApart xs n
  AreFirstApart-more xs i n x l at part first next j k d below after inside = let later : All (R x) (drop (i + 1) xs) = rw take_rest at part in elim (cases_eq j i) [
    | inl same ↦ (let past : i + 1 + (k - (i + 1)) ≡ k = omega arith in
        let there : R x (get_or (drop (i + 1) xs) (k - (i + 1)) d) = later (k - (i + 1)) d (rw length-drop (omega arith)) in
        let here : R x (get_or xs k d) = subst (R x) (get_or-drop (i + 1) xs (k - (i + 1)) d ∙ ap (λ m. get_or xs m d) past) there in
        let first_is : get_or xs j d ≡ x = ap (λ m. get_or xs m d) same ∙ get_or_default xs i d x l ∙ sym at in
        rw first_is here)
    | inr other ↦ first j k d (omega arith) after inside
  ]

  -- each element is apart from all later ones
  pub All-later : (xs : List X) (i : ℕ) (x : X) → i < length xs → x ≡ get_or xs i x → AllPairs R xs → All (R x) (take (length xs - (i + 1)) (drop (i + 1) xs))
  All-later xs i x l at apart = rw take_rest (λ k d inside.
      let short : length (drop (i + 1) xs) ≡ length xs - (i + 1) = length-drop (i + 1) xs in
      let pair : R (get_or xs i d) (get_or xs (i + 1 + k) d) = apart i (i + 1 + k) d (omega arith) (omega arith) in
      let first_is : get_or xs i d ≡ x = get_or_default xs i d x l ∙ sym at in
      let later_is : get_or (drop (i + 1) xs) k d ≡ get_or xs (i + 1 + k) d = get_or-drop (i + 1) xs k d in
      rw later_is (rw first_is at pair))
