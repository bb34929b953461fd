-- Lists in a strict order, in which each element stands once.
use Rattle.std.proofs.Common.{◌≡◌, ◌↔◌, ◌⊎◌, ◌∙◌, zero, suc, List, [], ◌∷◌, refl, sym, ap, subst, inl, inr, arith, Less, Equal, Greater}
use Rattle.std.specs.Cmp.{IsTotalOrder}
use Rattle.std.specs.FinMap.{IsAntisymmetric}
use Rattle.std.specs.List.{All, Contains}
use Rattle.std.specs.List.Sorted.{IsStrictlySortedBy}
use Rattle.std.specs.Ordering.{ordering_reverse}
use Rattle.std.specs.declared.cmp.Ordering.{Ordering}
use Rattle.std.proofs.lemmas.List.Elements.{All-contains, All-from_recursion}
use Rattle.std.proofs.lemmas.Map.Keys.{sorted_head, sorted_tail}

-- an element is the first or one of the others
first_or_later : {X : Type 0} (x : X) (xs : List X) (q : X) → Contains (x ∷ xs) q → (x ≡ q) ⊎ Contains xs q
first_or_later x xs q (zero, below, is) = inl is
first_or_later x xs q (suc k, below, is) = inr (k, omega arith, is)

is_first : {X : Type 0} (x : X) (xs : List X) → Contains (x ∷ xs) x
is_first x xs = (0, omega arith, refl)

is_later : {X : Type 0} (x : X) (xs : List X) (q : X) → Contains xs q → Contains (x ∷ xs) q
is_later x xs q (k, below, is) = (suc k, omega arith, is)

module _ {K : Type 0} {R : K → K → Ordering} (order : IsTotalOrder R) (apart : IsAntisymmetric R) where
  -- of two not each comes before the other
  not_both : (a b : K) → R a b ≡ Less → R b a ≡ Less → ⊥
  not_both a b first second =
      let turned : R a b ≡ ordering_reverse (R b a) = order.antisymm a b in
      let greater : ordering_reverse (R b a) ≡ Greater = ap ordering_reverse second in
      let same : Less ≡ Greater = sym first ∙ (turned ∙ greater) in cc

  not_itself : (a b : K) → a ≡ b → R a b ≡ Less → ⊥
  not_itself a b same less = let itself : R b b ≡ Less = subst (λ x. R x b ≡ Less) same less in not_both b b itself itself

  -- the first comes before each other
  before_later : (x q : K) (xs : List K) → IsStrictlySortedBy R (x ∷ xs) → Contains xs q → R x q ≡ Less
  before_later x q xs sorted has =
      let after : All (λ y. R x y ≡ Less) xs = All-from_recursion (λ y. R x y ≡ Less) xs (sorted_head R x xs sorted) in
      All-contains (λ y. R x y ≡ Less) xs q after has

  -- and no element comes before it
  none_before_first : (x q : K) (xs : List K) → IsStrictlySortedBy R (x ∷ xs) → Contains (x ∷ xs) q → R q x ≡ Less → ⊥
  none_before_first x q xs sorted has less = elim (first_or_later x xs q has) [
    | inl same ↦ not_itself q x (sym same) less
    | inr later ↦ not_both q x less (before_later x q xs sorted later)
  ]

  -- lists with the same elements begin with the same
  same_first :
      (x y : K) (xs ys : List K) → IsStrictlySortedBy R (x ∷ xs) → IsStrictlySortedBy R (y ∷ ys)
      → ((q : K) → Contains (x ∷ xs) q ↔ Contains (y ∷ ys) q) → x ≡ y
  same_first x y xs ys sorted other same = go (R x y) refl
    where
      go : (o : Ordering) → R x y ≡ o → x ≡ y
      go Less e = absurd (none_before_first y x ys other ((same x).0 (is_first x xs)) e)
      go Equal e = apart x y e
      go Greater e =
          let less : R y x ≡ Less = order.antisymm y x ∙ ap ordering_reverse e in
          absurd (none_before_first x y xs sorted ((same y).1 (is_first y ys)) less)

  -- and the others of one are others of the other
  same_later :
      (x y : K) (xs ys : List K) → IsStrictlySortedBy R (x ∷ xs) → x ≡ y
      → ((q : K) → Contains (x ∷ xs) q → Contains (y ∷ ys) q) → (q : K) → Contains xs q → Contains ys q
  same_later x y xs ys sorted first to q has = elim (first_or_later y ys q (to q (is_later x xs q has))) [
    | inl same ↦ absurd (not_itself x q (first ∙ same) (before_later x q xs sorted has))
    | inr later ↦ later
  ]

  -- so lists with the same elements are the same
  pub sorted-same :
      (xs ys : List K) → IsStrictlySortedBy R xs → IsStrictlySortedBy R ys → ((q : K) → Contains xs q ↔ Contains ys q) → xs ≡ ys
  sorted-same [] [] sorted other same = refl
  sorted-same [] (y ∷ ys) sorted other same = let has = (same y).1 (is_first y ys) in absurd (omega (arith, has.1))
  sorted-same (x ∷ xs) [] sorted other same = let has = (same x).0 (is_first x xs) in absurd (omega (arith, has.1))
  sorted-same (x ∷ xs) (y ∷ ys) sorted other same =
      let first : x ≡ y = same_first x y xs ys sorted other same in
      let rest : xs ≡ ys =
      sorted-same xs ys (sorted_tail R x xs sorted) (sorted_tail R y ys other) (λ q.
      (same_later x y xs ys sorted first (λ k. (same k).0) q, same_later y x ys xs other (sym first) (λ k. (same k).1) q)) in
      λ i. first i ∷ rest i
