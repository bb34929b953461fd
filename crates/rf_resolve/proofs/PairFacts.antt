-- What holds of each two elements of lists that are joined, or of what comes of each.
use Rattle.std.proofs.Common.{◌≡◌, ℕ, zero, suc, List, [], ◌∷◌, ◌++◌, map, get_or, All, AllPairs, refl, subst, arith}
use Rattle.std.proofs.lemmas.List.{length-map}
use Rattle.std.specs.List.{flat_map}
use Rattle.std.proofs.lemmas.List.Elements.{All-append, All-cons, All-head, All-map, All-nil, All-tail}

-- what comes of the element at a position
pub get_or-map_any : {X Y : Type 0} (f : X → Y) (xs : List X) (k : ℕ) (d : X) →
    get_or (map f xs) k (f d) ≡ f (get_or xs k d)
get_or-map_any f [] k d = refl
get_or-map_any f (x ∷ xs) zero d = refl
get_or-map_any f (x ∷ xs) (suc k) d = get_or-map_any f xs k d

module _ {X : Type 0} (R : X → X → Type 0) where
  pub AllPairs-nil : AllPairs R []
  AllPairs-nil i j d before l = absurd (omega arith)

  pub AllPairs-cons : (x : X) (xs : List X) → All (R x) xs → AllPairs R xs → AllPairs R (x ∷ xs)
  AllPairs-cons x xs first rest i zero d before l = absurd (omega arith)
  AllPairs-cons x xs first rest zero (suc j) d before l = first j d (omega arith)
  AllPairs-cons x xs first rest (suc i) (suc j) d before l = rest i j d (omega arith) (omega arith)

  pub AllPairs-head : (x : X) (xs : List X) → AllPairs R (x ∷ xs) → All (R x) xs
  AllPairs-head x xs pairs k d l = pairs 0 (suc k) d (omega arith) (omega arith)

  pub AllPairs-tail : (x : X) (xs : List X) → AllPairs R (x ∷ xs) → AllPairs R xs
  AllPairs-tail x xs pairs i j d before l = pairs (suc i) (suc j) d (omega arith) (omega arith)

  pub AllPairs-append : (xs ys : List X) → AllPairs R xs → AllPairs R ys → All (λ x. All (R x) ys) xs →
      AllPairs R (xs ++ ys)
  AllPairs-append [] ys front back across = back
  AllPairs-append (x ∷ xs) ys front back across = AllPairs-cons x (xs ++ ys)
      (All-append (R x) xs ys (AllPairs-head x xs front) (All-head (λ y. All (R y) ys) x xs across))
      (AllPairs-append xs ys (AllPairs-tail x xs front) back (All-tail (λ y. All (R y) ys) x xs across))

pub AllPairs-map :
    {X Y : Type 0} (R : Y → Y → Type 0) (f : X → Y) (xs : List X) → AllPairs (λ x y. R (f x) (f y)) xs → AllPairs R (map f xs)
AllPairs-map R f [] pairs = AllPairs-nil R
AllPairs-map R f (x ∷ xs) pairs = AllPairs-cons R (f x) (map f xs)
    (All-map (R (f x)) f xs (AllPairs-head (λ y z. R (f y) (f z)) x xs pairs))
    (AllPairs-map R f xs (AllPairs-tail (λ y z. R (f y) (f z)) x xs pairs))

pub AllPairs-unmap : {X Y : Type 0} (R : Y → Y → Type 0) (f : X → Y) (xs : List X) → AllPairs R (map f xs) →
    AllPairs (λ x y. R (f x) (f y)) xs
AllPairs-unmap R f xs pairs i j d before l =
    let there = length-map xs f in
    subst (λ y. R y (f (get_or xs j d))) (get_or-map_any f xs i d)
    (subst (λ y. R (get_or (map f xs) i (f d)) y) (get_or-map_any f xs j d)
    (pairs i j (f d) before (omega arith)))

-- what holds of all elements of joined lists
module _ {X : Type 0} (P : X → Type 0) where
  pub All-prefix : (xs ys : List X) → All P (xs ++ ys) → All P xs
  All-prefix [] ys all = All-nil P
  All-prefix (x ∷ xs) ys all = All-cons P x xs (All-head P x (xs ++ ys) all) (All-prefix xs ys (All-tail P x (xs ++ ys) all))

  pub All-back : (xs ys : List X) → All P (xs ++ ys) → All P ys
  All-back [] ys all = all
  All-back (x ∷ xs) ys all = All-back xs ys (All-tail P x (xs ++ ys) all)

  pub All-flat_map : {Y : Type 0} (f : Y → List X) (ys : List Y) → All P (flat_map f ys) → All (λ y. All P (f y)) ys
  All-flat_map f [] all = All-nil (λ y. All P (f y))
  All-flat_map f (y ∷ ys) all =
      All-cons (λ z. All P (f z)) y ys (All-prefix (f y) (flat_map f ys) all) (All-flat_map f ys (All-back (f y) (flat_map f ys) all))

  pub All-flatten : {Y : Type 0} (f : Y → List X) (ys : List Y) → All (λ y. All P (f y)) ys → All P (flat_map f ys)
  All-flatten f [] all = All-nil P
  All-flatten f (y ∷ ys) all = All-append P (f y) (flat_map f ys) (All-head (λ z. All P (f z)) y ys all) (All-flatten f ys (All-tail (λ z. All P (f z)) y ys all))

  pub All-unmap : {Y : Type 0} (f : Y → X) (ys : List Y) → All P (map f ys) → All (λ y. P (f y)) ys
  All-unmap f ys all k d l = let long = length-map ys f in subst P (get_or-map_any f ys k d) (all k (f d) (omega arith))
