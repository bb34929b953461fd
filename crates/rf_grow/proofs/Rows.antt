-- Lists of one item for each number.
use Rattle.std.proofs.Common.{◌≡◌, ◌≤◌, ◌<◌, ◌+◌, ℕ, zero, suc, List, [], ◌∷◌, ◌++◌, map, All, AllPairs, subst, None, Some, arith}
use Rattle.std.specs.List.{range_with_len}
use Rattle.std.specs.Option.{ForSome}
use Rattle.std.proofs.lemmas.List.Elements.{All-cons, All-map, All-nil}
use Rattle.std.proofs.lemmas.List.FromFn.{map-range_with_len_more}

-- one number more
pub row_more : {X : Type 0} (f : ℕ → X) (n : ℕ) → map f (range_with_len 0 (n + 1)) ≡ map f (range_with_len 0 n) ++ f n ∷ []
row_more f n = map-range_with_len_more f 0 n n (omega arith)

-- what holds of each number of a row
pub all_numbers : (P : ℕ → Type 0) (a n : ℕ) → ((k : ℕ) → a ≤ k → k < a + n → P k) → All P (range_with_len a n)
all_numbers P a zero each = All-nil P
all_numbers P a (suc n) each =
    All-cons P a (range_with_len (a + 1) n) (each a (omega arith) (omega arith))
    (all_numbers P (a + 1) n (λ k low high. each k (omega arith) (omega arith)))

-- what holds of the item of each number
pub all_items : {X : Type 0} (P : X → Type 0) (f : ℕ → X) (a n : ℕ) → ((k : ℕ) → a ≤ k → k < a + n → P (f k)) → All P (map f (range_with_len a n))
all_items P f a n each = All-map P f (range_with_len a n) (all_numbers (λ k. P (f k)) a n each)

-- an item before others, each of which it is related to, and of which each two are
pub pairs_cons : {X : Type 0} (R : X → X → Type 0) (x : X) (xs : List X) → All (R x) xs → AllPairs R xs → AllPairs R (x ∷ xs)
pairs_cons R x xs first others zero zero d l m = absurd (omega arith)
pairs_cons R x xs first others zero (suc j) d l m = first j d (omega arith)
pairs_cons R x xs first others (suc i) zero d l m = absurd (omega arith)
pairs_cons R x xs first others (suc i) (suc j) d l m = others i j d (omega arith) (omega arith)

pub pairs_nil : {X : Type 0} (R : X → X → Type 0) → AllPairs R []
pairs_nil R i j d l m = absurd (omega arith)

-- of an end or an argument that is there, and of one that isn't
pub where_some : (P : ℕ → Type 0) (a : ℕ) → P a → ForSome (Some a) P
where_some P a h x e = let same : a ≡ x = cc in subst P same h

pub where_none : (P : ℕ → Type 0) → ForSome None P
where_none P x e = absurd cc
