-- Tuples of numbers below a bound, in their order: number by number, where the first that differs decides.
use Rattle.std.specs.Prelude.{◌≡◌, ◌↔◌, ℕ, zero, suc, ◌<◌, Bool, true, Option, List, [], ◌∷◌, ◌++◌, length, All}
use Rattle.std.specs.Bool.{then_some}
use Rattle.std.specs.Cmp.Lexicographic.{slice_cmp}
use Rattle.std.specs.Ordering.{nat_cmp}
use Rattle.rf_finite.specs.Firsts.{IsFirstOf}
use Rattle.rf_finite.specs.Range.{first_below}

-- t has k numbers, and each is below n
pub record IsTuple (n k : ℕ) (t : List ℕ) : Type 0 where
  pub many : length t ≡ k
  pub below : All (λ x. x < n) t

-- the value of f at the first tuple where it has one, of those that go on from t with k numbers below n
abbrev pub first_tuple : {A : Type 0} → ℕ → ℕ → List ℕ → (List ℕ → Option A) → Option A
first_tuple n zero t f = f t
first_tuple n (suc k) t f = first_below n (λ x. first_tuple n k (t ++ x ∷ []) f)

-- the search finds a tuple exactly where that is the first that passes, and none exactly where none passes
abbrev pub FirstTupleIsFirst : Type 0
FirstTupleIsFirst =
    (n k : ℕ) (p : List ℕ → Bool) (o : Option (List ℕ))
    → (first_tuple n k [] (λ t. then_some (p t) t) ≡ o)
    ↔ IsFirstOf (slice_cmp nat_cmp) (λ t. IsTuple n k t × (p t ≡ true)) o
