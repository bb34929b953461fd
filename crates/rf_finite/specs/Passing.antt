-- The numbers below a bound that pass a test, as a list, and lists one after another.
use Rattle.std.specs.Prelude.{◌≡◌, ◌<◌, ◌++◌, ℕ, zero, suc, Bool, true, if◌then◌else◌, List, [], ◌∷◌, length, slice_index}
use Rattle.rf_finite.specs.Range.{count_below}

-- the numbers below n that pass, in order
abbrev pub passing : ℕ → (ℕ → Bool) → List ℕ
passing zero p = []
passing (suc n) p = if p n then passing n p ++ n ∷ [] else passing n p

-- the list of 0, then that of 1, and so on up to that of the last number below n
abbrev pub joined : {A : Type 0} → ℕ → (ℕ → List A) → List A
joined zero f = []
joined (suc n) f = joined n f ++ f n

-- it has as many numbers as pass
abbrev pub PassingIsAll : Type 0
PassingIsAll = (n : ℕ) (p : ℕ → Bool) → length (passing n p) ≡ count_below n p

-- at each place stands a number that passes, before which as many pass as the place says
abbrev pub PassingIsInOrder : Type 0
PassingIsInOrder =
    (n : ℕ) (p : ℕ → Bool) (x : ℕ) → x < length (passing n p)
    → (slice_index (passing n p) x < n) × (p (slice_index (passing n p) x) ≡ true) × (count_below (slice_index (passing n p) x) p ≡ x)
