-- Private: no public contract cites this.
-- Where edges end, and what is left once it is taken away again and again what has no edge into the rest.
use Rattle.std.specs.Prelude.{◌≡◌, ◌<◌, ℕ, Bool, true, false}
use Rattle.std.specs.FinSet.{FinSet, contains}
use Rattle.std.specs.Ordering.{nat_cmp}
use Rattle.rf_finite.specs.Walks.{IsReachable}

-- an edge leads from x to a number of the set
abbrev pub LeadsInto : (ℕ → ℕ → Bool) → ℕ → FinSet nat_cmp → Type 0
LeadsInto edge x ends = (d : ℕ) × (edge x d ≡ true) × (contains ends d ≡ true)

-- no way leads back to a number below n that isn't left
abbrev pub AreOffCycles : (ℕ → ℕ → Bool) → ℕ → FinSet nat_cmp → Type 0
AreOffCycles edge n left = (x : ℕ) → x < n → contains left x ≡ false → IsReachable edge (λ y. true) n x x → ⊥

-- each number of the set is below n
abbrev pub IsWithin : FinSet nat_cmp → ℕ → Type 0
IsWithin set n = (x : ℕ) → contains set x ≡ true → x < n
