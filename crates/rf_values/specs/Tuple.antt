-- Private: no public contract cites this.
-- A list of at most n numbers in n cells.
use Rattle.std.specs.Prelude.{◌≡◌, ◌≤◌, ℕ, zero, suc, List, [], ◌∷◌, length, take}
use Rattle.std.proofs.Common.{arith, length-take}

-- n cells: a list of at most n, and then zeros
abbrev pub padded : ℕ → List ℕ → List ℕ
padded zero xs = []
padded (suc n) [] = 0 ∷ padded n []
padded (suc n) (x ∷ xs) = x ∷ padded n xs

-- n cells hold a list of this length, and then zeros
pub record IsPadded (n : ℕ) (cells : List ℕ) (used : ℕ) : Type 0 where
  pub fits : used ≤ n
  pub size : length cells ≡ n
  pub zeros : cells ≡ padded n (take used cells)

pub length-take-padded : (n : ℕ) (cells : List ℕ) (used : ℕ) → IsPadded n cells used → length (take used cells) ≡ used
length-take-padded n cells used h = let e = length-take used cells in omega (arith, e, h.fits, h.size)
