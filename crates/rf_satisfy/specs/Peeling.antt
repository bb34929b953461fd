-- Peeling nodes off that contain none but peeled ones, until only cycles are left.
use Rattle.std.specs.Prelude.{◌≡◌, ◌≢◌, ◌<◌, ◌&&◌, not, ℕ, Bool, true, false, Option, List, length, slice_index, slice_index_or}
use Rattle.rf_finite.specs.Range.{count_below}
use Rattle.rf_satisfy.specs.ContainerOf.{contains_by, is_cyclic}

-- whether node z isn't peeled, and node x contains it
abbrev pub is_left : List (Option ℕ) → List Bool → ℕ → ℕ → Bool
is_left containers peeled x z = not (slice_index_or peeled z false) && contains_by containers x z

-- nothing is peeled that lies on a cycle, and of each node it is known how many that it contains aren't peeled
pub record IsPeeling (containers : List (Option ℕ)) (contents : List ℕ) (peeled : List Bool) : Type 0 where
  pub counts : length contents ≡ length containers
  pub marks : length peeled ≡ length containers
  pub left : (x : ℕ) → x < length containers → slice_index contents x ≡ count_below (length containers) (is_left containers peeled x)
  pub off : (x : ℕ) → x < length containers → slice_index_or peeled x false ≡ true → is_cyclic containers x ≡ false

-- each node below n that contains nothing that isn't peeled is peeled itself
abbrev pub AreAllPeeled : List ℕ → List Bool → ℕ → Type 0
AreAllPeeled contents peeled n = (x : ℕ) → x < n → slice_index contents x ≡ 0 → slice_index_or peeled x false ≡ true

-- the same of each node but z
abbrev pub AreOthersPeeled : List ℕ → List Bool → ℕ → ℕ → Type 0
AreOthersPeeled contents peeled n z =
    (x : ℕ) → x < n → x ≢ z → slice_index contents x ≡ 0 → slice_index_or peeled x false ≡ true
