-- Cells that are filled one by one.
use Rattle.std.proofs.Common.{◌≡◌, ℕ, zero, suc, ◌<◌, ◌≤◌, Bool, true, false, not, ◌==◌, List, [], ◌∷◌, length, get_or, set, refl, ◌∙◌, inl, inr, get_or-set_same, get_or-set_other}
use Rattle.std.specs.List.{list_all}
use Rattle.std.proofs.lemmas.Bool.{and_parts, both_ways, cases_Bool, eq-eqb, eqb-true, not-true}

-- the first i of so many cells hold what is told, the others what they held before
pub record AreFilled {X : Type 0} (d : X) (size : ℕ) (before told : ℕ → X) (cells : List X) (i : ℕ) : Type 0 where
  pub len : length cells ≡ size
  pub taken : (k : ℕ) → k < i → get_or cells k d ≡ told k
  pub rest : (k : ℕ) → i ≤ k → get_or cells k d ≡ before k

-- where no cell is marked, each holds false, and one that is marked then is the only one
get_or-unmarked : (cells : List Bool) (k : ℕ) → list_all not cells ≡ true → get_or cells k false ≡ false
get_or-unmarked [] k none = refl
get_or-unmarked (mark ∷ cells) zero none = not-true mark (and_parts (not mark) (list_all not cells) none).0
get_or-unmarked (mark ∷ cells) (suc k) none = get_or-unmarked cells k (and_parts (not mark) (list_all not cells) none).1

pub marked-alone : (cells : List Bool) (i : ℕ) → list_all not cells ≡ true → i < length cells → (j : ℕ) → get_or (set cells i true) j false ≡ (j == i)
marked-alone cells i none l j = elim (cases_Bool (j == i)) [
  | inl s ↦ rw (s, eqb-true j i s) (get_or-set_same cells i true false l)
  | inr s ↦ rw s (get_or-set_other cells i j true false (λ e. both_ways (j == i) s (eq-eqb j i e)) ∙ get_or-unmarked cells j none)
]
