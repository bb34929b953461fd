-- How much of an evaluation is left.
use Rattle.std.proofs.Common.{◌≡◌, ℕ, ◌+◌, ◌*◌, ◌^◌, ◌<◌, ◌≤◌, Bool, true, false, not, ◌&&◌, if◌then◌else◌, List, length, sym, ap, ◌∙◌, inl, inr, arith, eqb, slice_set, true≢false}
use Rattle.std.specs.Prelude.{slice_index_or}
use Rattle.std.proofs.lemmas.Bool.{and_from, cases_Bool, eq-eqb, eqb-true}
use Rattle.std.proofs.lemmas.Grind.{get_or-set_at}
use Rattle.std.proofs.lemmas.List.{get_or-set_other}
use Rattle.rf_finite.specs.Range.{count_below}
use Rattle.rf_evaluate.proofs.Completing.{marked-within}
use Rattle.rf_finite.proofs.Range.{count_below-le_bound, count_below-le, count_below-without}

-- how many marks of the first n are set
abbrev pub marked : ℕ → List Bool → ℕ
marked n marks = count_below n (λ i. slice_index_or marks i false)

-- how many variables are unassigned and how many literals pending
abbrev pub remaining : List Bool → List Bool → ℕ
remaining unassigned pending = marked 8 unassigned + marked 36 pending

-- the steps that are left of completing a body: literals and variables, more of them outside negations than inside
abbrev pub steps_left : Bool → List Bool → List Bool → ℕ
steps_left is_inner unassigned pending = (if is_inner then 2 ^ 67 else 2 ^ 69) + 4 * remaining unassigned pending

-- and of evaluating one of its literals
abbrev pub literal_left : Bool → ℕ
literal_left is_inner = if is_inner then 2 ^ 66 else 2 ^ 68

-- what is set after one mark was taken away was set before, and is another
left_marked : (marks : List Bool) (i j : ℕ) → i < length marks → slice_index_or (slice_set marks i false) j false ≡ true → (not (eqb j i) && slice_index_or marks j false) ≡ true
left_marked marks i j l h = elim (cases_Bool (eqb j i)) [
  | inl t ↦ (let same : slice_index_or (slice_set marks i false) j false ≡ false = get_or-set_at marks i j false false (eqb-true j i t) l in absurd (true≢false (sym h ∙ same)))
  | inr f ↦ (let other : slice_index_or (slice_set marks i false) j false ≡ slice_index_or marks j false = get_or-set_other marks i j false false (λ e. true≢false (sym (eq-eqb j i e) ∙ f)) in
      and_from (not (eqb j i)) (slice_index_or marks j false) (ap not f) (sym other ∙ h))
]

-- one mark fewer is set
marked-without : (n : ℕ) (marks : List Bool) (i : ℕ) → i < n → slice_index_or marks i false ≡ true → marked n (slice_set marks i false) + 1 ≤ marked n marks
marked-without n marks i l e =
    let one = count_below-without n (λ j. slice_index_or marks j false) i l e in
    let fewer : marked n (slice_set marks i false) ≤ count_below n (λ j. not (eqb j i) && slice_index_or marks j false) =
    count_below-le n (λ j. slice_index_or (slice_set marks i false) j false) (λ j. not (eqb j i) && slice_index_or marks j false) (λ j m h. left_marked marks i j (marked-within marks i e) h) in
    omega arith

-- fewer remain after a literal, and with an element for a variable
pub remaining-without : (unassigned pending : List Bool) (i : ℕ) → i < 36 → slice_index_or pending i false ≡ true
    → remaining unassigned (slice_set pending i false) + 1 ≤ remaining unassigned pending
remaining-without unassigned pending i l e = let fewer = marked-without 36 pending i l e in omega arith

pub remaining-with : (unassigned pending : List Bool) (v : ℕ) → v < 8 → slice_index_or unassigned v false ≡ true
    → remaining (slice_set unassigned v false) pending + 1 ≤ remaining unassigned pending
remaining-with unassigned pending v l e = let fewer = marked-without 8 unassigned v l e in omega arith

-- no more remain than there are
remaining-few : (unassigned pending : List Bool) → remaining unassigned pending ≤ 44
remaining-few unassigned pending =
    let few = count_below-le_bound 8 (λ v. slice_index_or unassigned v false) in
    let least = count_below-le_bound 36 (λ i. slice_index_or pending i false) in
    omega arith

-- so fewer steps are left
pub steps_left-without : (is_inner : Bool) (unassigned pending : List Bool) (i : ℕ) → i < 36 → slice_index_or pending i false ≡ true
    → steps_left is_inner unassigned (slice_set pending i false) + 4 ≤ steps_left is_inner unassigned pending
steps_left-without is_inner unassigned pending i l e = let fewer = remaining-without unassigned pending i l e in omega arith

pub steps_left-with : (is_inner : Bool) (unassigned pending : List Bool) (v : ℕ) → v < 8 → slice_index_or unassigned v false ≡ true
    → steps_left is_inner (slice_set unassigned v false) pending + 4 ≤ steps_left is_inner unassigned pending
steps_left-with is_inner unassigned pending v l e = let fewer = remaining-with unassigned pending v l e in omega arith

-- inside a negation fewer are left than of the literal outside, and of a clause no more than this
pub steps_left-inside : (unassigned pending : List Bool) → steps_left true unassigned pending < literal_left false
steps_left-inside unassigned pending = let few = remaining-few unassigned pending in omega arith

pub steps_left-few : (is_inner : Bool) (unassigned pending : List Bool) → is_inner ≡ false → steps_left is_inner unassigned pending < 2 ^ 70
steps_left-few is_inner unassigned pending e = let few = remaining-few unassigned pending in rw e (omega arith)
