-- The literals of a body that are to be evaluated.
use Rattle.std.proofs.Common.{◌≡◌, ℕ, zero, suc, ◌+◌, ◌<◌, ◌≤◌, Bool, true, false, not, ◌&&◌, ◌||◌, ◌==◌, Option, Some, List, [], ◌∷◌, length, slice_index_or, refl, sym, ap, ap₂, ◌∙◌, subst, inl, inr, arith, true≢false, set, get_or-set_same, get_or-set_other}
use Rattle.std.specs.Prelude.{slice_get}
use Rattle.std.proofs.lemmas.Bool.{cases_Bool, cases_lt, eq-eqb, eqb-true, both_ways}
use Rattle.std.proofs.lemmas.List.{get_or_past}
use Rattle.rf_finite.proofs.Range.{None-ne_Some}
use Rattle.rf_problem.specs.Reading.{Assignment, Calls, Reading, literal_true, literals_true}
use Rattle.rf_problem.specs.declared.predicate.Literal.{Literal}
use Rattle.rf_evaluate.specs.Evaluating.{pending_true, standing}

Some-same : {A : Type 0} {x y : A} → Some x ≡ Some y → x ≡ y
Some-same e = cc

-- of two literals and the rest the second may come first
and_turned : (a b c : Bool) → (a && (b && c)) ≡ (b && (a && c))
and_turned true b c = refl
and_turned false true c = refl
and_turned false false c = refl

module _ (calls : Calls) (here inside : Reading) (variables : List (Option ℕ)) (is_inner : Bool) (a : Assignment) where
  -- only the literals from number i on count
  pending_true-same : (ls : List Literal) (i : ℕ) (p q : List Bool) → ((j : ℕ) → i ≤ j → slice_index_or p j false ≡ slice_index_or q j false)
      → pending_true calls here inside variables is_inner p i a ls ≡ pending_true calls here inside variables is_inner q i a ls
  pending_true-same [] i p q same = refl
  pending_true-same (l ∷ ls) i p q same =
      ap₂ (λ (b c : Bool). (not b || literal_true calls here inside variables i a (standing is_inner l)) && c) (same i (omega arith))
      (pending_true-same ls (suc i) p q (λ j m. same j (omega arith)))

  -- a literal that is to be evaluated holds, and those after it do
  pending_true-at : (ls : List Literal) (i k : ℕ) (pending : List Bool) (l : Literal) → slice_get ls k ≡ Some l → slice_index_or pending (i + k) false ≡ true → i + k < length pending
      → pending_true calls here inside variables is_inner pending i a ls
      ≡ (literal_true calls here inside variables (i + k) a (standing is_inner l) && pending_true calls here inside variables is_inner (set pending (i + k) false) i a ls)
  pending_true-at [] i k pending l at h m = absurd (None-ne_Some at)
  pending_true-at (first ∷ ls) i zero pending l at h m =
      let e : i + 0 ≡ i = omega arith in
      let own : slice_index_or pending i false ≡ true = subst (λ j. slice_index_or pending j false ≡ true) e h in
      let after : slice_index_or (set pending (i + 0) false) i false ≡ false = ap (λ j. slice_index_or (set pending (i + 0) false) j false) (sym e) ∙ get_or-set_same pending (i + 0) false false m in
      let rest = pending_true-same ls (suc i) pending (set pending (i + 0) false) (λ j n. sym (get_or-set_other pending (i + 0) j false false (λ s. omega arith))) in
      rw (own, after, rest) (ap₂ (λ (j : ℕ) (x : Literal). literal_true calls here inside variables j a (standing is_inner x) && pending_true calls here inside variables is_inner (set pending (i + 0) false) (suc i) a ls) (sym e) (Some-same at))
  pending_true-at (first ∷ ls) i (suc k) pending l at h m =
      let e : suc i + k ≡ i + suc k = omega arith in
      let there : slice_index_or pending (suc i + k) false ≡ true = subst (λ j. slice_index_or pending j false ≡ true) (sym e) h in
      let rest = pending_true-at ls (suc i) k pending l at there (omega arith) in
      let own : slice_index_or (set pending (i + suc k) false) i false ≡ slice_index_or pending i false = get_or-set_other pending (i + suc k) i false false (λ s. omega arith) in
      ap (λ s. (not (slice_index_or pending i false) || literal_true calls here inside variables i a (standing is_inner first)) && s) rest
      ∙ and_turned (not (slice_index_or pending i false) || literal_true calls here inside variables i a (standing is_inner first))
      (literal_true calls here inside variables (suc i + k) a (standing is_inner l)) (pending_true calls here inside variables is_inner (set pending (suc i + k) false) (suc i) a ls)
      ∙ ap (λ j. literal_true calls here inside variables j a (standing is_inner l)
      && ((not (slice_index_or pending i false) || literal_true calls here inside variables i a (standing is_inner first)) && pending_true calls here inside variables is_inner (set pending j false) (suc i) a ls)) e
      ∙ ap (λ b. literal_true calls here inside variables (i + suc k) a (standing is_inner l)
      && ((not b || literal_true calls here inside variables i a (standing is_inner first)) && pending_true calls here inside variables is_inner (set pending (i + suc k) false) (suc i) a ls)) (sym own)

  pub pending_true-taken : (ls : List Literal) (k : ℕ) (pending : List Bool) (l : Literal) → slice_get ls k ≡ Some l → slice_index_or pending k false ≡ true → k < length pending
      → pending_true calls here inside variables is_inner pending 0 a ls
      ≡ (literal_true calls here inside variables k a (standing is_inner l) && pending_true calls here inside variables is_inner (set pending k false) 0 a ls)
  pending_true-taken ls k pending l at h m =
      subst (λ j. pending_true calls here inside variables is_inner pending 0 a ls
      ≡ (literal_true calls here inside variables j a (standing is_inner l) && pending_true calls here inside variables is_inner (set pending j false) 0 a ls)) z
      (pending_true-at ls 0 k pending l at (subst (λ j. slice_index_or pending j false ≡ true) (sym z) h) (omega arith))
    where
      z : 0 + k ≡ k
      z = omega arith

  -- where none is left, they hold
  pub pending_true-none : (ls : List Literal) (i : ℕ) (pending : List Bool) → ((k : ℕ) (l : Literal) → slice_get ls k ≡ Some l → slice_index_or pending (i + k) false ≡ false)
      → pending_true calls here inside variables is_inner pending i a ls ≡ true
  pending_true-none [] i pending none = refl
  pending_true-none (l ∷ ls) i pending none =
      let e : i + 0 ≡ i = omega arith in
      let own : slice_index_or pending i false ≡ false = subst (λ j. slice_index_or pending j false ≡ false) e (none 0 l refl) in
      rw own (pending_true-none ls (suc i) pending (λ k m at. let f : i + suc k ≡ suc i + k = omega arith in subst (λ j. slice_index_or pending j false ≡ false) f (none (suc k) m at)))

  -- where one alone is left, it counts
  pub pending_true-one : (ls : List Literal) (k : ℕ) (pending : List Bool) (l : Literal) → slice_get ls k ≡ Some l → ((j : ℕ) → slice_index_or pending j false ≡ (j == k))
      → pending_true calls here inside variables is_inner pending 0 a ls ≡ literal_true calls here inside variables k a (standing is_inner l)
  pending_true-one ls k pending l at only =
      pending_true-taken ls k pending l at own within
      ∙ ap (λ s. literal_true calls here inside variables k a (standing is_inner l) && s) (pending_true-none ls 0 (set pending k false) (λ j m e. others (0 + j)))
      ∙ and_last (literal_true calls here inside variables k a (standing is_inner l))
    where
      own : slice_index_or pending k false ≡ true
      own = only k ∙ eq-eqb k k refl

      within : k < length pending
      within = elim (cases_lt k (length pending)) [
        | inl m ↦ m
        | inr g ↦ absurd (true≢false (sym own ∙ get_or_past pending k false g))
      ]

      others : (j : ℕ) → slice_index_or (set pending k false) j false ≡ false
      others j = elim (cases_Bool (j == k)) [
        | inl s ↦ subst (λ n. slice_index_or (set pending k false) n false ≡ false) (sym (eqb-true j k s)) (get_or-set_same pending k false false within)
        | inr s ↦ get_or-set_other pending k j false false (λ e. both_ways (j == k) s (eq-eqb j k e)) ∙ (only j ∙ s)
      ]

      and_last : (b : Bool) → (b && true) ≡ b
      and_last true = refl
      and_last false = refl

-- where all are left, all count
pub pending_true-all : (calls : Calls) (here inside : Reading) (variables : List (Option ℕ)) (a : Assignment) (ls : List Literal) (i : ℕ) (pending : List Bool)
    → ((k : ℕ) → k < length ls → slice_index_or pending (i + k) false ≡ true)
    → pending_true calls here inside variables false pending i a ls ≡ literals_true calls here inside variables i a ls
pending_true-all calls here inside variables a [] i pending all = refl
pending_true-all calls here inside variables a (l ∷ ls) i pending all =
    let e : i + 0 ≡ i = omega arith in
    let own : slice_index_or pending i false ≡ true = subst (λ j. slice_index_or pending j false ≡ true) e (all 0 (omega arith)) in
    rw own (ap (λ s. literal_true calls here inside variables i a l && s)
    (pending_true-all calls here inside variables a ls (suc i) pending (λ k m. let f : i + suc k ≡ suc i + k = omega arith in subst (λ j. slice_index_or pending j false ≡ true) f (all (suc k) (omega arith)))))
