-- Touching the rows that are found, one after the other.
use Rattle.std.proofs.Common.{◌≡◌, ℕ, ◌+◌, ◌<◌, ◌≤◌, Bool, false, ◌==◌, ◌&&◌, List, length, refl, sym, ◌∙◌, subst, inl, inr, arith}
use Rattle.std.proofs.lemmas.Bool.{cases_eq, cases_lt}
use Rattle.std.proofs.lemmas.List.{get_or_past}
use Rattle.rf_pending.specs.Rows.{is_marked}
use Rattle.rf_pending.specs.Touching.{AreTouched}
use Rattle.rf_pending.specs.declared.marks.Marks.{Marks}
use Rattle.rf_pending.proofs.TouchLemmas.{not_so}
use Rattle.rf_prop_broken.specs.Dependence.{is_found}

-- so many rows were looked at
pub record AreTouchedBelow (found : List Bool) (q : ℕ) (was marks : Marks) : Type 0 where
  pub size : length marks.rows.items ≡ length was.rows.items
  pub far : (k : ℕ) → k < length marks.rows.items → is_marked marks k ≡ false → (is_marked was k ≡ false) × (k < q → is_found found k ≡ false)

pub touched-none : (found : List Bool) (marks : Marks) → AreTouchedBelow found 0 marks marks
touched-none found marks = record { size = refl; far = λ k l h. (h, λ below. absurd (omega (arith, below))) }

pub touched-more : (found : List Bool) (q : ℕ) (so : Bool) (was between marks : Marks) → so ≡ is_found found q → AreTouchedBelow found q was between
    → AreTouched (λ k. so && q == k) between marks → AreTouchedBelow found (q + 1) was marks
touched-more found q so was between marks e below touched = record {
  size = touched.size ∙ below.size;
  far = λ k l h. (
      let last = touched.far k l h in
      let before = below.far k (subst (λ (m : ℕ). k < m) touched.size l) last.0 in (
        before.0,
        λ (lk : k < q + 1). elim (cases_eq k q) [
          | inl at ↦ subst (λ (j : ℕ). is_found found j ≡ false) (sym at) (sym e ∙ not_so so q k last.1 (sym at))
          | inr apart ↦ before.1 (omega (arith, lk, apart))
        ],
      )
      );
}

pub touched-all : (found : List Bool) (q : ℕ) (was marks : Marks) → length found ≤ q → AreTouchedBelow found q was marks → AreTouched (is_found found) was marks
touched-all found q was marks past below = record {
  size = below.size;
  far = λ k l h. (
      let far = below.far k l h in
      (far.0, elim (cases_lt k q) [ inl lk ↦ far.1 lk | inr more ↦ get_or_past found k false (omega (arith, past, more)) ])
      );
}
