-- Rows that weren't touched.
use Rattle.std.proofs.Common.{◌≡◌, ℕ, ◌+◌, ◌*◌, ◌<◌, Bool, true, false, ◌==◌, ◌&&◌, ◌||◌, Option, Some, length, refl, sym, subst, inl, inr, true≢false, ap, ◌∙◌}
use Rattle.std.proofs.lemmas.Bool.{and_from, both_ways, cases_Bool, eq-eqb, false_from_ne_true, or_from}
use Rattle.rf_values.specs.Truth as truth
use Rattle.rf_values.specs.declared.truth.Truth.{Truth}
use Rattle.rf_values.specs.declared.truth.Truth.TheVariants.{False}
use Rattle.rf_evaluate.specs.Elements.{count, element_at, includes}
use Rattle.rf_evaluate.specs.declared.elements.Elements.{Elements}
use Rattle.rf_evaluate.proofs.Candidates.{number-of}
use Rattle.rf_pending.specs.Rows.{is_marked}
use Rattle.rf_pending.specs.Touching.{AreEdgesTouched, AreTouched, is_back, stands}
use Rattle.rf_pending.specs.declared.marks.Marks.{Marks}
use Rattle.rf_pending.specs.declared.standing.Standing.{Standing}
use Rattle.rf_pending.specs.declared.standing.Standing.TheVariants.{Must, May}
use Rattle.rf_pending.proofs.RowLemmas.{other_row}

-- a row that a condition would have touched, where the condition doesn't hold
pub not_so : (so : Bool) (row k : ℕ) → (so && row == k) ≡ false → row ≡ k → so ≡ false
not_so so row k e same = false_from_ne_true so (λ t. both_ways (so && row == k) e (and_from so (row == k) t (eq-eqb row k same)))

stands-False : (standing : Standing) → stands standing False ≡ false
stands-False Must = refl
stands-False May = refl

-- neither the object itself nor one at which it stands, where each that comes into question was looked at
pub far-among : (standing : Standing) (o n : ℕ) (ends : Elements) (known : ℕ → Truth) (a : ℕ)
    → (includes ends a ≡ false → known a ≡ False)
    → ((i : ℕ) → i < count ends → element_at ends i ≡ a → stands standing (known (element_at ends i)) ≡ false)
    → (o == a) ≡ false → (o == a || stands standing (known a)) ≡ false
far-among standing o n ends known a off among own = elim (cases_Bool (includes ends a)) [
  | inl e ↦ (let at = number-of ends a e in
      or_from (o == a) (stands standing (known a)) own (subst (λ (x : ℕ). stands standing (known x) ≡ false) at.2 (among at.0 at.1 at.2)))
  | inr e ↦ or_from (o == a) (stands standing (known a)) own (subst (λ v. stands standing v ≡ false) (sym (off e)) (stands-False standing))
]

-- the rows of a fact and of the edge back, one after the other
pub both-touched : (references n q x s y : ℕ) (opposite : Option ℕ) (was between marks : Marks) (one two : ℕ) → opposite ≡ Some s
    → one ≡ q * n + x → two ≡ s * n + y → AreTouched (λ k. one == k) was between → AreTouched (λ k. two == k) between marks
    → AreEdgesTouched references n (λ r a. (q == r && x == a) || is_back opposite y r a) was marks
both-touched references n q x s y opposite was between marks one two e at_one at_two first second = record {
  size = second.size ∙ first.size;
  far = λ r a lr la l h. (
      let after = second.far (r * n + a) l h in
      let before = first.far (r * n + a) (subst (λ (m : ℕ). r * n + a < m) second.size l) after.0 in
      let own = other_row n q x r a (subst (λ (m : ℕ). (m == r * n + a) ≡ false) at_one before.1) in
      let back : is_back opposite y r a ≡ false =
      subst (λ (o : Option ℕ). is_back o y r a ≡ false) (sym e) (other_row n s y r a (subst (λ (m : ℕ). (m == r * n + a) ≡ false) at_two after.1)) in
      (before.0, or_from (q == r && x == a) (is_back opposite y r a) own back)
      );
}
