-- Rows that cover a state before a change cover the state after it once they are touched, where in the others no rule has begun to
-- fire.
use Rattle.std.proofs.Common.{◌≡◌, ℕ, zero, suc, ◌+◌, ◌*◌, ◌/◌, ◌%◌, ◌<◌, Bool, true, false, ◌||◌, Option, None, length, sym, ap, ◌∙◌, subst, inl, inr, arith}
use Rattle.std.specs.Bool.{then_some}
use Rattle.std.proofs.lemmas.Bool.{cases_Bool, or_from}
use Rattle.std.proofs.lemmas.Nat.{div-add-mod'}
use Rattle.std.proofs.Math.Nat.{mod-lt}
use Rattle.rf_finite.specs.Range.{first_below}
use Rattle.rf_finite.proofs.Range.{None-ne_Some, each-from_first_below, first_below-none}
use Rattle.rf_problem.specs.declared.problem.Problem.{Problem}
use Rattle.rf_state.specs.State.{State}
use Rattle.rf_rules.specs.Rules.{fires}
use Rattle.rf_rules.specs.declared.rule.Rule.{Rule}
use Rattle.rf_pending.specs.Rows.{Covers, CoversEdges, firing, is_marked, least_of_row}
use Rattle.rf_pending.specs.Touching.{AreEdgesTouched, AreTouched}
use Rattle.rf_pending.specs.declared.marks.Marks.{Marks}
use Rattle.rf_pending.proofs.LeastLemmas.{least_of_row-is}
use Rattle.rf_pending.proofs.RowLemmas.{reference_below}

-- rows of objects
pub covers-still : (many : ℕ) (f g : ℕ → Option Rule) (near : ℕ → Bool) (was marks : Marks) → Covers many f was
    → AreTouched near was marks
    → ((k : ℕ) → k < many → near k ≡ false → f k ≡ None → g k ≡ None) → Covers many g marks
covers-still many f g near was marks covers touched still = record {
  size = touched.size ∙ covers.size;
  rows = λ k l h. (let far = touched.far k (subst (λ (m : ℕ). k < m) (sym (touched.size ∙ covers.size)) l) h in
      still k l far.1 (covers.rows k l far.0));
}

-- rows of references and objects
positive : (k m n : ℕ) → k < m * n → 0 < n
positive k m zero l = absurd (let none : m * 0 ≡ 0 = omega arith in omega (arith, none))
positive k m (suc n) l = omega arith

pub covers-edges_still : (m n : ℕ) (f g : ℕ → ℕ → Option Rule) (near : ℕ → ℕ → Bool) (was marks : Marks) → CoversEdges m n f was
    → AreEdgesTouched m n near was marks → ((r a : ℕ) → r < m → a < n → near r a ≡ false → f r a ≡ None → g r a ≡ None)
    → CoversEdges m n g marks
covers-edges_still m n f g near was marks covers touched still = record {
  size = touched.size ∙ covers.size;
  rows = λ k l h. (
      let here : 0 < n = positive k m n l in
      let place : k / n * n + k % n ≡ k = div-add-mod' k n in
      let lr = reference_below k n m here l in
      let la : k % n < n = mod-lt k here in
      let far = touched.far (k / n) (k % n) lr la
      (subst (λ (j : ℕ). j < length marks.rows.items) (sym place) (subst (λ (i : ℕ). k < i) (sym (touched.size ∙ covers.size)) l))
      (subst (λ (j : ℕ). is_marked marks j ≡ false) (sym place) h) in
      still (k / n) (k % n) lr la far.1 (covers.rows k l (subst (λ (j : ℕ). is_marked was j ≡ false) place far.0))
      );
}

-- touched once and again
pub touched-twice : (m n : ℕ) (near more : ℕ → ℕ → Bool) (was between marks : Marks) → AreEdgesTouched m n near was between
    → AreEdgesTouched m n more between marks
    → AreEdgesTouched m n (λ r a. near r a || more r a) was marks
touched-twice m n near more was between marks one two = record {
  size = two.size ∙ one.size;
  far = λ r a lr la l h. (
      let after = two.far r a lr la l h in
      let before = one.far r a lr la (subst (λ (i : ℕ). r * n + a < i) two.size l) after.0 in
      (before.0, or_from (near r a) (more r a) before.1 after.1)
      );
}

-- a first value that isn't there still isn't where none of the values has come
pub first_below-still : {A B : Type 0} (n : ℕ) (f : ℕ → Option A) (g : ℕ → Option B) → ((k : ℕ) → k < n → f k ≡ None → g k ≡ None)
    → first_below n f ≡ None → first_below n g ≡ None
first_below-still n f g still e = first_below-none n g (λ k l. still k l (each-from_first_below n f e k l))

pub firing-still : (p : Problem) (s t : State) (rule : Rule) → (fires p t rule ≡ true → fires p s rule ≡ true) → firing p s rule ≡ None
    → firing p t rule ≡ None
firing-still p s t rule still e = elim (cases_Bool (fires p t rule)) [
  | inl h ↦ absurd (None-ne_Some (sym e ∙ ap (λ i. then_some i rule) (still h)))
  | inr h ↦ ap (λ i. then_some i rule) h
]

pub row-still : (p : Problem) (s t : State) (rule_at : ℕ → Rule) → length t.objects ≡ length s.objects
    → ((b : ℕ) → b < length s.objects → fires p t (rule_at b) ≡ true → fires p s (rule_at b) ≡ true) → least_of_row p s rule_at ≡ None
    → least_of_row p t rule_at ≡ None
row-still p s t rule_at many still e =
    least_of_row-is p t rule_at
    ∙ (ap (λ n. first_below n (λ b. firing p t (rule_at b))) many
    ∙ first_below-still (length s.objects) (λ b. firing p s (rule_at b)) (λ b. firing p t (rule_at b))
    (λ b l. firing-still p s t (rule_at b) (still b l))
    (sym (least_of_row-is p s rule_at) ∙ e))
