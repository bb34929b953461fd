-- Sizes of lists, after what a change touched.
use Rattle.std.proofs.Common.{◌≡◌, ℕ, zero, suc, ◌+◌, ◌*◌, ◌/◌, ◌%◌, ◌<◌, Bool, false, List, length, sym, ap, ◌∙◌, subst, arith}
use Rattle.std.proofs.lemmas.Nat.{div-add-mod'}
use Rattle.std.proofs.Math.Nat.{mod-lt}
use Rattle.rf_problem.specs.declared.problem.Problem.{Problem}
use Rattle.rf_state.specs.State.{State}
use Rattle.rf_rules.specs.declared.decision.Decision.{Decision}
use Rattle.rf_pending.specs.Changes.{FitsChange, IsChange, is_fresh}
use Rattle.rf_pending.specs.Rows.{is_marked}
use Rattle.rf_pending.specs.Touching.{AreEdgesTouched, AreTouched, is_at_object, is_near}
use Rattle.rf_pending.specs.declared.change.Change.{Change}
use Rattle.rf_pending.specs.declared.marks.Marks.{Marks}
use Rattle.rf_pending.specs.declared.standing.Standing.TheVariants.{May}
use Rattle.rf_pending.proofs.RowLemmas.{reference_below}
use Rattle.rf_pending.proofs.SameRows.{same_many, same_object, same_row}
use Rattle.rf_decide.specs.Choice.{edges_from, kinds_of}
use Rattle.rf_decide.specs.Counted.{AreSizes, edge_row}
use Rattle.rf_decide.specs.declared.limit.TheConstants.{MOST_OBJECTS}
use Rattle.rf_decide.specs.declared.sizes.Sizes.{Sizes}
use Rattle.rf_decide.proofs.SameLists.{edges-same, kinds-same}

-- where each list that isn't touched is as it was
sizes-touched : (many most : ℕ) (f g : ℕ → List Decision) (near : ℕ → Bool) (was : Sizes) (marks : Marks) → AreSizes many most f was
    → AreTouched near was.uncounted marks → ((k : ℕ) → k < many → near k ≡ false → g k ≡ f k)
    → AreSizes many most g (record { numbers = was.numbers; uncounted = marks })
sizes-touched many most f g near was marks sizes touched same = record {
  numbers = sizes.numbers;
  marks = touched.size ∙ sizes.marks;
  few = sizes.few;
  counted = λ k l h. (
      let far = touched.far k (subst (λ (m : ℕ). k < m) (sym (touched.size ∙ sizes.marks)) l) h in
      sizes.counted k l far.0 ∙ ap length (sym (same k l far.1))
      );
}

positive : (k m n : ℕ) → k < m * n → 0 < n
positive k m zero l = absurd (let none : m * 0 ≡ 0 = omega arith in omega (arith, none))
positive k m (suc n) l = omega arith

-- the same of lists that are numbered reference by reference
sizes-edges_touched : (m n most : ℕ) (f g : ℕ → ℕ → List Decision) (near : ℕ → ℕ → Bool) (was : Sizes) (marks : Marks)
    → AreSizes (m * n) most (λ k. f (k / n) (k % n)) was → AreEdgesTouched m n near was.uncounted marks
    → ((r a : ℕ) → near r a ≡ false → g r a ≡ f r a)
    → AreSizes (m * n) most (λ k. g (k / n) (k % n)) (record { numbers = was.numbers; uncounted = marks })
sizes-edges_touched m n most f g near was marks sizes touched same = record {
  numbers = sizes.numbers;
  marks = touched.size ∙ sizes.marks;
  few = sizes.few;
  counted = λ k l h. (
      let here : 0 < n = positive k m n l in
      let lr = reference_below k n m here l in
      let la : k % n < n = mod-lt k here in
      let place : k / n * n + k % n ≡ k = div-add-mod' k n in
      let far = touched.far (k / n) (k % n) lr la
      (subst (λ (j : ℕ). j < length marks.rows.items) (sym place) (subst (λ (i : ℕ). k < i) (sym (touched.size ∙ sizes.marks)) l))
      (subst (λ (j : ℕ). is_marked marks j ≡ false) (sym place) h) in
      sizes.counted k l (subst (λ (j : ℕ). is_marked was.uncounted j ≡ false) place far.0) ∙ ap length (sym (same (k / n) (k % n) far.1))
      );
}

module _ (p : Problem) (s t : State) (change : Change) (is : IsChange change s t) (fits : FitsChange p t change)
    (old : is_fresh change ≡ false) where
  many : length t.objects ≡ length s.objects
  many = same_many p s t change is old

  pub kinds-after : (was : Sizes) (marks : Marks) → AreSizes (length s.objects) 256 (kinds_of p s) was
      → AreTouched (is_at_object change) was.uncounted marks
      → AreSizes (length t.objects) 256 (kinds_of p t) (record { numbers = was.numbers; uncounted = marks })
  kinds-after was marks sizes touched =
      sizes-touched (length t.objects) 256 (kinds_of p s) (kinds_of p t) (is_at_object change) was marks
      (subst (λ (n : ℕ). AreSizes n 256 (kinds_of p s) was) (sym many) sizes) touched
      (λ o l far. kinds-same p s t o many (same_object p s t change is fits o far))

  pub edges-after : (was : Sizes) (marks : Marks) → AreSizes (length p.references * length s.objects) MOST_OBJECTS (edge_row p s) was
      → AreEdgesTouched (length p.references) (length t.objects) (is_near p t May change) was.uncounted marks
      → AreSizes (length p.references * length t.objects) MOST_OBJECTS (edge_row p t) (record { numbers = was.numbers; uncounted = marks })
  edges-after was marks sizes touched =
      sizes-edges_touched (length p.references) (length t.objects) MOST_OBJECTS (edges_from p s)
      (edges_from p t) (is_near p t May change) was marks
      (subst (λ (n : ℕ). AreSizes (length p.references * n) MOST_OBJECTS (λ k. edges_from p s (k / n) (k % n)) was)
      (sym many) sizes) touched
      (λ r a far. edges-same p s t r a (same_row p s t May change is fits r a far))
