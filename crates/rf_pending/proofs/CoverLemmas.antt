-- Marks that cover what fires, after a change too.
use Rattle.std.proofs.Common.{◌≡◌, ℕ, zero, suc, ◌+◌, ◌*◌, ◌/◌, ◌%◌, ◌<◌, Bool, false, true, Option, None, length, refl, sym, ap, ◌∙◌, subst, arith, true≢false}
use Rattle.std.proofs.lemmas.Nat.{div-add-mod'}
use Rattle.std.proofs.Math.Nat.{mod-lt}
use Rattle.rf_finite.specs.Range.{first_below}
use Rattle.rf_finite.proofs.Range.{each-from_first_below}
use Rattle.rf_rules.specs.declared.rule.Rule.{Rule}
use Rattle.rf_pending.specs.Rows.{Covers, CoversEdges, is_marked}
use Rattle.rf_pending.specs.Touching.{AreEdgesTouched, AreTouched}
use Rattle.rf_pending.specs.declared.marks.Marks.{Marks}
use Rattle.rf_pending.proofs.RowLemmas.{first_below-rows, reference_below}

-- all marked, and none marked where nothing is found
pub covers-all : (many : ℕ) (found : ℕ → Option Rule) (marks : Marks) → length marks.rows.items ≡ many
    → ((k : ℕ) → k < many → is_marked marks k ≡ true) → Covers many found marks
covers-all many found marks size all = record { size = size; rows = λ k l h. absurd (true≢false (sym (all k l) ∙ h)) }

pub covers-none : (many : ℕ) (found : ℕ → Option Rule) (marks : Marks) → length marks.rows.items ≡ many → first_below many found ≡ None → Covers many found marks
covers-none many found marks size e = record { size = size; rows = λ k l h. each-from_first_below many found e k l }

pub covers-no_edges : (m n : ℕ) (found : ℕ → ℕ → Option Rule) (marks : Marks) → length marks.rows.items ≡ m * n
    → first_below m (λ r. first_below n (found r)) ≡ None → CoversEdges m n found marks
covers-no_edges m n found marks size e = covers-none (m * n) (λ k. found (k / n) (k % n)) marks size (first_below-rows m n found ∙ e)

-- after a touch, where what isn't touched is as it was
pub covers-touched : (many : ℕ) (f g : ℕ → Option Rule) (near : ℕ → Bool) (was marks : Marks) → Covers many f was → AreTouched near was marks
    → ((k : ℕ) → k < many → near k ≡ false → g k ≡ f k) → Covers many g marks
covers-touched many f g near was marks covers touched same = record {
  size = touched.size ∙ covers.size;
  rows = λ k l h. (let far = touched.far k (subst (λ (m : ℕ). k < m) (sym (touched.size ∙ covers.size)) l) h in same k l far.1 ∙ covers.rows k l far.0);
}

positive : (k m n : ℕ) → k < m * n → 0 < n
positive k m zero l = absurd (let none : m * 0 ≡ 0 = omega arith in omega (arith, none))
positive k m (suc n) l = omega arith

pub covers-edges_touched : (m n : ℕ) (f g : ℕ → ℕ → Option Rule) (near : ℕ → ℕ → Bool) (was marks : Marks) → CoversEdges m n f was
    → AreEdgesTouched m n near was marks → ((r a : ℕ) → r < m → a < n → near r a ≡ false → g r a ≡ f r a) → CoversEdges m n g marks
covers-edges_touched m n f g near was marks covers touched same = record {
  size = touched.size ∙ covers.size;
  rows = λ k l h. (
      let here : 0 < n = positive k m n l in
      let lr = reference_below k n m here l in
      let la : k % n < n = mod-lt k here in
      let place : k / n * n + k % n ≡ k = div-add-mod' k n in
      let far = touched.far (k / n) (k % n) lr la (subst (λ (j : ℕ). j < length marks.rows.items) (sym place) (subst (λ (i : ℕ). k < i) (sym (touched.size ∙ covers.size)) l))
      (subst (λ (j : ℕ). is_marked marks j ≡ false) (sym place) h) in
      same (k / n) (k % n) lr la far.1 ∙ covers.rows k l (subst (λ (j : ℕ). is_marked was j ≡ false) place far.0)
      );
}
