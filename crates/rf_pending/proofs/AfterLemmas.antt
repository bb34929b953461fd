-- Rows that cover a state before a change, and the state after it once they are touched.
use Rattle.std.proofs.Common.{◌≡◌, ℕ, false, Option, length, sym, subst}
use Rattle.rf_problem.specs.declared.problem.Problem.{Problem}
use Rattle.rf_state.specs.State.{State}
use Rattle.rf_rules.specs.declared.rule.Rule.{Rule}
use Rattle.rf_pending.specs.Changes.{FitsChange, IsChange, is_fresh}
use Rattle.rf_pending.specs.Rows.{Covers, CoversEdges}
use Rattle.rf_pending.specs.Touching.{AreEdgesTouched, AreTouched, IsSameRow, is_at_object, is_near}
use Rattle.rf_pending.specs.declared.change.Change.{Change}
use Rattle.rf_pending.specs.declared.marks.Marks.{Marks}
use Rattle.rf_pending.specs.declared.standing.Standing.{Standing}
use Rattle.rf_pending.proofs.CoverLemmas.{covers-edges_touched, covers-touched}
use Rattle.rf_pending.proofs.SameRows.{same_many, same_object, same_row}
use Rattle.rf_state.specs.State.{object_of}

module _ (p : Problem) (s t : State) (change : Change) (is : IsChange change s t) (fits : FitsChange p t change) (old : is_fresh change ≡ false) where
  many : length t.objects ≡ length s.objects
  many = same_many p s t change is old

  pub objects-after : (f : State → ℕ → Option Rule) (was marks : Marks) → Covers (length s.objects) (f s) was → AreTouched (is_at_object change) was marks
      → ((o : ℕ) → object_of t o ≡ object_of s o → f t o ≡ f s o) → Covers (length t.objects) (f t) marks
  objects-after f was marks covers touched same =
      covers-touched (length t.objects) (f s) (f t) (is_at_object change) was marks
      (subst (λ (n : ℕ). Covers n (f s) was) (sym many) covers) touched (λ o l far. same o (same_object p s t change is fits o far))

  pub edges-after : (standing : Standing) (f : State → ℕ → ℕ → Option Rule) (was marks : Marks) → CoversEdges (length p.references) (length s.objects) (f s) was
      → AreEdgesTouched (length p.references) (length t.objects) (is_near p t standing change) was marks
      → ((r a : ℕ) → IsSameRow p standing r a s t → f t r a ≡ f s r a) → CoversEdges (length p.references) (length t.objects) (f t) marks
  edges-after standing f was marks covers touched same =
      covers-edges_touched (length p.references) (length t.objects) (f s) (f t) (is_near p t standing change) was marks
      (subst (λ (n : ℕ). CoversEdges (length p.references) n (f s) was) (sym many) covers) touched
      (λ r a lr la far. same r a (same_row p s t standing change is fits r a far))
