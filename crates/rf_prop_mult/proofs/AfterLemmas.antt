-- What covers a state before a change covers the state after it once it is touched.
use Rattle.std.proofs.Common.{◌≡◌, ◌<◌, ℕ, Bool, false, Option, length, sym, subst, ap, ◌∙◌}
use Rattle.std.proofs.lemmas.List.{length-set}
use Rattle.rf_problem.specs.declared.problem.Problem.{Problem}
use Rattle.rf_state.specs.State.{State}
use Rattle.rf_rules.specs.declared.rule.Rule.{Rule}
use Rattle.rf_rules.specs.declared.rule.Rule.TheVariants.{Full, Need, NeedCount, Room, TypeLow}
use Rattle.rf_pending.specs.Changes.{FitsChange, IsChange, is_fresh}
use Rattle.rf_pending.specs.Rows.{CoversEdges, firing, least_of_row}
use Rattle.rf_pending.specs.Touching.{AreEdgesTouched, is_near as is_near_change}
use Rattle.rf_pending.specs.declared.change.Change.{Change}
use Rattle.rf_pending.specs.declared.change.Change.TheVariants.{Candidates}
use Rattle.rf_pending.specs.declared.marks.Marks.{Marks}
use Rattle.rf_pending.specs.declared.standing.Standing.{Standing}
use Rattle.rf_pending.specs.declared.standing.Standing.TheVariants.{May, Must}
use Rattle.rf_pending.proofs.CoverLemmas.{covers-edges_touched}
use Rattle.rf_pending.proofs.SameRows.{same_many, same_row}
use Rattle.rf_prop_mult.specs.Kinds.{is_near}
use Rattle.rf_prop_mult.specs.Pending.{Covers}
use Rattle.rf_prop_mult.specs.declared.pending.Pending.{Pending}
use Rattle.rf_prop_mult.proofs.CandidateLemmas.{kept_row}
use Rattle.rf_prop_mult.proofs.LocalLemmas.{IsSameForCounts, full_row-same, need_count_row-same, need_row-same, room_row-same}
use Rattle.rf_prop_mult.proofs.LocalLemmas.{same_row-counts, type_low-same}

-- where rows that a change isn't near are as they were, and those that it is near are touched
module _ (p : Problem) (s t : State) (many : length t.objects ≡ length s.objects) (near : Standing → ℕ → ℕ → Bool)
    (same : (standing : Standing) (r a : ℕ) → near standing r a ≡ false → IsSameForCounts p standing r a s t) where
  abbrev pub AreTouched : Standing → Marks → Marks → Type 0
  AreTouched standing = AreEdgesTouched (length p.references) (length t.objects) (near standing)

  rows-after : (standing : Standing) (f : State → ℕ → ℕ → Option Rule) (was marks : Marks)
      → CoversEdges (length p.references) (length s.objects) (f s) was → AreTouched standing was marks
      → ((r a : ℕ) → IsSameForCounts p standing r a s t → f t r a ≡ f s r a)
      → CoversEdges (length p.references) (length t.objects) (f t) marks
  rows-after standing f was marks covers touched found =
      covers-edges_touched (length p.references) (length t.objects) (f s) (f t) (near standing) was marks
      (subst (λ (n : ℕ). CoversEdges (length p.references) n (f s) was) (sym many) covers) touched
      (λ r a lr la far. found r a (same standing r a far))

  covers-from : (was pending : Pending) → Covers p s was
      → AreTouched Must was.full pending.full → AreTouched Must was.room pending.room
      → AreTouched May was.need pending.need → AreTouched May was.need_count pending.need_count
      → AreTouched May was.type_low pending.type_low → Covers p t pending
  covers-from was pending covers full room need need_count type_low = record {
    full = rows-after Must (λ u r a. least_of_row p u (Full r a)) was.full pending.full covers.full full
        (λ r a. full_row-same p s t r a);
    room = rows-after Must (λ u r a. least_of_row p u (Room r a)) was.room pending.room covers.room room
        (λ r a. room_row-same p s t r a);
    need = rows-after May (λ u r a. least_of_row p u (Need r a)) was.need pending.need covers.need need
        (λ r a. need_row-same p s t r a);
    need_count = rows-after May (λ u r a. least_of_row p u (NeedCount r a)) was.need_count pending.need_count
        covers.need_count need_count (λ r a. need_count_row-same p s t r a);
    type_low = rows-after May (λ u r a. firing p u (TypeLow r a)) was.type_low pending.type_low covers.type_low type_low
        (λ r a. type_low-same p s t r a);
  }

-- after a fact or a count
pub covers-after : (p : Problem) (s t : State) (change : Change) (is : IsChange change s t) (fits : FitsChange p t change)
    (old : is_fresh change ≡ false) (was pending : Pending) → Covers p s was
    → (let touched : Standing → Marks → Marks → Type 0 =
    λ standing. AreEdgesTouched (length p.references) (length t.objects) (is_near_change p t standing change) in
    touched Must was.full pending.full → touched Must was.room pending.room → touched May was.need pending.need
    → touched May was.need_count pending.need_count → touched May was.type_low pending.type_low → Covers p t pending)
covers-after p s t change is fits old =
    covers-from p s t (same_many p s t change is old) (λ standing. is_near_change p t standing change)
    (λ standing r a far. same_row-counts p standing r a s t (same_row p s t standing change is fits r a far))

-- after an object lost candidates
pub covers-after_candidates : (p : Problem) (s t : State) (o : ℕ) (is : IsChange (Candidates o) s t) (there : o < length t.objects)
    (was pending : Pending) → Covers p s was
    → (let touched : Marks → Marks → Type 0 = AreEdgesTouched (length p.references) (length t.objects) (is_near p t o) in
    touched was.full pending.full → touched was.room pending.room → touched was.need pending.need
    → touched was.need_count pending.need_count → touched was.type_low pending.type_low → Covers p t pending)
covers-after_candidates p s t o is there =
    let many : length t.objects ≡ length s.objects = ap (λ (u : State). length u.objects) is.1 ∙ length-set s.objects o _ in
    covers-from p s t many (λ standing. is_near p t o)
    (λ standing r a far. subst (λ (u : State). is_near p u o r a ≡ false → IsSameForCounts p standing r a s u) (sym is.1)
    (kept_row p s o is.0 (subst (λ (n : ℕ). o < n) many there) standing r a) far)
