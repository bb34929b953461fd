-- What covers a state before a change covers the state after it once it is touched.
use Rattle.std.proofs.Common.{◌≡◌, ℕ, ◌*◌, false, Option, None, Some, length, refl, sym, ap, ◌∙◌, subst}
use Rattle.std.specs.Option.{option_or}
use Rattle.rf_problem.specs.declared.problem.Problem.{Problem}
use Rattle.rf_state.specs.State.{State}
use Rattle.rf_rules.specs.declared.rule.Rule.{Rule}
use Rattle.rf_rules.specs.declared.rule.Rule.TheVariants.{Empty, NoClass, Src, Tgt}
use Rattle.rf_pending.specs.Changes.{FitsChange, IsChange, is_fresh}
use Rattle.rf_pending.specs.Families.{IsLeastOf, is_of_types}
use Rattle.rf_pending.specs.Rows.{Covers as CoversRows, CoversEdges, firing, is_marked, least_of_edges, least_of_objects, least_of_row}
use Rattle.rf_pending.specs.Touching.{AreEdgesTouched, AreTouched, IsSameRow, is_at_object, is_near}
use Rattle.rf_pending.specs.declared.change.Change.{Change}
use Rattle.rf_pending.specs.declared.marks.Marks.{Marks}
use Rattle.rf_pending.specs.declared.standing.Standing.{Standing}
use Rattle.rf_pending.specs.declared.standing.Standing.TheVariants.{Must}
use Rattle.rf_pending.proofs.AfterLemmas.{edges-after, objects-after}
use Rattle.rf_pending.proofs.SameRows.{same_many, same_object}
use Rattle.rf_prop_type.specs.Pending.{Covers, first_clash}
use Rattle.rf_prop_type.specs.declared.pending.Pending.{Pending}
use Rattle.rf_prop_type.proofs.LocalLemmas.{clash-same, empty-same, no_class-same, src-same, tgt-same}

module _ (p : Problem) (s t : State) (change : Change) (is : IsChange change s t) (fits : FitsChange p t change) (old : is_fresh change ≡ false) where
  pub covers-after : (was pending : Pending) → Covers p s was
      → AreTouched (is_at_object change) was.empty pending.empty
      → AreTouched (is_at_object change) was.no_class pending.no_class
      → AreEdgesTouched (length p.references) (length t.objects) (is_near p t Must change) was.src pending.src
      → AreEdgesTouched (length p.references) (length t.objects) (is_near p t Must change) was.tgt pending.tgt
      → AreEdgesTouched (length p.references) (length t.objects) (is_near p t Must change) was.clash pending.clash
      → Covers p t pending
  covers-after was pending covers empty no_class src tgt clash = record {
    empty = objects-after p s t change is fits old (λ u o. firing p u (Empty o)) was.empty pending.empty covers.empty empty (λ o same. empty-same p s t o (same_many p s t change is old) same);
    no_class = objects-after p s t change is fits old (λ u o. firing p u (NoClass o)) was.no_class pending.no_class covers.no_class no_class (λ o same. no_class-same p s t o (same_many p s t change is old) same);
    src = edges-after p s t change is fits old Must (λ u r a. least_of_row p u (Src r a)) was.src pending.src covers.src src (λ r a same. src-same p s t r a same);
    tgt = edges-after p s t change is fits old Must (λ u r a. least_of_row p u (Tgt r a)) was.tgt pending.tgt covers.tgt tgt (λ r a same. tgt-same p s t r a same);
    clash = edges-after p s t change is fits old Must (λ u r a. first_clash p u r a) was.clash pending.clash covers.clash clash (λ r a same. clash-same p s t r a same);
  }
