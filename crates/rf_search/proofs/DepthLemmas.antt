-- The decisions of a course are taken where no rule fires, so its outcomes keep to the depth.
use Rattle.std.proofs.Common.{◌≡◌, ℕ, ◌+◌, ◌^◌, ◌≤◌, ◌<◌, Some, List, [], ◌∷◌, ◌++◌, subst, arith}
use Rattle.rf_problem.specs.declared.problem.Problem.{Problem}
use Rattle.rf_state.specs.State.{IsRoot, State}
use Rattle.rf_tree.specs.Pending.{decisions_in}
use Rattle.rf_tree.specs.declared.line.Line.{Line}
use Rattle.rf_tree.specs.declared.line.Line.TheVariants.{Close, Decide, Step}
use Rattle.rf_tree.specs.declared.outcome.Outcome.{Outcome}
use Rattle.rf_tree.specs.declared.outcome.Outcome.TheVariants.{Found, Refuted, Unfinished}
use Rattle.rf_depth.specs.Depth.{depth}
use Rattle.rf_depth.specs.Late.{LinesDecideLate}
use Rattle.rf_depth.specs.Outcomes.{IsEnough, IsFinished, IsShallow}
use Rattle.rf_depth.specs.Ways.{longest_in}
use Rattle.rf_depth.proofs.Ways.{lines_are_within}
use Rattle.rf_search.specs.Course.{Leads, Place, places_after, root_place}
use Rattle.rf_search.specs.Laws.{EnoughIsFinished, OutcomeIsShallow}
use Rattle.rf_search.specs.Outcome.{Ends}
use Rattle.rf_search.proofs.CourseLemmas.{Leads-left, states_of}
use Rattle.rf_search.proofs.EndLemmas.{saturated-from_least}
use Rattle.rf_search.proofs.RightLemmas.{refuted-leads}

decides-late : (p : Problem) (seed k : ℕ) (lines : List Line) (places left : List Place) → Leads p seed k lines places left
    → LinesDecideLate p lines (states_of places)
decides-late p seed k [] places left h = tt
decides-late p seed k (line ∷ lines) [] left h = absurd h
decides-late p seed k (Step rule ∷ lines) (x ∷ places) left h =
    decides-late p seed (k + decisions_in (Step rule ∷ [])) lines (places_after p x (Step rule) ++ places) left h.1
decides-late p seed k (Close rule ∷ lines) (x ∷ places) left h =
    decides-late p seed (k + decisions_in (Close rule ∷ [])) lines (places_after p x (Close rule) ++ places) left h.1
decides-late p seed k (Decide d first ∷ lines) (x ∷ places) left h = (
  saturated-from_least p x.state h.0.0,
  decides-late p seed (k + decisions_in (Decide d first ∷ [])) lines (places_after p x (Decide d first) ++ places) left h.1,
)

within-depth : (p : Problem) (seed : ℕ) (root : State) (lines : List Line) (left : List Place) → IsRoot p root
    → Leads p seed 0 lines (root_place root ∷ []) left → (d : ℕ) → depth p ≡ Some d → (longest_in lines ≤ d) × (decisions_in lines < 2 ^ d)
within-depth p seed root lines left at leads d h =
    lines_are_within p root d lines (states_of left) at h (Leads-left p seed 0 lines (root_place root ∷ []) left leads)
    (decides-late p seed 0 lines (root_place root ∷ []) left leads)

shallow-from_ends : (p : Problem) (seed budget : ℕ) (root : State) (outcome : Outcome) (s : State) (way : List State) → IsRoot p root
    → Ends p seed budget root outcome s way → IsShallow p outcome
shallow-from_ends p seed budget root (Found g) s way at h = tt
shallow-from_ends p seed budget root (Refuted lines) s way at h = λ d e.
    (within-depth p seed root lines [] at (refuted-leads p seed budget root lines s way h) d e).0
shallow-from_ends p seed budget root (Unfinished lines) s way at h = λ d e.
    (within-depth p seed root lines (record { state = s; way = way } ∷ h.rest) at h.leads d e).0

finished-from_ends : (p : Problem) (seed budget : ℕ) (root : State) (outcome : Outcome) (s : State) (way : List State) → IsRoot p root
    → Ends p seed budget root outcome s way → IsEnough p budget → IsFinished outcome
finished-from_ends p seed budget root (Found g) s way at h enough = tt
finished-from_ends p seed budget root (Refuted lines) s way at h enough = tt
finished-from_ends p seed budget root (Unfinished lines) s way at h enough =
    let few = (within-depth p seed root lines (record { state = s; way = way } ∷ h.rest) at h.leads enough.0 enough.1).1 in
    let spent = h.spent in
    let least = enough.2 in
    absurd (omega arith)

pub outcome_is_shallow : OutcomeIsShallow
outcome_is_shallow p seed budget outcome h = shallow-from_ends p seed budget h.root outcome h.state h.way h.is_root h.ends

pub enough_is_finished : EnoughIsFinished
enough_is_finished p seed budget outcome h = finished-from_ends p seed budget h.root outcome h.state h.way h.is_root h.ends

-- the same where the problem of the state that was lent is the problem
pub shallow-of_lent : (p lent : Problem) (seed budget : ℕ) (root : State) (outcome : Outcome) (s : State) (way : List State) → lent ≡ p → IsRoot p root
    → Ends lent seed budget root outcome s way → IsShallow p outcome
shallow-of_lent p lent seed budget root outcome s way is at h =
    shallow-from_ends p seed budget root outcome s way at (subst (λ q. Ends q seed budget root outcome s way) is h)

pub finished-of_lent : (p lent : Problem) (seed budget : ℕ) (root : State) (outcome : Outcome) (s : State) (way : List State) → lent ≡ p → IsRoot p root
    → IsEnough p budget → Ends lent seed budget root outcome s way → IsFinished outcome
finished-of_lent p lent seed budget root outcome s way is at enough h =
    finished-from_ends p seed budget root outcome s way at (subst (λ q. Ends q seed budget root outcome s way) is h) enough
