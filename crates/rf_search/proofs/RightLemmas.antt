-- What a search ends with is right.
use Rattle.std.proofs.Common.{ℕ, List, [], ◌∷◌, refl, sym, subst, arith}
use Rattle.rf_problem.specs.declared.problem.Problem.{Problem}
use Rattle.rf_graph.specs.Violations.{Sat}
use Rattle.rf_state.specs.State.{IsRoot, State}
use Rattle.rf_tree.specs.Outcomes.{IsRightOutcome}
use Rattle.rf_tree.specs.Pending.{decisions_in}
use Rattle.rf_tree.specs.declared.line.Line.{Line}
use Rattle.rf_tree.specs.declared.line.Line.TheVariants.{Close}
use Rattle.rf_tree.specs.declared.outcome.Outcome.{Outcome}
use Rattle.rf_tree.specs.declared.outcome.Outcome.TheVariants.{Found, Refuted, Unfinished}
use Rattle.rf_tree.proofs.TreeLaws.{open_is_computed, valid_is_computed}
use Rattle.rf_final.specs.Laws.{FinalSatisfies}
use Rattle.rf_search.specs.Course.{Leads, root_place}
use Rattle.rf_search.specs.Outcome.{Ends, EndsRefuted, IsOutcome}
use Rattle.rf_search.proofs.CourseLemmas.{Leads-join, Leads-left, states_of}
use Rattle.rf_search.proofs.ReachLemmas.{first-on_course}

-- lines with the closing of the last place lead nowhere
pub refuted-leads : (p : Problem) (seed budget : ℕ) (root : State) (lines : List Line) (s : State) (way : List State)
    → EndsRefuted p seed budget root lines s way → Leads p seed 0 lines (root_place root ∷ []) []
refuted-leads p seed budget root lines s way h =
    subst (λ (ls : List Line). Leads p seed 0 ls (root_place root ∷ []) []) (sym h.last)
    (Leads-join p seed 0 (decisions_in h.before) h.before (Close h.rule ∷ []) (root_place root ∷ []) (record { state = s; way = way } ∷ []) [] h.leads
    (omega arith) (h.closed, refl))

-- given that the graph of a final state satisfies, which the law of `rf_final` says
pub right-from_ends : FinalSatisfies → (p : Problem) (seed budget : ℕ) (root : State) (outcome : Outcome) (s : State) (way : List State) → IsRoot p root
    → Ends p seed budget root outcome s way → IsRightOutcome p budget outcome
right-from_ends final_satisfies p seed budget root (Found g) s way at h =
    let reached = first-on_course p seed root h.0.lines (record { state = s; way = way }) h.0.rest at h.0.leads in
    subst (Sat p) (sym h.1) (final_satisfies p s reached.reached h.0.final)
right-from_ends final_satisfies p seed budget root (Refuted lines) s way at h =
    (valid_is_computed p root lines at).1 (Leads-left p seed 0 lines (root_place root ∷ []) [] (refuted-leads p seed budget root lines s way h))
right-from_ends final_satisfies p seed budget root (Unfinished lines) s way at h =
    (open_is_computed p root lines budget at).1
    (s, states_of h.rest, Leads-left p seed 0 lines (root_place root ∷ []) (record { state = s; way = way } ∷ h.rest) h.leads, sym h.spent)

pub right-from_outcome : FinalSatisfies → (p : Problem) (seed budget : ℕ) (outcome : Outcome) → IsOutcome p seed budget outcome → IsRightOutcome p budget outcome
right-from_outcome final p seed budget outcome h = right-from_ends final p seed budget h.root outcome h.state h.way h.is_root h.ends
