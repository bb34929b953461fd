-- Where a search ends.
use Rattle.std.proofs.Common.{◌≡◌, ℕ, Bool, Some, None, sym, ◌∙◌, true≢false}
use Rattle.std.proofs.lemmas.Bool.{false_from_ne_true}
use Rattle.rf_problem.specs.declared.problem.Problem.{Problem}
use Rattle.rf_state.specs.State.{State}
use Rattle.rf_rules.specs.Rules.{fires}
use Rattle.rf_rules.specs.declared.decision.Decision.{Decision}
use Rattle.rf_tree.specs.Saturated.{IsFinal, IsSaturated}
use Rattle.rf_decide.specs.Choice.{chosen}
use Rattle.rf_search.specs.Least.{IsLeast}
use Rattle.rf_decide.proofs.Chosen.{chosen_allowed, none_chosen}

pub saturated-from_least : (p : Problem) (s : State) → IsLeast p s None → IsSaturated p s
saturated-from_least p s h = λ rule. false_from_ne_true (fires p s rule) (h rule)

pub final-from_none : (p : Problem) (s : State) (w : ℕ) → IsLeast p s None → chosen p s w ≡ None → IsFinal p s
final-from_none p s w h e = record { saturated = saturated-from_least p s h; decided = (none_chosen p s w).0 e }

pub undecided-from_chosen : (p : Problem) (s : State) (w : ℕ) (d : Decision) (first : Bool) → chosen p s w ≡ Some (d, first) → IsFinal p s → ⊥
undecided-from_chosen p s w d first e final = true≢false (sym (chosen_allowed p s w d first e) ∙ final.decided d)
