use Rattle.std.proofs.Common.{length, subst}
use Rattle.rf_state.specs.Meaning.{meaning}
use Rattle.rf_state.specs.State.{IsRoot, State}
use Rattle.rf_state.proofs.RootLemmas.{root-unique}
use Rattle.rf_valuation.specs.Valuation.{IsValuation}
use Rattle.rf_valuation.proofs.LineLemmas.{AreLinesBelow-unique, whole-from_empty}
use Rattle.rf_valuation.proofs.valuation.valuation_of.Goals as goal

pub returns : goal.returns
returns c =
    let p = c.args.problem.now in
    let own = meaning c.in_ok-root.root in
    let text = c.push_valuation.new.out in
    let is : IsValuation p own text =
    whole-from_empty p c.in_ok-root.root.problem.now own c.new-text.result text c.in_ok-root.ensures.problem c.new-text.ensures
    c.in_ok-push_valuation.ensures in
    let right : (s : State) → IsRoot p s → IsValuation p s text =
    λ s root. subst (λ (r : State). IsValuation p r text) (root-unique p own s c.in_ok-root.ensures.root root) is in
    record {
      some = (own, c.in_ok-root.ensures.root, is);
      right = right;
      alone = λ s other root same. AreLinesBelow-unique p s (length p.predicates) text other (right s root) same;
    }
