use Rattle.std.proofs.Common.{◌∙◌, ap, length, nat_lt}
use Rattle.rf_problem.specs.declared.problem.Problem.{Problem}
use Rattle.rf_state.specs.StateKnown.{state_known}
use Rattle.rf_state.proofs.evaluator.Evaluator.new.Goals as goal

pub invariant_of-result : goal.invariant_of-result
invariant_of-result g c = record {
  all = λ d. c.class_numbers.ensures d ∙ ap (λ (p : Problem). nat_lt d (length p.classes)) c.problem.ensures;
  kept = c.new.ensures (state_known (g.F.Facts.problem c.args.facts.now) (g.F.Facts.state c.args.facts.now));
}
