use Rattle.rf_values.specs.Truth.{may, must}
use Rattle.rf_evaluate.proofs.StepLemmas.{IsSideOf-none}
use Rattle.rf_evaluate.proofs.steps.Steps.new.Goals as goal

pub returns : goal.returns
returns c = λ k symbol. record {
  must_side = IsSideOf-none must k symbol c.new.result c.new.ensures.successors c.new.ensures.through;
  may_side = IsSideOf-none may k symbol c.new-2.result c.new-2.ensures.successors c.new-2.ensures.through;
}
