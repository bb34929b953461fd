use Rattle.std.proofs.Common.{◌∙◌, ap}
use Rattle.rf_values.specs.Truth.{may, must}
use Rattle.rf_evaluate.proofs.StepLemmas.{IsSideOf-push}
use Rattle.rf_evaluate.proofs.steps.Steps.push.Goals as goal

pub returns : goal.returns
returns c = λ k symbol n steps row presence. record {
  must_side = IsSideOf-push must k symbol n c.args.self.now.must c.push.new.self c.args.row.must c.must.result
      c.in_ok-push.ensures.successors c.in_ok-push.ensures.through steps.must_side row.must_side (c.must.ensures ∙ ap must presence);
  may_side = IsSideOf-push may k symbol n c.args.self.now.may c.push-2.new.self c.args.row.may c.may.result
      c.in_ok-push-2.ensures.successors c.in_ok-push-2.ensures.through steps.may_side row.may_side (c.may.ensures ∙ ap may presence);
}
