use Rattle.rf_values.specs.Truth.{may}
use Rattle.rf_evaluate.proofs.WalkLemmas.{IsSideOf-other, none-kept}
use Rattle.rf_evaluate.proofs.closures.Walks.new.Goals as goal

pub returns : goal.returns
returns c = λ k symbol steps. record {
  must_side = steps.must_side;
  may_side = IsSideOf-other may k symbol k.size c.args.steps.must c.args.steps.may c.other-may.result c.other-may.ensures steps.may_side;
  searched = λ x own found. absurd (none-kept c.new.result c.new.ensures.empty x own found);
}
