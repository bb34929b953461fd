use Rattle.std.proofs.Common.{◌∙◌, Vec, ap, vec_len}
use Rattle.std.specs.declared.alloc.Global.{Global}
use Rattle.std.proofs.Common.{ℕ}
use Rattle.rf_state.proofs.NamedLemmas.{AreStated-next}
use Rattle.rf_state.proofs.named_ends.NamedEnds.of.Goals as goal

pub loop-assertion-preserved : goal.loop-assertion-preserved
loop-assertion-preserved c = record {
  numbers = ap (λ (v : Vec ℕ Global). vec_len v) c.name_stated.ensures.numbers ∙ c.loop-assertion.invariant.numbers;
  stated = AreStated-next c.args.problem.now c.as_slice-assertion-items.result.now c.loop-assertion.assertion-index c.assertion-item.result
      c.loop-assertion.named c.name_stated.new.self c.loop-assertion-test.true c.assertion-item.is c.in_ok-name_stated.ensures.stated c.loop-assertion.invariant.stated;
}
