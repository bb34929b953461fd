use Rattle.std.proofs.Common.{◌++◌, subst, take, arith}
use Rattle.std.proofs.lemmas.List.{take_all}
use Rattle.rf_check.specs.Checking.{HasChecked}
use Rattle.rf_check.proofs.CheckingLemmas.{lines-next}
use Rattle.rf_check.proofs.checker.Checker.go_over.Goals as goal

pub loop-line-preserved : goal.loop-line-preserved
loop-line-preserved c = record {
  fed = omega (arith, c.in_ok-step.ensures.fed);
  checked = λ p before checked. subst (HasChecked p c.step.new.self) (lines-next before c.args.lines.now c.loop-line.line-index c.line-item.result c.line-item.is c.loop-line-test.true)
      (c.in_ok-step.ensures.checked p (before ++ take c.loop-line.line-index c.args.lines.now) (c.loop-line.invariant.checked p before checked));
}

pub returns-clause-checked : goal.returns-clause-checked
returns-clause-checked c p before checked =
    subst (λ lines. HasChecked p c.loop-line.self (before ++ lines)) (take_all c.loop-line.line-index c.args.lines.now (omega arith)) (c.loop-line.invariant.checked p before checked)
