use Rattle.std.proofs.Common.{◌+◌, Ok, refl, sym, ap}
use Rattle.rf_check.proofs.CheckingLemmas.{step-after, step-refused, step-taken}
use Rattle.rf_check.proofs.checker.Checker.step.Goals as goal

pub returns-then-is_some-clause-checked : goal.returns-then-is_some-clause-checked
returns-then-is_some-clause-checked c p before checked = step-after p c.args.self.now _ before c.args.line.now refl refl (sym c.if-is_some.ensures) refl checked

pub returns-then-not-branch-clause-checked : goal.returns-then-not-branch-clause-checked
returns-then-not-branch-clause-checked c p before checked =
    step-refused p c.args.self.now _ before c.args.line.now refl refl (sym c.if-is_some.ensures) refl (c.in_ok-take.ensures.refused (ap Ok c.if-not-branch.true) p) checked

pub returns-clause-checked : goal.returns-clause-checked
returns-clause-checked c p before checked =
    step-taken p c.args.self.now _ before c.args.line.now refl refl (sym c.if-is_some.ensures) refl (ap (λ n. c.args.self.now.decisions + n) c.decisions_of.ensures.counted)
    (c.in_ok-take.ensures.taken (ap Ok c.if-not-branch.false) p) checked
