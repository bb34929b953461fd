use Rattle.std.proofs.Common.{◌∙◌, sym, ap}
use Rattle.rf_rules.specs.Rules.{fires}
use Rattle.rf_prop_broken.specs.Best.{fires_at}
use Rattle.rf_prop_broken.proofs.BestLemmas.{improves-failed, improves-later, improves-taken}
use Rattle.rf_prop_broken.proofs.instances.consider.Goals.{else-comes_before-via-then-comes_before+in_ok-fires+else-branch, else-comes_before-via-else-comes_before}
use Rattle.rf_prop_broken.proofs.instances.consider.Goals as goal

pub returns-then-branch : goal.returns-then-branch
returns-then-branch g c =
    let p = g.V.Facts.problem c.args.view.now in
    let s = g.V.Facts.state c.args.view.now in
    improves-taken (fires_at p s c.args.instances) c.args.objects c.args.best.now (sym c.comes_before.ensures ∙ c.if-comes_before.true)
    (ap (fires p s) (sym c.rule_at.ensures) ∙ (sym c.in_ok-fires.ensures ∙ c.if-branch.true))

pub returns-else-comes_before : goal.returns-else-comes_before
returns-else-comes_before g c =
    let p = g.V.Facts.problem c.args.view.now in
    let s = g.V.Facts.state c.args.view.now in
    elim c.else-comes_before.branch [
      | else-comes_before-via-then-comes_before+in_ok-fires+else-branch w ↦
          improves-failed (fires_at p s c.args.instances) c.args.objects c.args.best.now
          (ap (fires p s) (sym w.rule_at.ensures) ∙ (sym w.in_ok-fires.ensures ∙ w.if-branch.false))
      | else-comes_before-via-else-comes_before w ↦
          improves-later (fires_at p s c.args.instances) c.args.objects c.args.best.now (sym c.comes_before.ensures ∙ w.if-comes_before.false)
    ]
