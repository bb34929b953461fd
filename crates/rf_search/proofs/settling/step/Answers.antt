use Rattle.std.proofs.lemmas.Result.{on_ok_weaker}
use Rattle.rf_pending.specs.Changes.{IsChange}
use Rattle.rf_search.specs.Knowledge.{IsKnown}
use Rattle.rf_search.proofs.StepLemmas.{rule-fits_change, rule-is_change}
use Rattle.rf_search.proofs.settling.step.Goals as goal

pub touch-requires : goal.touch-requires
touch-requires g c =
    let p = g.E.Facts.problem c.args.edit.now in
    let s = g.E.Facts.state c.args.edit.now in
    rw (c.in_ok-apply.ensures.problem, c.in_ok-apply.ensures.after, c.change_of-change.ensures) (rule-fits_change p s c.args.rule.now c.requires.least.passes c.requires.effect)

pub returns-clause-known : goal.returns-clause-known
returns-clause-known g c =
    let p = g.E.Facts.problem c.args.edit.now in
    let s = g.E.Facts.state c.args.edit.now in
    let q = g.E.Facts.problem c.apply.new.edit in
    let t = g.E.Facts.state c.apply.new.edit in
    let change : IsChange c.change_of-change.result s t =
    rw (c.in_ok-apply.ensures.after, c.change_of-change.ensures) (rule-is_change p s c.args.rule.now c.requires.least.passes c.requires.effect) in
    let before : IsKnown q s c.args.knowledge.now = rw c.in_ok-apply.ensures.problem c.requires.known in
    on_ok_weaker c.touch.result (λ h. h s change before) c.touch.ensures
