use Rattle.std.proofs.Common.{rules, ◌≡◌, true, false}
use Rattle.std.proofs.lemmas.Result.{on_ok_weaker}
use Rattle.rf_pending.specs.Changes.{IsChange}
use Rattle.rf_rules.specs.Rules.{fires, is_closing}
use Rattle.rf_search.specs.Pending.{Covers}
use Rattle.rf_search.proofs.StepLemmas.{rule-fits_change, rule-is_change}
use Rattle.rf_prop_tests.proofs.steps.follow.Goals as goal

pub touch-requires : goal.touch-requires
touch-requires g c =
    let p = g.E.Facts.problem c.args.e.now in
    let s = g.E.Facts.state c.args.e.now in
    let fired : fires p s c.args.rule.now ≡ true = search rules in
    let opened : is_closing c.args.rule.now ≡ false = search rules in
    rw (c.in_ok-apply.ensures.problem, c.in_ok-apply.ensures.after, c.change_of-change.ensures) (rule-fits_change p s c.args.rule.now fired opened)

pub returns : goal.returns
returns g c =
    let p = g.E.Facts.problem c.args.e.now in
    let s = g.E.Facts.state c.args.e.now in
    let q = g.E.Facts.problem c.apply.new.edit in
    let t = g.E.Facts.state c.apply.new.edit in
    let fired : fires p s c.args.rule.now ≡ true = search rules in
    let opened : is_closing c.args.rule.now ≡ false = search rules in
    let change : IsChange c.change_of-change.result s t =
    rw (c.in_ok-apply.ensures.after, c.change_of-change.ensures) (rule-is_change p s c.args.rule.now fired opened) in
    let before : Covers q s c.args.pending.now = rw c.in_ok-apply.ensures.problem c.requires in
    on_ok_weaker c.touch.result (λ h. h s change before) c.touch.ensures
