use Rattle.std.proofs.Common.{◌≡◌, ◌∙◌, ◌&&◌, sym, length, arith, subst}
use Rattle.rf_finite.proofs.Range.{some_below-from_one}
use Rattle.rf_problem.specs.Contained.{is_containing}
use Rattle.rf_problem.specs.declared.problem.Problem.{Problem}
use Rattle.rf_rules.specs.Words.{must}
use Rattle.rf_rules.proofs.containment.steps.must_hold.Goals as goal

pub returns-then-must_contain_by : goal.returns-then-must_contain_by
returns-then-must_contain_by g c =
    let p = g.F.Facts.problem c.args.view.now in
    let s = g.F.Facts.state c.args.view.now in
    let many = subst (λ (x : Problem). c.len-reference-end.result ≡ length x.references) c.problem.ensures c.len-reference-end.ensures in
    sym (some_below-from_one (length p.references) (λ q. is_containing p q && must p s q c.args.x c.args.y) c.loop-reference.reference (omega (arith, many))
    (sym c.must_contain_by.ensures ∙ c.if-must_contain_by.true))
