use Rattle.std.proofs.Common.{◌≡◌, ◌∙◌, ◌<◌, All, length, sym, ap, subst}
use Rattle.rf_problem.specs.declared.problem.Problem.{Problem}
use Rattle.rf_valuation.proofs.LineLemmas.{lines-more, objects-of_value}
use Rattle.rf_valuation.proofs.lines.push_values.Goals as goal

pub push_line-requires-clause-objects : goal.push_line-requires-clause-objects
push_line-requires-clause-objects g c =
    let p = g.F.Facts.problem c.args.facts.now in
    let s = g.F.Facts.state c.args.facts.now in
    let below = objects-of_value p s c.args.predicate c.args.values.now c.loop-item.item-index c.item-item.result c.requires.values c.loop-item-test.true c.item-item.is in
    rw (c.as_slice.ensures.items, c.problem-problem.ensures, sym c.requires.many) below

pub loop-item-preserved : goal.loop-item-preserved
loop-item-preserved g c =
    let p = g.F.Facts.problem c.args.facts.now in
    let s = g.F.Facts.state c.args.facts.now in
    let line = rw (c.problem-problem.ensures, c.as_slice.ensures.items) at c.in_ok-push_line.ensures in
    lines-more p s c.args.predicate c.args.values.now c.loop-item.item-index c.item-item.result c.args.out.now c.loop-item.out c.push_line.new.out
    c.requires.values c.loop-item-test.true c.item-item.is c.loop-item.invariant line
