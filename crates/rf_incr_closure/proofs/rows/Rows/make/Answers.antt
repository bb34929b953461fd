use Rattle.std.proofs.Common.{arith}
use Rattle.rf_finite.specs.Walks.{walk_below}
use Rattle.rf_incr_closure.proofs.RowLemmas.{IsMaking-more, making-others, making-unchanged, row-walks, written-row}
use Rattle.rf_incr_closure.proofs.rows.Rows.make.Goals as goal

pub loop-from-preserved : goal.loop-from-preserved
loop-from-preserved g c =
    IsMaking-more c.args.store.now c.loop-from.store c.renew.new.store c.args.tag (g.E.Edges.size c.args.e.now)
    (walk_below (g.E.Edges.edge c.args.e.now) (g.E.Edges.through c.args.e.now) (g.E.Edges.size c.args.e.now)) c.loop-from.from
    (omega (arith, c.size-from-end.ensures, c.loop-from-test.true)) c.loop-from.invariant
    c.renew.ensures.others c.renew.ensures.unchanged c.in_ok-renew.ensures.words c.renew.ensures.saved

pub returns-in_err-renew-clause-others : goal.returns-in_err-renew-clause-others
returns-in_err-renew-clause-others g c =
    making-others c.args.store.now c.loop-from.store c.renew.new.store c.args.tag (g.E.Edges.size c.args.e.now)
    (walk_below (g.E.Edges.edge c.args.e.now) (g.E.Edges.through c.args.e.now) (g.E.Edges.size c.args.e.now)) c.loop-from.from
    (omega (arith, c.size-from-end.ensures, c.loop-from-test.true)) c.loop-from.invariant
    c.renew.ensures.others

pub returns-in_err-renew-clause-unchanged : goal.returns-in_err-renew-clause-unchanged
returns-in_err-renew-clause-unchanged g c =
    making-unchanged c.args.store.now c.loop-from.store c.renew.new.store c.args.tag (g.E.Edges.size c.args.e.now)
    (walk_below (g.E.Edges.edge c.args.e.now) (g.E.Edges.through c.args.e.now) (g.E.Edges.size c.args.e.now)) c.loop-from.from
    (omega (arith, c.size-from-end.ensures, c.loop-from-test.true)) c.loop-from.invariant
    c.renew.ensures.others c.renew.ensures.unchanged

pub returns-clause-words : goal.returns-clause-words
returns-clause-words g c a l = c.loop-from.invariant.each a (omega (arith, l, c.size-from-end.ensures, c.loop-from-test.false))

pub returns-clause-rows : goal.returns-clause-rows
returns-clause-rows g c a l =
    written-row c.loop-from.store.current c.args.tag (g.E.Edges.size c.args.e.now) a
    (walk_below (g.E.Edges.edge c.args.e.now) (g.E.Edges.through c.args.e.now) (g.E.Edges.size c.args.e.now) a)
    (c.loop-from.invariant.each a (omega (arith, l, c.size-from-end.ensures, c.loop-from-test.false)))

pub returns-clause-walks : goal.returns-clause-walks
returns-clause-walks g c a l =
    row-walks c.loop-from.store.current c.args.tag (g.E.Edges.edge c.args.e.now) (g.E.Edges.through c.args.e.now) (g.E.Edges.size c.args.e.now) a
    (returns-clause-rows g c a l)
