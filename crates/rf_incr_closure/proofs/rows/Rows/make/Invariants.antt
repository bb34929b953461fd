use Rattle.rf_finite.specs.Walks.{walk_below}
use Rattle.rf_incr_closure.proofs.RowLemmas.{IsMaking}
use Rattle.rf_incr_closure.proofs.rows.Rows.make.Given as goal

abbrev pub invariant-loop-from : goal.invariant-loop-from
invariant-loop-from g l =
    IsMaking l.initial.store l.store l.tag (g.E.Edges.size l.e) (walk_below (g.E.Edges.edge l.e) (g.E.Edges.through l.e) (g.E.Edges.size l.e)) l.from
