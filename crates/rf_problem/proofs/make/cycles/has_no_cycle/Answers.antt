use Rattle.std.proofs.Common.{◌<◌, arith, refl}
use Rattle.rf_problem.proofs.CycleLemmas.{HasFar-more, no_cycle-from_none, none_left}
use Rattle.rf_problem.proofs.make.cycles.has_no_cycle.Goals as goal

pub returns-then-is_empty : goal.returns-then-is_empty
returns-then-is_empty g c = (
  λ _. no_cycle-from_none (g.E.Edges.edge c.args.edges.now) c.args.size c.loop-round.left c.loop-round.invariant.off
      (c.is_empty.ensures.members.0 c.if-is_empty.true),
  λ _. refl,
)

pub loop-round-preserved : goal.loop-round-preserved
loop-round-preserved g c = record {
  within = λ x has. c.loop-round.invariant.within x (c.peeled-left.ensures.kept x has);
  off = c.peeled-left.ensures.off c.loop-round.invariant.off;
  far = HasFar-more (g.E.Edges.edge c.args.edges.now) c.args.size c.loop-round.left c.peeled-left.result c.loop-round._round
      c.loop-round.invariant.far c.loop-round.invariant.within c.peeled-left.ensures.kept c.peeled-left.ensures.led;
}

pub returns : goal.returns
returns g c =
    let past : c.args.size < c.loop-round._round = omega arith in (
      λ t. no_cycle-from_none (g.E.Edges.edge c.args.edges.now) c.args.size c.loop-round.left c.loop-round.invariant.off
          (c.is_empty-2.ensures.members.0 t),
      λ none. c.is_empty-2.ensures.members.1
          (none_left (g.E.Edges.edge c.args.edges.now) c.args.size c.loop-round.left c.loop-round._round past c.loop-round.invariant.far none),
    )
