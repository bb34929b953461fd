use Rattle.std.proofs.Common.{arith, length, sym, ◌∙◌}
use Rattle.rf_satisfy.proofs.SuspectLemmas.{first_below-found}
use Rattle.rf_satisfy.specs.Edges.{first_degree_of}
use Rattle.rf_satisfy.proofs.kinds.degrees.first_degree.Goals as goal

pub returns-then-is_some : goal.returns-then-is_some
returns-then-is_some c =
    first_below-found (length c.args.problem.now.references) (first_degree_of c.args.problem.now c.args.graph.now) c.loop-reference.reference c.first_outside-first.result
    (omega arith) c.loop-reference.invariant.1 c.first_outside-first.ensures (sym c.is_some.ensures ∙ c.if-is_some.true)
