use Rattle.std.proofs.Common.{ap, arith, length, not, sym, ◌∙◌}
use Rattle.rf_graph.specs.First.{is_in_range}
use Rattle.rf_graph.specs.declared.verdict.Violation.TheVariants.{Degree}
use Rattle.rf_satisfy.proofs.Counts.{count_by-degree}
use Rattle.rf_satisfy.proofs.Firsts.{first_below-when}
use Rattle.rf_satisfy.proofs.kinds.degrees.first_outside.Goals as goal

pub is_in_range-requires-clause-degree : goal.is_in_range-requires-clause-degree
is_in_range-requires-clause-degree c =
    c.requires.degrees c.loop-node.node (omega arith)
    ∙ count_by-degree c.args.problem.now c.args.graph.now c.args.reference c.loop-node.node c.requires.fits

pub returns-then-not-is_in_range : goal.returns-then-not-is_in_range
returns-then-not-is_in_range c =
    first_below-when (length c.args.graph.now.nodes) (λ x. not (is_in_range c.args.problem.now c.args.graph.now c.args.reference x)) (Degree c.args.reference) c.loop-node.node
    (omega arith) c.loop-node.invariant (sym (ap not c.is_in_range.ensures) ∙ ap not c.if-not-is_in_range.true)
