use Rattle.rf_graph.proofs.Lines.{IfNone-from, no_first_edge, other_than_edge}
use Rattle.rf_graph.proofs.read.first_edge.Goals as goal

pub returns-in_err-line-clause-none : goal.returns-in_err-line-clause-none
returns-in_err-line-clause-none c =
    IfNone-from _ c.from_residual.result (no_first_edge c.args.numbers.now.problem.now c.args.nodes c.args.bytes.now c.in_err-line.ensures.none)

pub returns-in_err-edge-clause-none : goal.returns-in_err-edge-clause-none
returns-in_err-edge-clause-none c =
    IfNone-from _ c.from_residual-in_err-edge.result
    (other_than_edge c.args.numbers.now.problem.now c.args.nodes c.args.bytes.now _ _ c.in_ok-line.ensures.found c.in_err-edge.ensures.none)
