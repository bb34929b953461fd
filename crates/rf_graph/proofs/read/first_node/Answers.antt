use Rattle.rf_graph.proofs.Lines.{IfNone-from, no_first_node, other_than_node}
use Rattle.rf_graph.proofs.read.first_node.Goals as goal

pub returns-in_err-line-clause-none : goal.returns-in_err-line-clause-none
returns-in_err-line-clause-none c =
    IfNone-from _ c.from_residual.result (no_first_node c.args.numbers.now.problem.now c.args.bytes.now c.in_err-line.ensures.none)

pub returns-in_err-node-clause-none : goal.returns-in_err-node-clause-none
returns-in_err-node-clause-none c =
    IfNone-from _ c.from_residual-in_err-node.result
    (other_than_node c.args.numbers.now.problem.now c.args.bytes.now _ _ c.in_ok-line.ensures.found c.in_err-node.ensures.none)
