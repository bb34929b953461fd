use Rattle.std.proofs.Common.{arith}
use Rattle.rf_finite.proofs.Range.{count_below-le_bound}
use Rattle.rf_graph.specs.Violations.{is_counted}
use Rattle.rf_problem.specs.Parts.{scope_at}
use Rattle.rf_satisfy.proofs.kinds.scopes.count_nodes.Goals as goal

pub overflow_add-count : goal.overflow_add-count
overflow_add-count c =
    let bound = count_below-le_bound c.loop-node.node (is_counted c.args.problem.now c.args.graph.now (scope_at c.args.problem.now.scopes c.args.scope)) in
    omega (arith, c.loop-node.invariant)
