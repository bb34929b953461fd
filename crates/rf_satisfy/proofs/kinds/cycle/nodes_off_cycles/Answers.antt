use Rattle.std.proofs.Common.{◌≡◌, length, not, ap, ◌∙◌, arith}
use Rattle.rf_graph.specs.Graph.{size_of}
use Rattle.rf_satisfy.proofs.ContainerLemmas.{is_cyclic-contains_in}
use Rattle.rf_satisfy.proofs.kinds.cycle.nodes_off_cycles.Goals as goal

pub returns-clause-marks : goal.returns-clause-marks
returns-clause-marks c =
    let marks = rw c.deref.ensures.value at c.in_ok-marks.ensures.marks in
    let len : length c.in_ok-containers.containers.items ≡ size_of c.args.graph.now = omega (arith, c.in_ok-containers.ensures.len) in
    λ x l. marks x (omega arith) ∙ ap not (is_cyclic-contains_in c.args.problem.now c.args.graph.now c.in_ok-containers.containers.items len c.in_ok-containers.ensures.containment x l)
