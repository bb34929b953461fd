use Rattle.rf_graph.specs.Document.{reference_name}
use Rattle.rf_graph.proofs.Index.{no_name, one_more_name}
use Rattle.rf_graph.proofs.names.reference_names.Goals as goal

pub loop-reference-init : goal.loop-reference-init
loop-reference-init c = no_name (reference_name c.args.problem.now) _ c.new-names.ensures.items

pub loop-reference-preserved : goal.loop-reference-preserved
loop-reference-preserved c =
    one_more_name c.loop-reference.reference (reference_name c.args.problem.now) c.loop-reference.names.items _ _ _ c.loop-reference.invariant c.new-name.ensures c.in_ok-push_reference.ensures.ok
    c.in_ok-push.ensures.items
