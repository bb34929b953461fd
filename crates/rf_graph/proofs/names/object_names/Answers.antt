use Rattle.rf_graph.specs.Document.{object_name}
use Rattle.rf_graph.proofs.Index.{no_name, one_more_name}
use Rattle.rf_graph.proofs.names.object_names.Goals as goal

pub loop-object-init : goal.loop-object-init
loop-object-init c = no_name (object_name c.args.problem.now) _ c.new-names.ensures.items

pub loop-object-preserved : goal.loop-object-preserved
loop-object-preserved c =
    one_more_name c.loop-object.object (object_name c.args.problem.now) c.loop-object.names.items _ _ _ c.loop-object.invariant c.new-name.ensures c.in_ok-push_object.ensures.ok
    c.in_ok-push.ensures.items
