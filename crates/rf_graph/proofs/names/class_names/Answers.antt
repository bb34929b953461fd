use Rattle.rf_graph.specs.Document.{class_name}
use Rattle.rf_graph.proofs.Index.{no_name, one_more_name}
use Rattle.rf_graph.proofs.names.class_names.Goals as goal

pub loop-class-init : goal.loop-class-init
loop-class-init c = no_name (class_name c.args.problem.now) _ c.new-names.ensures.items

pub loop-class-preserved : goal.loop-class-preserved
loop-class-preserved c =
    one_more_name c.loop-class.class (class_name c.args.problem.now) c.loop-class.names.items _ _ _ c.loop-class.invariant c.new-name.ensures c.in_ok-push_class.ensures.ok
    c.in_ok-push.ensures.items
