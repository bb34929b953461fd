use Rattle.std.proofs.Common.{map}
use Rattle.rf_names.specs.Declarations.{object_in}
use Rattle.rf_names.proofs.LoopSteps.{flat_more}
use Rattle.rf_names.proofs.mentions.push_objects.Goals as goal

pub loop-arg-preserved : goal.loop-arg-preserved
loop-arg-preserved c =
    flat_more object_in (map (λ n. n.now) c.args.out.now.items) (map (λ n. n.now) c.loop-arg.out.items) (map (λ n. n.now) c.push_object.new.out.items) c.args.args.now c.loop-arg.arg-index
    c.arg-item.result c.loop-arg-test.true c.arg-item.is c.loop-arg.invariant c.in_ok-push_object.ensures
