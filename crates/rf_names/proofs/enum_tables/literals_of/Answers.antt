use Rattle.std.proofs.Common.{◌∙◌, ◌++◌, [], ap, map}
use Rattle.rf_names.proofs.LoopSteps.{flat_more}
use Rattle.rf_names.proofs.enum_tables.literals_of.Goals as goal

pub loop-class-preserved : goal.loop-class-preserved
loop-class-preserved c =
    flat_more (λ x. x.literals) [] (map (λ n. n.now) c.loop-class.names.items) (map (λ n. n.now) c.push_all.new.out.items) c.args.classes.now c.loop-class.class-index
    c.class-item.result c.loop-class-test.true c.class-item.is c.loop-class.invariant
    (c.in_ok-push_all.ensures ∙ ap (λ x. map (λ n. n.now) c.loop-class.names.items ++ x.literals) c.class.view_is)
