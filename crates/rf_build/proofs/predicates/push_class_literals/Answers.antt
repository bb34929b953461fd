use Rattle.rf_build.proofs.BodyLemmas.{class_step}
use Rattle.rf_build.proofs.predicates.push_class_literals.Goals as goal

pub loop-number-preserved : goal.loop-number-preserved
loop-number-preserved c =
    class_step c.args.names.now.declared.now c.args.params.now c.loop-number.number
    c.index-params-number.result _ _ _
    c.loop-number-test.true c.index-params-number.is c.loop-number.invariant
    c.in_ok-push_class_literal.ensures
