use Rattle.rf_clause_rules.proofs.LooseLemmas.{arguments_more}
use Rattle.rf_clause_rules.proofs.occurrence.add_arguments.Goals as goal

pub loop-name-preserved : goal.loop-name-preserved
loop-name-preserved c = λ text.
    arguments_more c.args.arguments.now.names.now.declared.now c.args.arguments.now.params.now
    c.args.literal c.args.negated c.args.names.now c.loop-name.name-index
    c.name-item.result text _ _ _ c.loop-name-test.true c.name-item.is
    (c.loop-name.invariant text) (c.in_ok-add_argument.ensures text)
