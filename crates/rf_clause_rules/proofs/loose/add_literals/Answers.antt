use Rattle.rf_clause_rules.proofs.LooseLemmas.{after_more}
use Rattle.rf_clause_rules.proofs.loose.add_literals.Goals as goal

pub loop-number-preserved : goal.loop-number-preserved
loop-number-preserved c = λ text.
    after_more c.args.arguments.now.names.now.declared.now c.args.arguments.now.params.now
    (λ m. m.now) c.args.literals.now c.loop-number.number
    c.index-literals-number.result text _ _ _ c.loop-number-test.true c.index-literals-number.is
    (c.loop-number.invariant text) (c.in_ok-add_literal.ensures text)
