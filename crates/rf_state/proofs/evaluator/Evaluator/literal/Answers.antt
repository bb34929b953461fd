use Rattle.rf_state.proofs.evaluator.Evaluator.literal.Goals as goal

pub literal-requires-clause-kept : goal.literal-requires-clause-kept
literal-requires-clause-kept g c = rw c.stated-stated.ensures c.args.self.now.kept

pub invariant_of-self : goal.invariant_of-self
invariant_of-self g c = record { all = c.args.self.now.all; kept = rw c.stated-stated.ensures at c.literal.ensures.kept }

pub returns-clause-value : goal.returns-clause-value
returns-clause-value g c = rw c.stated-stated.ensures at c.literal.ensures.value
