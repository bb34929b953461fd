use Rattle.rf_state.proofs.evaluator.Evaluator.value.Goals as goal

pub value-requires-clause-kept : goal.value-requires-clause-kept
value-requires-clause-kept g c = rw c.stated-stated.ensures c.args.self.now.kept

pub invariant_of-self : goal.invariant_of-self
invariant_of-self g c = record { all = c.args.self.now.all; kept = rw c.stated-stated.ensures at c.value.ensures.kept }
