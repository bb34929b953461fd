use Rattle.std.proofs.lemmas.Result.{IfOk-weaker}
use Rattle.rf_state.proofs.NonFalse.{AreValues-found}
use Rattle.rf_state.proofs.evaluator.Evaluator.values.Goals as goal

pub values-requires-clause-kept : goal.values-requires-clause-kept
values-requires-clause-kept g c = rw c.stated-stated.ensures c.args.self.now.kept

pub invariant_of-self : goal.invariant_of-self
invariant_of-self g c = record { all = c.args.self.now.all; kept = rw c.stated-stated.ensures at c.values.ensures.kept }

pub returns-clause-values : goal.returns-clause-values
returns-clause-values g c =
    let found = rw c.stated-stated.ensures at c.values.ensures.found in
    IfOk-weaker c.values.result _ _
    (λ values there. AreValues-found (g.F.Facts.problem c.args.self.now.facts.now) (g.F.Facts.state c.args.self.now.facts.now) c.args.predicate values.items there) found
