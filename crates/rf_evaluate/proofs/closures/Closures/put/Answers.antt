use Rattle.rf_evaluate.proofs.WalkLemmas.{kept-more, kept-same}
use Rattle.rf_evaluate.proofs.closures.Closures.put.Goals as goal

pub returns-in_err-insert-clause-kept : goal.returns-in_err-insert-clause-kept
returns-in_err-insert-clause-kept c = λ k kept steps. kept-same k c.args.self.now.walks c.insert.new.self c.in_err-insert.ensures.err kept

pub returns-clause-kept : goal.returns-clause-kept
returns-clause-kept c = λ k kept steps. kept-more k c.args.self.now.walks c.insert.new.self c.args.symbol c.new.result
    c.in_ok-insert.ensures.updates.0 (c.new.ensures k c.args.symbol steps) kept
