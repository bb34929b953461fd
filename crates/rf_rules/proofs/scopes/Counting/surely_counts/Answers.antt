use Rattle.rf_rules.proofs.ScopeLemmas.{is_surely_counted-is}
use Rattle.rf_rules.proofs.scopes.Counting.surely_counts.Goals as goal

pub returns-then-counts_origin_of : goal.returns-then-counts_origin_of
returns-then-counts_origin_of g c =
    is_surely_counted-is (g.F.Facts.problem c.args.self.now.view.now) (g.F.Facts.state c.args.self.now.view.now) c.args.self.now.scope c.args.o
    c.args.self.now.classes c.args.self.now.classes_fit c.counts_origin_of.result c.each_candidate.result c.if-counts_origin_of.true c.counts_origin_of.ensures c.each_candidate.ensures
