use Rattle.rf_search.proofs.RightLemmas.{right-from_ends}
use Rattle.rf_search.proofs.searching.search.Goals as goal

pub returns-in-Ok-clause-right : goal.returns-in-Ok-clause-right
returns-in-Ok-clause-right g c =
    right-from_ends c.final_law.ensures (g.T.Facts.problem c.args.t.now) c.args.seed c.args.budget (g.T.Facts.state c.args.t.now) c.in-Ok.outcome _ _ c.requires.root c.in-Ok.ensures.ends
