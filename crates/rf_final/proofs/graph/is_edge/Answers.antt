use Rattle.rf_final.proofs.Pieces.{single-there}
use Rattle.rf_final.proofs.graph.is_edge.Goals as goal

pub fact-requires-clause-from : goal.fact-requires-clause-from
fact-requires-clause-from g c =
    single-there (g.F.Facts.state c.args.view.now) c.args.objects.now c.args.x c.requires.singles c.requires.from

pub fact-requires-clause-to : goal.fact-requires-clause-to
fact-requires-clause-to g c = single-there (g.F.Facts.state c.args.view.now) c.args.objects.now c.args.y c.requires.singles c.requires.to
