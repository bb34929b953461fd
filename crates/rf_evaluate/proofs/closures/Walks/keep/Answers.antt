use Rattle.rf_evaluate.proofs.WalkLemmas.{AreWalksOf-more}
use Rattle.rf_evaluate.proofs.closures.Walks.keep.Goals as goal

pub returns-clause-walks : goal.returns-clause-walks
returns-clause-walks c = λ k symbol held right. AreWalksOf-more k symbol c.args.self.now c.make_room.new.self c.insert.new.self c.args.from c.args.marks
    c.make_room.ensures.must c.make_room.ensures.may c.make_room.ensures.marks c.in_ok-insert.ensures.updates.0 held right
