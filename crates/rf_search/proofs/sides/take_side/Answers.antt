use Rattle.std.proofs.lemmas.Result.{on_ok_weaker}
use Rattle.rf_pending.specs.Changes.{IsChange}
use Rattle.rf_search.specs.Knowledge.{IsKnown}
use Rattle.rf_search.proofs.SideLemmas.{side-fits_change, side-is_change}
use Rattle.rf_search.proofs.sides.take_side.Goals as goal

pub touch-requires : goal.touch-requires
touch-requires g c =
    let p = g.E.Facts.problem c.args.edit.now in
    let s = g.E.Facts.state c.args.edit.now in
    rw (c.in_ok-decide.ensures.problem, c.in_ok-decide.ensures.decided, c.change_on.ensures)
    (side-fits_change p s c.args.decision.now c.args.first c.requires.allowed)

pub returns-clause-known : goal.returns-clause-known
returns-clause-known g c =
    let p = g.E.Facts.problem c.args.edit.now in
    let s = g.E.Facts.state c.args.edit.now in
    let q = g.E.Facts.problem c.decide.new.e in
    let t = g.E.Facts.state c.decide.new.e in
    let change : IsChange c.change_on.result s t =
    rw (c.in_ok-decide.ensures.decided, c.change_on.ensures) (side-is_change p s c.args.decision.now c.args.first) in
    let before : IsKnown q s c.args.knowledge.now = rw c.in_ok-decide.ensures.problem c.requires.known in
    rw (← c.in_ok-decide.ensures.problem) (on_ok_weaker c.touch.result (λ h. h s change before) c.touch.ensures)
