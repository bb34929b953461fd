use Rattle.std.proofs.Common.{◌≡◌, refl, ◌∙◌}
use Rattle.rf_search.specs.Stack.{kept_at}
use Rattle.rf_search.proofs.SideLemmas.{kept-from_slice_get}
use Rattle.rf_search.proofs.sides.go_back.Goals as goal

pub returns-clause-side : goal.returns-clause-side
returns-clause-side g c =
    let kept = g.T.Edit.kept c.args.t.now in
    let v = c.args.untried.version in
    let at : g.T.Facts.state c.prune.new.self ≡ kept_at kept v =
    kept-from_slice_get kept v (g.T.Facts.state c.prune.new.self) c.requires.version c.prune.ensures.state in
    c.in_ok-take_side.ensures.side ∙ rw (c.prune.ensures.problem, at) refl
