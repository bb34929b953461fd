use Rattle.std.proofs.Common.{◌<◌, List, length, sym, ap, subst, ◌∙◌, slice_index_or}
use Rattle.rf_rules.specs.declared.decision.Decision.{Decision}
use Rattle.rf_decide.specs.Choice.{edges_from, no_decision}
use Rattle.rf_decide.proofs.Joining.{joined_rows}
use Rattle.rf_decide.proofs.counted.edge_at.Goals as goal

pub member_of-requires : goal.member_of-requires
member_of-requires g c =
    let p = g.F.Facts.problem c.args.view.now in
    let s = g.F.Facts.state c.args.view.now in
    subst (λ (ds : List Decision). c.args.place < length ds)
    (sym (joined_rows (length p.references) (length s.objects) (edges_from p s))) c.requires.place

pub returns : goal.returns
returns g c =
    let p = g.F.Facts.problem c.args.view.now in
    let s = g.F.Facts.state c.args.view.now in
    c.member_of.ensures ∙ ap (λ (ds : List Decision). slice_index_or ds c.args.place no_decision)
    (joined_rows (length p.references) (length s.objects) (edges_from p s))
