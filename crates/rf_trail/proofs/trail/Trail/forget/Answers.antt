use Rattle.std.proofs.Common.{ap, sym, map, ◌∙◌}
use Rattle.std.proofs.lemmas.List.{take-map}
use Rattle.rf_trail.specs.Trail.{list_at}
use Rattle.rf_trail.proofs.trail.Trail.forget.Goals as goal

pub returns-clause-kept : goal.returns-clause-kept
returns-clause-kept g c =
    let t = c.args.self.now in
    ap (map (list_at t.changes.items t.items.items)) c.truncate.ensures.items
    ∙ sym (take-map (list_at t.changes.items t.items.items) c.args.many t.marks.items)
