use Rattle.std.proofs.Common.{◌∙◌, ap, ap₂, map, get_or, [], List}
use Rattle.rf_trail.specs.Trail.{list_at}
use Rattle.rf_trail.proofs.Undoing.{kept-none, take-nothing}
use Rattle.rf_trail.proofs.trail.Trail.clear.Goals as goal

pub returns-clause-kept : goal.returns-clause-kept
returns-clause-kept g c v =
    let items = c.truncate.ensures.items ∙ take-nothing c.args.self.now.items.items in
    let changes = c.truncate-2.ensures.items ∙ take-nothing c.args.self.now.changes.items in
    rw (items, changes) (kept-none c.forget_all.new.marks.items v)
