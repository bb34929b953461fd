use Rattle.std.specs.Result.{is_ok}
use Rattle.rf_trail.proofs.Undoing.{kept-tried}
use Rattle.rf_trail.proofs.trail.Trail.push.Goals as goal

pub returns-clause-kept : goal.returns-clause-kept
returns-clause-kept g c =
    let t = c.args.self.now in
    kept-tried t.changes.items t.items.items c.push.new.self.items c.args.item t.marks.items (is_ok c.push.result) t.marked c.push.ensures.items
