use Rattle.std.proofs.Common.{◌+◌, ◌≤◌, length, take, arith, ap, ◌∙◌}
use Rattle.rf_store.proofs.Trees.{length-parts_of, parts_of-take, sound_take}
use Rattle.rf_store.proofs.table.Table.truncate.Goals as goal

pub invariant_of-self : goal.invariant_of-self
invariant_of-self c =
    let size : c.args.count ≤ length c.self.inside.rows.items = omega (arith, ap (λ t. length t.parts) c.self.view_is, length-parts_of c.self.inside.rows.items) in
    rw c.truncate.ensures.items (sound_take c.self.inside.rows.items c.args.count size c.self.invariant)

pub returns : goal.returns
returns c =
    let parts = ap (λ t. t.parts) c.self.view_is in
    let size : c.args.count ≤ length c.self.inside.rows.items = omega (arith, ap length parts, length-parts_of c.self.inside.rows.items) in
    rw c.truncate.ensures.items (parts_of-take c.self.inside.rows.items c.args.count size ∙ ap (take (c.args.count + 1)) parts)
