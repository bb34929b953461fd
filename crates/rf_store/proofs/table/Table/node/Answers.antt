use Rattle.std.proofs.Common.{◌≡◌, ◌≤◌, length, arith, ap}
use Rattle.rf_store.specs.Rows.{parts_of}
use Rattle.rf_store.proofs.Trees.{length-parts_of}
use Rattle.rf_store.proofs.table.Table.node.Goals as goal

pub index-requires : goal.index-requires
index-requires c =
    let parts = ap (λ t. length t.parts) c.self.view_is in
    omega (arith, parts, length-parts_of c.self.inside.rows.items)

pub returns : goal.returns
returns c =
    let parts : parts_of c.self.inside.rows.items ≡ c.args.self.now.parts = ap (λ t. t.parts) c.self.view_is in
    let past : c.args.link ≤ length c.self.inside.rows.items = omega (arith, ap length parts, length-parts_of c.self.inside.rows.items) in
    record {
      node = rw (← parts) (c.self.invariant.nodes c.args.link c.index.result.now c.requires.some past c.index.ensures);
      tree = rw (← parts) (c.self.invariant.trees c.args.link);
    }
