use Rattle.std.proofs.Common.{◌≡◌, ap}
use Rattle.rf_store.specs.Rows.{parts_of}
use Rattle.rf_store.proofs.Trees.{part_at_zero}
use Rattle.rf_store.proofs.table.Table.root.Goals as goal

pub returns-then-link-eq0 : goal.returns-then-link-eq0
returns-then-link-eq0 c =
    let parts : parts_of c.self.inside.rows.items ≡ c.args.self.now.parts = ap (λ t. t.parts) c.self.view_is in
    record {
      zero = c.if-link-eq0.true;
      empty = rw (c.if-link-eq0.true, ← parts) (part_at_zero c.self.inside.rows.items);
      node = tt;
      tree = rw (← parts) (c.self.invariant.trees c.args.link);
    }
