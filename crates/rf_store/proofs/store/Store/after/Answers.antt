use Rattle.std.proofs.Common.{◌≡◌, ap}
use Rattle.rf_store.specs.Part.{part_at}
use Rattle.rf_store.proofs.Maps.{least_from}
use Rattle.rf_store.proofs.store.Store.after.Goals as goal

-- the first entry from the key on is the least
pub returns : goal.returns
returns c =
    let current : (part_at c.self.inside.table.parts c.self.inside.root).entries ≡ c.args.self.now.current = ap (λ s. s.current) c.self.view_is in
    record {
      least = rw (c.find_from.ensures.first, ← current) (least_from c.args.key.now _ c.find_from.ensures.in_order);
      in_order = rw (← current) c.find_from.ensures.in_order;
    }
