use Rattle.std.proofs.Common.{◌≡◌, ◌+◌, ◌-◌, ◌<◌, length, map, take, arith, ap}
use Rattle.std.proofs.lemmas.List.{length-map}
use Rattle.rf_store.specs.Store.{version_of}
use Rattle.rf_store.proofs.Versions.{version_at, pruned_versions, pruned_length}
use Rattle.rf_store.proofs.store.Store.prune.Goals as goal

-- the versions that stay reach only rows that stay
pub returns-clause-saved : goal.returns-clause-saved
returns-clause-saved c =
    let parts = c.self.inside.table.parts in
    let items = c.self.inside.saved.items in
    let saved : map (version_of parts) items ≡ c.args.self.now.saved = ap (λ s. s.saved) c.self.view_is in
    let inside : c.args.v < length items = omega (arith, c.requires, ap length saved, length-map items (version_of parts)) in
    rw (c.truncate-2.ensures, c.truncate.ensures.items, ← saved) (pruned_versions parts c.self.inside.root items c.args.v c.index-version.result.now c.self.invariant inside c.index-version.ensures)

-- the table is as long as at the commit
pub returns-clause-rows : goal.returns-clause-rows
returns-clause-rows c =
    let parts = c.self.inside.table.parts in
    let items = c.self.inside.saved.items in
    let saved : map (version_of parts) items ≡ c.args.self.now.saved = ap (λ s. s.saved) c.self.view_is in
    let inside : c.args.v < length items = omega (arith, c.requires, ap length saved, length-map items (version_of parts)) in
    let rows = pruned_length parts c.self.inside.root items c.args.v c.index-version.result.now c.self.invariant inside c.index-version.ensures in
    rw (c.truncate-2.ensures, ← saved) (version_at parts items c.args.v c.index-version.result.now (λ version. length (take (c.index-version.result.now.rows + 1) parts) - 1 ≡ version.rows) inside c.index-version.ensures rows)
