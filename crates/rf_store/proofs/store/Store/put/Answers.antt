use Rattle.std.proofs.Common.{◌≡◌, ◌-◌, length, map, arith, ap, ◌∙◌}
use Rattle.rf_store.specs.Part.{part_at, Extends}
use Rattle.rf_store.specs.Store.{version_of}
use Rattle.rf_store.proofs.Maps.{sets_only}
use Rattle.rf_store.proofs.Versions.{versions_extend, no_higher}
use Rattle.rf_store.proofs.store.Store.put.Goals as goal

-- the entry is put, and all others stay
pub returns-clause-sets : goal.returns-clause-sets
returns-clause-sets c =
    let current : (part_at c.self.inside.table.parts c.self.inside.root).entries ≡ c.args.self.now.current = ap (λ s. s.current) c.self.view_is in
    let same = c.in_ok-reserve.ensures.parts in
    rw (c.insert-self-inside.ensures.entries, same, ← current) (sets_only c.args.key c.args.value _ c.height-height.ensures.tree.in_order)

-- the table only grows
pub returns-clause-saved : goal.returns-clause-saved
returns-clause-saved c =
    let saved : map (version_of c.self.inside.table.parts) c.self.inside.saved.items ≡ c.args.self.now.saved = ap (λ s. s.saved) c.self.view_is in
    let more : Extends c.self.inside.table.parts c.insert-self-inside.new.table.parts = rw c.in_ok-reserve.ensures.parts at c.insert-self-inside.ensures.extends in
    versions_extend c.self.inside.table.parts c.insert-self-inside.new.table.parts c.self.inside.root c.self.inside.saved.items c.self.invariant more ∙ saved

-- at most two rows a level, and the tree is no higher than its entries allow
pub returns-clause-few_rows : goal.returns-clause-few_rows
returns-clause-few_rows c h most =
    let current : (part_at c.self.inside.table.parts c.self.inside.root).entries ≡ c.args.self.now.current = ap (λ s. s.current) c.self.view_is in
    let rows : length c.self.inside.table.parts - 1 ≡ c.args.self.now.rows = ap (λ s. s.rows) c.self.view_is in
    let low = no_higher (length c.args.self.now.current) (part_at c.self.inside.table.parts c.self.inside.root).height h (rw current at c.height-height.ensures.tree.full) most in
    let few = rw c.in_ok-reserve.ensures.parts at c.insert-self-inside.ensures.few in
    let not_lower = rw c.in_ok-reserve.ensures.parts at c.insert-self-inside.ensures.not_lower in
    omega (arith, low, few, not_lower, rows, c.self.invariant.current_in)
