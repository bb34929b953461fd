use Rattle.std.proofs.Common.{◌≡◌, ◌-◌, ◌≤◌, ◌<◌, ◌^◌, [], length, get_or, arith, ap, sym, ◌∙◌}
use Rattle.std.proofs.lemmas.List.{get_or_default}
use Rattle.rf_store.specs.Part.{Part}
use Rattle.rf_store.specs.Rows.{parts_of}
use Rattle.rf_store.specs.declared.table.Row.{Row}
use Rattle.rf_store.proofs.Trees.{part_at_zero, length-parts_of}
use Rattle.rf_store.proofs.table.Table.height.Goals as goal

pub returns-then-link-eq0 : goal.returns-then-link-eq0
returns-then-link-eq0 c =
    let parts : parts_of c.self.inside.rows.items ≡ c.args.self.now.parts = ap (λ t. t.parts) c.self.view_is in
    let zero = rw parts at (ap (λ (p : Part). p.height) (part_at_zero c.self.inside.rows.items)) in
    record { height = rw c.if-link-eq0.true (sym zero); tree = rw (← parts) (c.self.invariant.trees c.args.link); low = omega arith; small = omega arith }

pub bounds-rows-link : goal.bounds-rows-link
bounds-rows-link c =
    let parts = ap (λ t. length t.parts) c.self.view_is in
    omega (arith, parts, length-parts_of c.self.inside.rows.items)

pub offset_bounds-rows-link : goal.offset_bounds-rows-link
offset_bounds-rows-link c =
    let parts = ap (λ t. length t.parts) c.self.view_is in
    let inside : c.args.link - 1 < length c.as_slice-rows.result.now = omega (arith, parts, length-parts_of c.self.inside.rows.items) in
    omega (arith, c.as_slice-rows.type_inv)

pub returns-else-link-eq0 : goal.returns-else-link-eq0
returns-else-link-eq0 c =
    let parts : parts_of c.self.inside.rows.items ≡ c.args.self.now.parts = ap (λ t. t.parts) c.self.view_is in
    let past : c.args.link ≤ length c.self.inside.rows.items = omega (arith, ap length parts, length-parts_of c.self.inside.rows.items) in
    let value = c.as_slice-rows.ensures.value in
    let zero : Row = record { key = []; left = 0; right = 0; value = []; height = 0 } in
    let row = get_or c.as_slice-rows.result.now (c.args.link - 1) zero in
    let read : row ≡ get_or c.self.inside.rows.items (c.args.link - 1) row = ap (λ rows. get_or rows (c.args.link - 1) zero) value ∙ get_or_default c.self.inside.rows.items (c.args.link - 1) zero row (omega arith) in
    let node = rw parts at (c.self.invariant.nodes c.args.link row (omega arith) past read) in
    let tree = rw parts at (c.self.invariant.trees c.args.link) in
    let size : length c.self.inside.rows.items < 2 ^ 56 = omega (arith, c.as_slice-rows.type_inv, ap length value) in
    record { height = node.height; tree = tree; low = omega (arith, node.height, tree.low); small = omega (arith, node.height, tree.low) }
