use Rattle.std.proofs.Common.{◌≡◌, ◌+◌, ◌-◌, length, is_ok, true, arith, ap, sym, ◌∙◌}
use Rattle.std.specs.Vec.{vec_len, vec_capacity}
use Rattle.rf_store.specs.Rows.{parts_of}
use Rattle.rf_store.proofs.Trees.{length-parts_of, parts_of-push, sound_push}
use Rattle.rf_store.proofs.table.Table.push.Goals as goal

pub overflow_add-height : goal.overflow_add-height
overflow_add-height c =
    let size : length c.args.self.now.parts ≡ length c.self.inside.rows.items + 1 = ap (λ t. length t.parts) (sym c.self.view_is) ∙ length-parts_of c.self.inside.rows.items in
    let room : vec_capacity c.self.inside.rows - vec_len c.self.inside.rows ≡ c.args.self.now.room = ap (λ t. t.room) c.self.view_is in
    omega arith

pub invariant_of-self : goal.invariant_of-self
invariant_of-self c =
    let rows = c.self.inside.rows.items in
    let parts : parts_of rows ≡ c.args.self.now.parts = ap (λ t. t.parts) c.self.view_is in
    let size : length c.args.self.now.parts ≡ length rows + 1 = ap length (sym parts) ∙ length-parts_of rows in
    let room : vec_capacity c.self.inside.rows - vec_len c.self.inside.rows ≡ c.args.self.now.room = ap (λ t. t.room) c.self.view_is in
    let ok : is_ok c.push.result ≡ true = c.push.ensures.succeeds (omega arith) in
    let items = rw ok at c.push.ensures.items in
    rw items (sound_push rows _ c.self.invariant (omega arith) (omega arith) (rw parts c.requires.sides.near) (rw parts (omega arith)) (rw parts c.requires.sides.in_order))

pub returns : goal.returns
returns c =
    let rows = c.self.inside.rows.items in
    let parts : parts_of rows ≡ c.args.self.now.parts = ap (λ t. t.parts) c.self.view_is in
    let size : length c.args.self.now.parts ≡ length rows + 1 = ap length (sym parts) ∙ length-parts_of rows in
    let room : vec_capacity c.self.inside.rows - vec_len c.self.inside.rows ≡ c.args.self.now.room = ap (λ t. t.room) c.self.view_is in
    let ok : is_ok c.push.result ≡ true = c.push.ensures.succeeds (omega arith) in
    let items = rw ok at c.push.ensures.items in
    record {
      parts = rw (items, ← parts) (parts_of-push rows _);
      place = omega arith;
      room = omega (arith, c.push.ensures.capacity, c.push.ensures.upper_bound);
    }
