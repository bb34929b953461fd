use Rattle.std.proofs.Common.{◌≡◌, ◌∙◌, List, ap, arith, map, set}
use Rattle.std.proofs.lemmas.List.{get_or_read}
use Rattle.rf_trail.specs.Trail.{list_at}
use Rattle.rf_trail.specs.declared.trail.Change.{Change}
use Rattle.rf_trail.proofs.Undoing.{kept-set, set-back}
use Rattle.rf_trail.proofs.trail.Trail.set.Goals as goal

pub returns-in_ok-push-clause-kept : goal.returns-in_ok-push-clause-kept
returns-in_ok-push-clause-kept g c =
    let t = c.args.self.now in
    let xs = t.items.items in
    let k = c.args.place in
    let before = c.index-before.result.now in
    let is = get_or_read xs k before (omega (arith, c.if-place-len.true, c.len.ensures)) c.index-before.ensures before in
    let back = ap (set (set xs k c.args.item) k) is ∙ set-back xs k c.args.item before (omega (arith, c.if-place-len.true, c.len.ensures)) in
    ap (λ ds. map (list_at ds (set xs k c.args.item)) t.marks.items) c.in_ok-push.ensures.items
    ∙ kept-set t.changes.items xs (record { place = k; before = before }) c.args.item t.marks.items t.marked back
