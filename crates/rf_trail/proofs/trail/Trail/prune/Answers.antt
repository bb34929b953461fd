use Rattle.std.proofs.Common.{◌≡◌, ◌<◌, ◌∙◌, ap, arith, drop, length, map, refl, sym, take}
use Rattle.std.proofs.lemmas.List.{get_or_read, length-map, length-take-le}
use Rattle.rf_trail.specs.Marks.{AreMarks, mark_at, no_mark}
use Rattle.rf_trail.specs.Trail.{list_at, undone}
use Rattle.rf_trail.proofs.Undoing.{kept-back, kept-there, marks-back, undone-length}
use Rattle.rf_trail.proofs.trail.Trail.prune.Goals as goal

pub invariant_of-self : goal.invariant_of-self
invariant_of-self g c =
    let t = c.args.self.now in
    let ms = t.marks.items in
    let v = c.args.v in
    let f = list_at t.changes.items t.items.items in
    let there : v < length ms = (let many = length-map ms f in let r = c.requires in omega (arith, many, r)) in
    let m = c.index-mark.result.now in
    let is = get_or_read ms v m there c.index-mark.ensures no_mark in
    let within = t.marked.within v there in
    let few = within.few in
    let short = within.short in
    let changes : length c.undo.new.changes.items ≡ m.changes =
    ap length c.undo.ensures.changes ∙ length-take-le m.changes t.changes.items (rw is few) in
    let same : length c.undo.new.items.items ≡ length t.items.items = ap length c.undo.ensures.items ∙ undone-length (drop m.changes t.changes.items) t.items.items in
    let items : length c.truncate.new.self.items ≡ m.length =
    ap length c.truncate.ensures.items ∙ length-take-le m.length c.undo.new.items.items (rw (same, is) short) in
    record { marked = rw (changes, items, c.truncate-2.ensures.items, is) (marks-back (length t.changes.items) (length t.items.items) ms v t.marked there) }

pub returns-clause-items : goal.returns-clause-items
returns-clause-items g c =
    let t = c.args.self.now in
    let ms = t.marks.items in
    let v = c.args.v in
    let f = list_at t.changes.items t.items.items in
    let there : v < length ms = (let many = length-map ms f in let r = c.requires in omega (arith, many, r)) in
    let is = get_or_read ms v c.index-mark.result.now there c.index-mark.ensures no_mark in
    kept-there f ms v c.truncate.new.self.items there (rw (c.truncate.ensures.items, c.undo.ensures.items, is) refl)

pub returns-clause-kept : goal.returns-clause-kept
returns-clause-kept g c =
    let t = c.args.self.now in
    let ms = t.marks.items in
    let v = c.args.v in
    let f = list_at t.changes.items t.items.items in
    let there : v < length ms = (let many = length-map ms f in let r = c.requires in omega (arith, many, r)) in
    let is = get_or_read ms v c.index-mark.result.now there c.index-mark.ensures no_mark in
    rw (c.truncate-2.ensures.items, c.truncate.ensures.items, c.undo.ensures.changes, c.undo.ensures.items, is)
    (kept-back t.changes.items t.items.items ms v t.marked there)
