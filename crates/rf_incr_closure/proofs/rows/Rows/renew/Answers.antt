use Rattle.std.proofs.Common.{◌≡◌, ◌∙◌, ◌&&◌, nat_lt, ap, sym, length, arith}
use Rattle.std.proofs.lemmas.Result.{on_ok_weaker}
use Rattle.rf_finite.specs.Walks.{walk_below}
use Rattle.rf_incr_closure.specs.Writes.{mark_at}
use Rattle.rf_incr_closure.proofs.RowLemmas.{marks-below, row-walks, written-from_marks, written-row}
use Rattle.rf_incr_closure.proofs.rows.Rows.renew.Goals as goal

pub returns-clause-words : goal.returns-clause-words
returns-clause-words g c =
    let n = g.E.Edges.size c.args.e.now in
    let row = walk_below (g.E.Edges.edge c.args.e.now) (g.E.Edges.through c.args.e.now) (g.E.Edges.size c.args.e.now) c.args.from in
    let size : length c.deref.result.now ≡ g.E.Edges.size c.args.e.now = omega (arith, c.deref.ensures.len, c.in_ok-marks.ensures.len) in
    let same = marks-below c.deref.result.now n row size (λ b l. ap (λ ms. mark_at ms b) c.deref.ensures.value ∙ c.in_ok-marks.ensures.value b l) in
    on_ok_weaker c.write_row.result
    (written-from_marks c.write_row.new.store.current c.args.tag n (length c.deref.result.now) c.args.from (mark_at c.deref.result.now) (λ b. nat_lt b n && row b) size same)
    c.write_row.ensures.words

pub returns-clause-unchanged : goal.returns-clause-unchanged
returns-clause-unchanged g c whole =
    let n = g.E.Edges.size c.args.e.now in
    let row = walk_below (g.E.Edges.edge c.args.e.now) (g.E.Edges.through c.args.e.now) (g.E.Edges.size c.args.e.now) c.args.from in
    let size : length c.deref.result.now ≡ g.E.Edges.size c.args.e.now = omega (arith, c.deref.ensures.len, c.in_ok-marks.ensures.len) in
    let same = marks-below c.deref.result.now n row size (λ b l. ap (λ ms. mark_at ms b) c.deref.ensures.value ∙ c.in_ok-marks.ensures.value b l) in
    c.write_row.ensures.unchanged
    (written-from_marks c.args.store.now.current c.args.tag (length c.deref.result.now) n c.args.from (λ b. nat_lt b n && row b) (mark_at c.deref.result.now) (sym size) (sym same) whole)

pub returns-clause-row : goal.returns-clause-row
returns-clause-row g c =
    on_ok_weaker c.write_row.result
    (written-row c.write_row.new.store.current c.args.tag (g.E.Edges.size c.args.e.now) c.args.from
    (walk_below (g.E.Edges.edge c.args.e.now) (g.E.Edges.through c.args.e.now) (g.E.Edges.size c.args.e.now) c.args.from))
    (returns-clause-words g c)

pub returns-clause-walks : goal.returns-clause-walks
returns-clause-walks g c =
    on_ok_weaker c.write_row.result
    (row-walks c.write_row.new.store.current c.args.tag (g.E.Edges.edge c.args.e.now) (g.E.Edges.through c.args.e.now) (g.E.Edges.size c.args.e.now) c.args.from)
    (returns-clause-row g c)
