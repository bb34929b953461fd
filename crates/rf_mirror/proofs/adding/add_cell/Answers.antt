use Rattle.std.proofs.Common.{◌≡◌, ◌∙◌, ap, length, sym, arith}
use Rattle.rf_trail.specs.Trail.{items}
use Rattle.rf_mirror.specs.Cells.{cell}
use Rattle.rf_mirror.proofs.ToldLemmas.{pushed-or-not}
use Rattle.rf_mirror.proofs.adding.add_cell.Goals as goal

pub returns-in-Some-told-clause-told : goal.returns-in-Some-told-clause-told
returns-in-Some-told-clause-told c s source from to h =
    let k : cell (length c.args.problem.now.references) c.args.r c.args.a c.args.b ≡ c.in-Some.k =
    ap (λ n. cell n c.args.r c.args.a c.args.b) (sym c.len-references.ensures) ∙ sym c.in-Some.ensures in
    let len = c.len.ensures in
    let same = c.if-k-len.false in
    let at : cell (length c.args.problem.now.references) c.args.r c.args.a c.args.b ≡ length (items c.args.cells.now) = k ∙ omega (arith, same, len) in
    pushed-or-not c.args.problem.now s (items c.args.cells.now) (items c.push.new.self) c.args.r c.args.a c.args.b c.in-Some-told.told c.push.result
    c.requires from to
    at (c.in-Some-told.ensures s source h from to) h c.push.ensures.pushed c.push.ensures.unchanged
