use Rattle.std.proofs.Common.{◌∙◌, ap}
use Rattle.rf_trail.specs.Trail.{items}
use Rattle.rf_mirror.specs.Cells.{cell}
use Rattle.rf_mirror.proofs.ToldLemmas.{merged-cells}
use Rattle.rf_mirror.proofs.reading.merge_at.Goals as goal

pub returns-in-Some-clause-told : goal.returns-in-Some-clause-told
returns-in-Some-clause-told c s h from to =
    let p = c.args.problem.now in
    let at = c.in-Some.ensures ∙ ap (λ n. cell n c.args.r c.args.a c.args.b) c.len-references.ensures in
    let merged = rw at at c.put_merged.ensures.merged in
    merged-cells p s c.args.r c.args.a c.args.b c.args.v (items c.args.cells.now) (items c.put_merged.new.cells) c.requires c.put_merged.ensures.few merged h
