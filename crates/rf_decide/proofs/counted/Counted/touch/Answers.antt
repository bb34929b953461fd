use Rattle.std.proofs.Common.{sym, ◌∙◌}
use Rattle.rf_decide.proofs.SizeLemmas.{edges-after, kinds-after}
use Rattle.rf_decide.proofs.counted.Counted.touch.Goals as goal

pub returns-else-is_fresh : goal.returns-else-is_fresh
returns-else-is_fresh g c = λ s is counted.
    let p = g.F.Facts.problem c.args.view.now in
    let t = g.F.Facts.state c.args.view.now in
    let old = sym c.is_fresh.ensures ∙ c.if-is_fresh.false in
    record {
      kinds = kinds-after p s t c.args.change is c.requires old c.args.self.now.kinds c.touch_objects.new.marks
          counted.kinds c.touch_objects.ensures;
      edges = edges-after p s t c.args.change is c.requires old c.args.self.now.edges c.touch_edges.new.marks
          counted.edges c.touch_edges.ensures;
    }
