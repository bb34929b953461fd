use Rattle.std.proofs.Common.{◌*◌, ℕ, length, ap, ap₂, ◌∙◌, subst}
use Rattle.rf_decide.specs.Choice.{kinds_of}
use Rattle.rf_decide.specs.Counted.{AreSizes, edge_row}
use Rattle.rf_decide.specs.declared.limit.TheConstants.{MOST_OBJECTS}
use Rattle.rf_decide.proofs.counted.Counted.none.Goals as goal

pub returns : goal.returns
returns g c =
    let p = g.F.Facts.problem c.args.view.now in
    let s = g.F.Facts.state c.args.view.now in
    record {
      kinds = subst (λ (n : ℕ). AreSizes n 256 (kinds_of p s) c.in_ok-none.field-0)
          c.objects-objects.ensures (c.in_ok-none.ensures 256 (kinds_of p s));
      edges = subst (λ (n : ℕ). AreSizes n MOST_OBJECTS (edge_row p s) c.in_ok-none-2.field-0)
          (ap₂ (λ (m n : ℕ). m * n) (c.len-references.ensures ∙ ap (λ q. length q.references) c.problem.ensures) c.objects-objects.ensures)
          (c.in_ok-none-2.ensures MOST_OBJECTS (edge_row p s));
    }
