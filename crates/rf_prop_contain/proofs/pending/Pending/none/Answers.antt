use Rattle.std.proofs.Common.{◌∙◌, None, length}
use Rattle.std.specs.Option.{option_or}
use Rattle.rf_rules.specs.declared.rule.Rule.TheVariants as rule
use Rattle.rf_pending.specs.Rows.{firing, least_of_edges, least_of_objects, least_of_row}
use Rattle.rf_pending.proofs.CoverLemmas.{covers-no_edges, covers-none}
use Rattle.rf_pending.proofs.RowLemmas.{none-of_both}
use Rattle.rf_prop_contain.specs.Kinds.{first_in_row}
use Rattle.rf_prop_contain.specs.Pending.{first_excluded}
use Rattle.rf_prop_contain.specs.declared.kinds.EdgeKind.TheVariants.{Acyclic, Alone, ContainCount, MustContain, OneContainer}
use Rattle.rf_prop_contain.proofs.FirstLemmas.{first-from_least}
use Rattle.rf_prop_contain.proofs.pending.Pending.none.Goals as goal

pub returns : goal.returns
returns g c =
    let p = g.F.Facts.problem c.args.view.now in
    let s = g.F.Facts.state c.args.view.now in
    let edges = c.edge_rows-edges.ensures in
    let o15 = least_of_edges p s (first_in_row p s Acyclic) in
    let o14 = option_or (least_of_objects p s rule.NoContainer) o15 in
    let o13 = option_or (least_of_edges p s (first_in_row p s ContainCount)) o14 in
    let o12 = option_or (least_of_edges p s (first_in_row p s MustContain)) o13 in
    let o11 = option_or (least_of_edges p s (first_in_row p s Alone)) o12 in
    let all = none-of_both (least_of_edges p s (first_in_row p s OneContainer)) o11 (first-from_least p s None c.requires) in
    let from11 = none-of_both (least_of_edges p s (first_in_row p s Alone)) o12 all.1 in
    let from12 = none-of_both (least_of_edges p s (first_in_row p s MustContain)) o13 from11.1 in
    let from13 = none-of_both (least_of_edges p s (first_in_row p s ContainCount)) o14 from12.1 in
    let from14 = none-of_both (least_of_objects p s rule.NoContainer) o15 from13.1 in
    record {
      one_container = covers-no_edges (length p.references) (length s.objects) (first_excluded p s) c.in_ok-none.field-0
          (c.in_ok-none.ensures.size ∙ edges) all.0;
      alone = covers-no_edges (length p.references) (length s.objects) (λ r a. least_of_row p s (rule.Alone r a)) c.in_ok-none-2.field-0
          (c.in_ok-none-2.ensures.size ∙ edges) from11.0;
      must_contain = covers-no_edges (length p.references) (length s.objects)
          (λ r a. least_of_row p s (rule.MustContain r a)) c.in_ok-none-3.field-0 (c.in_ok-none-3.ensures.size ∙ edges) from12.0;
      contain_count = covers-no_edges (length p.references) (length s.objects)
          (λ r a. least_of_row p s (rule.ContainCount r a)) c.in_ok-none-4.field-0 (c.in_ok-none-4.ensures.size ∙ edges) from13.0;
      no_container = covers-none (length s.objects) (λ b. firing p s (rule.NoContainer b)) c.in_ok-none-5.field-0
          (c.in_ok-none-5.ensures.size ∙ c.objects.ensures) from14.0;
      acyclic = covers-no_edges (length p.references) (length s.objects)
          (λ r a. least_of_row p s (rule.Acyclic r a)) c.in_ok-none-6.field-0 (c.in_ok-none-6.ensures.size ∙ edges) from14.1;
    }
