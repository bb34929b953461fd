use Rattle.std.proofs.Common.{◌≡◌, ◌∙◌, ℕ, ◌*◌, None, length, Option}
use Rattle.std.specs.Option.{option_or}
use Rattle.rf_rules.specs.declared.rule.Rule.{Rule}
use Rattle.rf_rules.specs.declared.rule.Rule.TheVariants as rule
use Rattle.rf_pending.specs.Rows.{firing, least_of_edges, least_of_objects, least_of_row}
use Rattle.rf_pending.proofs.CoverLemmas.{covers-no_edges, covers-none}
use Rattle.rf_pending.proofs.RowLemmas.{none-of_both}
use Rattle.rf_prop_type.specs.Kinds.{first_in_row, first_of_all, object_rule}
use Rattle.rf_prop_type.specs.Pending.{first_clash}
use Rattle.rf_prop_type.specs.declared.kinds.EdgeKind.TheVariants.{Clash, Src, Tgt}
use Rattle.rf_prop_type.specs.declared.kinds.ObjectKind.TheVariants.{Empty, NoClass}
use Rattle.rf_prop_type.proofs.FirstLemmas.{first-from_least}
use Rattle.rf_prop_type.proofs.pending.Pending.none.Goals as goal

pub returns : goal.returns
returns g c =
    let p = g.F.Facts.problem c.args.view.now in
    let s = g.F.Facts.state c.args.view.now in
    let edges = c.edge_rows-edges.ensures in
    let objects = c.objects-objects.ensures in
    let o4 = least_of_edges p s (first_in_row p s Clash) in
    let o3 = option_or (least_of_edges p s (first_in_row p s Tgt)) o4 in
    let o2 = option_or (least_of_edges p s (first_in_row p s Src)) o3 in
    let o1 = option_or (least_of_objects p s (object_rule NoClass)) o2 in
    let all = none-of_both (least_of_objects p s (object_rule Empty)) o1 (first-from_least p s None c.requires) in
    let from1 = none-of_both (least_of_objects p s (object_rule NoClass)) o2 all.1 in
    let from2 = none-of_both (least_of_edges p s (first_in_row p s Src)) o3 from1.1 in
    let from3 = none-of_both (least_of_edges p s (first_in_row p s Tgt)) o4 from2.1 in
    record {
      empty = covers-none (length s.objects) (λ o. firing p s (rule.Empty o)) c.in_ok-none.field-0 (c.in_ok-none.ensures.size ∙ objects) all.0;
      no_class = covers-none (length s.objects) (λ o. firing p s (rule.NoClass o)) c.in_ok-none-2.field-0 (c.in_ok-none-2.ensures.size ∙ objects) from1.0;
      src = covers-no_edges (length p.references) (length s.objects) (λ r a. least_of_row p s (rule.Src r a)) c.in_ok-none-3.field-0 (c.in_ok-none-3.ensures.size ∙ edges) from2.0;
      tgt = covers-no_edges (length p.references) (length s.objects) (λ r a. least_of_row p s (rule.Tgt r a)) c.in_ok-none-4.field-0 (c.in_ok-none-4.ensures.size ∙ edges) from3.0;
      clash = covers-no_edges (length p.references) (length s.objects) (first_clash p s) c.in_ok-none-5.field-0 (c.in_ok-none-5.ensures.size ∙ edges) from3.1;
    }
