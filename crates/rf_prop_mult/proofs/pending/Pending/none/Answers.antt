use Rattle.std.proofs.Common.{◌∙◌, None, length}
use Rattle.std.specs.Option.{option_or}
use Rattle.rf_pending.specs.Rows.{least_of_edges}
use Rattle.rf_pending.proofs.CoverLemmas.{covers-no_edges}
use Rattle.rf_pending.proofs.RowLemmas.{none-of_both}
use Rattle.rf_prop_mult.specs.Kinds.{first_in_row}
use Rattle.rf_prop_mult.specs.declared.kinds.Kind.TheVariants.{Full, Need, NeedCount, Room, TypeLow}
use Rattle.rf_prop_mult.proofs.FirstLemmas.{first-from_least}
use Rattle.rf_prop_mult.proofs.pending.Pending.none.Goals as goal

pub returns : goal.returns
returns g c =
    let p = g.F.Facts.problem c.args.view.now in
    let s = g.F.Facts.state c.args.view.now in
    let edges = c.edge_rows-edges.ensures in
    let o9 = least_of_edges p s (first_in_row p s TypeLow) in
    let o8 = option_or (least_of_edges p s (first_in_row p s NeedCount)) o9 in
    let o7 = option_or (least_of_edges p s (first_in_row p s Need)) o8 in
    let o6 = option_or (least_of_edges p s (first_in_row p s Room)) o7 in
    let all = none-of_both (least_of_edges p s (first_in_row p s Full)) o6 (first-from_least p s None c.requires) in
    let from6 = none-of_both (least_of_edges p s (first_in_row p s Room)) o7 all.1 in
    let from7 = none-of_both (least_of_edges p s (first_in_row p s Need)) o8 from6.1 in
    let from8 = none-of_both (least_of_edges p s (first_in_row p s NeedCount)) o9 from7.1 in
    let covered = covers-no_edges (length p.references) (length s.objects) in
    record {
      full = covered (first_in_row p s Full) c.in_ok-none.field-0 (c.in_ok-none.ensures.size ∙ edges) all.0;
      room = covered (first_in_row p s Room) c.in_ok-none-2.field-0 (c.in_ok-none-2.ensures.size ∙ edges) from6.0;
      need = covered (first_in_row p s Need) c.in_ok-none-3.field-0 (c.in_ok-none-3.ensures.size ∙ edges) from7.0;
      need_count = covered (first_in_row p s NeedCount) c.in_ok-none-4.field-0 (c.in_ok-none-4.ensures.size ∙ edges) from8.0;
      type_low = covered (first_in_row p s TypeLow) c.in_ok-none-5.field-0 (c.in_ok-none-5.ensures.size ∙ edges) from8.1;
    }
