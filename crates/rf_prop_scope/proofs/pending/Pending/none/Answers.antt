use Rattle.std.proofs.Common.{◌∙◌, None, ap, length}
use Rattle.std.specs.Option.{option_or}
use Rattle.rf_problem.specs.declared.problem.Problem.{Problem}
use Rattle.rf_pending.proofs.CoverLemmas.{covers-none}
use Rattle.rf_pending.proofs.RowLemmas.{none-of_both}
use Rattle.rf_prop_scope.specs.Kinds.{first_of_scope, least_of_scopes}
use Rattle.rf_prop_scope.specs.declared.kinds.Kind.TheVariants.{Bottom, In, Out, Top, Under}
use Rattle.rf_prop_scope.proofs.FirstLemmas.{first-from_least}
use Rattle.rf_prop_scope.proofs.pending.Pending.none.Goals as goal

pub returns : goal.returns
returns g c =
    let p = g.F.Facts.problem c.args.view.now in
    let s = g.F.Facts.state c.args.view.now in
    let many = c.len-scopes.ensures ∙ ap (λ (x : Problem). length x.scopes) c.problem.ensures in
    let o20 = least_of_scopes p s In in
    let o19 = option_or (least_of_scopes p s Out) o20 in
    let o18 = option_or (least_of_scopes p s Bottom) o19 in
    let o17 = option_or (least_of_scopes p s Top) o18 in
    let all = none-of_both (least_of_scopes p s Under) o17 (first-from_least p s None c.requires) in
    let from17 = none-of_both (least_of_scopes p s Top) o18 all.1 in
    let from18 = none-of_both (least_of_scopes p s Bottom) o19 from17.1 in
    let from19 = none-of_both (least_of_scopes p s Out) o20 from18.1 in
    record {
      under = covers-none (length p.scopes) (first_of_scope p s Under) c.in_ok-none.field-0 (c.in_ok-none.ensures.size ∙ many) all.0;
      top = covers-none (length p.scopes) (first_of_scope p s Top) c.in_ok-none-2.field-0 (c.in_ok-none-2.ensures.size ∙ many) from17.0;
      bottom = covers-none (length p.scopes) (first_of_scope p s Bottom) c.in_ok-none-3.field-0 (c.in_ok-none-3.ensures.size ∙ many) from18.0;
      outside = covers-none (length p.scopes) (first_of_scope p s Out) c.in_ok-none-4.field-0 (c.in_ok-none-4.ensures.size ∙ many) from19.0;
      inside = covers-none (length p.scopes) (first_of_scope p s In) c.in_ok-none-5.field-0 (c.in_ok-none-5.ensures.size ∙ many) from19.1;
    }
