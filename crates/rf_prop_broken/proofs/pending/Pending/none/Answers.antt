use Rattle.std.proofs.Common.{◌∙◌, None, ap, length}
use Rattle.rf_problem.specs.declared.problem.Problem.{Problem}
use Rattle.rf_pending.proofs.CoverLemmas.{covers-none}
use Rattle.rf_pending.proofs.RowLemmas.{none-of_both}
use Rattle.rf_prop_broken.specs.Kinds.{least_of_predicates}
use Rattle.rf_prop_broken.specs.Pending.{first_broken, first_forced}
use Rattle.rf_prop_broken.specs.declared.kinds.Kind.TheVariants.{Broken, Forced}
use Rattle.rf_prop_broken.proofs.FirstLemmas.{first-from_least}
use Rattle.rf_prop_broken.proofs.pending.Pending.none.Goals as goal

pub returns : goal.returns
returns g c =
    let p = g.F.Facts.problem c.args.view.now in
    let s = g.F.Facts.state c.args.view.now in
    let many = c.len-predicates.ensures ∙ ap (λ (x : Problem). length x.predicates) c.problem.ensures in
    let all = none-of_both (least_of_predicates p s Broken) (least_of_predicates p s Forced) (first-from_least p s None c.requires) in
    record {
      broken = covers-none (length p.predicates) (first_broken p s) c.in_ok-none.field-0 (c.in_ok-none.ensures.size ∙ many) all.0;
      forced = covers-none (length p.predicates) (first_forced p s) c.in_ok-none-2.field-0 (c.in_ok-none-2.ensures.size ∙ many) all.1;
    }
