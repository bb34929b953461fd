use Rattle.std.proofs.Common.{◌∙◌, sym, refl, ap}
use Rattle.rf_problem.specs.Contained.{is_containing}
use Rattle.rf_rules.proofs.ContainmentLemmas.{least_other-none}
use Rattle.rf_rules.proofs.containment.excluded.ExcludedAtRuleTuple2U32U64.find.Goals as goal

pub returns-then-not-is_containing : goal.returns-then-not-is_containing
returns-then-not-is_containing g c =
    let row = c.args.self.now in
    let p = g.F.Facts.problem row.view.now in
    let none = least_other-none p (g.F.Facts.state row.view.now) row.reference row.from row.to c.args.number
    (sym (c.is_containing.ensures ∙ ap (λ x. is_containing x c.args.number) c.problem.ensures) ∙ c.if-not-is_containing.true) in
    rw none refl
