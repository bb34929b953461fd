use Rattle.std.proofs.Common.{◌∙◌, sym, ap}
use Rattle.rf_problem.specs.Contained.{is_containing}
use Rattle.rf_rules.proofs.ContainmentLemmas.{must_contain-none}
use Rattle.rf_rules.proofs.containment.contained.must_contain_row.Goals as goal

pub returns-then-not-is_containing : goal.returns-then-not-is_containing
returns-then-not-is_containing g c =
    sym (must_contain-none (g.F.Facts.problem c.args.view.now) (g.F.Facts.state c.args.view.now) c.args.r c.args.a
    (sym (c.is_containing.ensures ∙ ap (λ p. is_containing p c.args.r) c.problem.ensures) ∙ c.if-not-is_containing.true))
