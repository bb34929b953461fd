use Rattle.std.proofs.Common.{◌∙◌, sym, ap}
use Rattle.rf_problem.specs.Contained.{is_containing}
use Rattle.rf_rules.proofs.ContainmentLemmas.{acyclic-none}
use Rattle.rf_rules.proofs.containment.cycles.acyclic_row.Goals as goal

pub returns-then-not-is_containing : goal.returns-then-not-is_containing
returns-then-not-is_containing g c =
    sym (acyclic-none (g.F.Facts.problem c.args.view.now) (g.F.Facts.state c.args.view.now) c.args.r c.args.a
    (sym (c.is_containing.ensures ∙ ap (λ p. is_containing p c.args.r) c.problem.ensures) ∙ c.if-not-is_containing.true))
