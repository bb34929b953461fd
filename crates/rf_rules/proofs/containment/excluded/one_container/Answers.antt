use Rattle.std.proofs.Common.{◌∙◌, sym, refl, ap}
use Rattle.rf_problem.specs.Contained.{is_containing}
use Rattle.rf_rules.proofs.ContainmentLemmas.{one_container-ready}
use Rattle.rf_rules.proofs.containment.excluded.one_container.Goals as goal

pub returns-then-is_containing : goal.returns-then-is_containing
returns-then-is_containing g c =
    let contains = sym (c.is_containing.ensures ∙ ap (λ p. is_containing p c.args.q) c.problem.ensures) ∙ c.if-is_containing.true in
    let ready = one_container-ready (g.F.Facts.problem c.args.view.now) (g.F.Facts.state c.args.view.now) c.args.r c.args.a c.args.b c.args.q c.args.c in
    c.is_excluding.ensures ∙ sym (ready ∙ rw contains refl)

pub returns-else-is_containing : goal.returns-else-is_containing
returns-else-is_containing g c =
    let contains = sym (c.is_containing.ensures ∙ ap (λ p. is_containing p c.args.q) c.problem.ensures) ∙ c.if-is_containing.false in
    let ready = one_container-ready (g.F.Facts.problem c.args.view.now) (g.F.Facts.state c.args.view.now) c.args.r c.args.a c.args.b c.args.q c.args.c in
    c.if-is_containing.false ∙ sym (ready ∙ rw contains refl)
