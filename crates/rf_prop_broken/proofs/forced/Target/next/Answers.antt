use Rattle.std.proofs.Common.{ℕ, sym, subst}
use Rattle.rf_evaluate.specs.declared.elements.Elements.TheVariants.{Below}
use Rattle.rf_prop_broken.specs.Looking.{IsNext}
use Rattle.rf_prop_broken.proofs.LookingLemmas.{next-any}
use Rattle.rf_prop_broken.proofs.forced.Target.next.Goals as goal

pub returns-clause-next : goal.returns-clause-next
returns-clause-next g c =
    let p = g.V.Facts.problem c.args.self.now.view.now in
    let s = g.V.Facts.state c.args.self.now.view.now in
    subst (λ (n : ℕ). IsNext p s c.args.self.now.predicate c.args.self.now.clause c.args.self.now.literal c.args.choice.now c.in_ok-variable.variable (Below n)) (sym c.objects.ensures)
    (next-any p s c.args.self.now.predicate c.args.self.now.clause c.args.self.now.literal c.args.choice.now c.in_ok-variable.variable
    c.in_ok-variable.ensures.few c.in_ok-variable.ensures.waiting c.requires)
