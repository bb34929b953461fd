use Rattle.std.proofs.Common.{rules, ◌≡◌, ◌⊎◌, ◌∷◌, [], false, inl, inr, sym, ◌∙◌}
use Rattle.rf_problem.specs.declared.predicate.Term.TheVariants.{Var}
use Rattle.rf_rules.proofs.PredicateLemmas.{HasReference-literal_at}
use Rattle.rf_prop_broken.specs.Looking.{IsNext, Leads}
use Rattle.rf_prop_broken.proofs.LookingLemmas.{IfSome-weaker, next-along}
use Rattle.rf_prop_broken.proofs.forced.Target.along.Goals.{else-edge-via-then-edge+else-i-self, else-edge-via-else-edge}
use Rattle.rf_prop_broken.proofs.forced.Target.along.Goals as goal

pub next-requires : goal.next-requires
next-requires g c =
    let p = g.V.Facts.problem c.args.self.now.view.now in
    let edge = c.in_ok-edge.edge in
    HasReference-literal_at p c.args.self.now.predicate c.args.self.now.clause c.args.self.now.is_there.predicate c.args.self.now.is_there.clause c.args.i c.requires
    edge.negated false edge.reference (Var edge.from ∷ Var edge.to ∷ []) (sym c.literal_at.ensures ∙ c.in_ok-edge.ensures)

pub returns : goal.returns
returns g c =
    let p = g.V.Facts.problem c.args.self.now.view.now in
    let s = g.V.Facts.state c.args.self.now.view.now in
    let edge = c.in_ok-edge.edge in
    let may_be : (edge.negated ≡ false) ⊎ (c.args.i ≡ c.args.self.now.literal) = elim c.else-edge.branch [
      | else-edge-via-then-edge+else-i-self w ↦ (let same : c.args.i ≡ c.args.self.now.literal = search rules in inr same)
      | else-edge-via-else-edge w ↦ inl w.if-edge.false
    ] in
    IfSome-weaker c.next.result (λ next. Leads p s edge c.args.choice.now next.variable next.elements)
    (λ next. IsNext p s c.args.self.now.predicate c.args.self.now.clause c.args.self.now.literal c.args.choice.now next.variable next.elements)
    (λ next leads. next-along p s c.args.self.now.predicate c.args.self.now.clause c.args.self.now.literal edge c.args.choice.now next.variable next.elements c.args.i c.requires
    (sym c.literal_at.ensures ∙ c.in_ok-edge.ensures) may_be leads) c.next.ensures
