use Rattle.std.proofs.Common.{rules, ◌≡◌, ◌==◌, ◌∷◌, [], false, not, ap, sym, ◌∙◌}
use Rattle.rf_values.specs.Truth.{must}
use Rattle.rf_problem.specs.declared.predicate.Term.TheVariants.{Var}
use Rattle.rf_rules.proofs.PredicateLemmas.{HasReference-literal_at}
use Rattle.rf_prop_broken.proofs.forced.Target.fails.Goals as goal

pub is_known-requires : goal.is_known-requires
is_known-requires g c =
    let p = g.V.Facts.problem c.args.self.now.view.now in
    let edge = c.in-Some.edge in
    HasReference-literal_at p c.args.self.now.predicate c.args.self.now.clause c.args.self.now.is_there.predicate c.args.self.now.is_there.clause c.args.i c.requires.literal
    edge.negated false edge.reference (Var edge.from ∷ Var edge.to ∷ []) (sym c.literal_at.ensures ∙ c.in-Some.ensures)

pub returns-clause-fails : goal.returns-clause-fails
returns-clause-fails g c =
    let apart : (c.args.i == c.args.self.now.literal) ≡ false = search rules in
    let known = rw c.requires.view at c.in_ok-value.ensures.value in
    λ h. rw apart (sym (ap not (c.must.ensures ∙ ap must known)) ∙ h)
