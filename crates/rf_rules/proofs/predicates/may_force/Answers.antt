use Rattle.std.proofs.Common.{◌≡◌, ◌<◌, arith, length, ap, sym, subst, ◌∙◌}
use Rattle.std.proofs.lemmas.List.{length-take-le}
use Rattle.std.proofs.lemmas.List.Elements.{All-take}
use Rattle.rf_problem.specs.Parts.{predicate_at}
use Rattle.rf_problem.specs.declared.predicate.Clause.{Clause as ClauseOf}
use Rattle.rf_problem.specs.declared.predicate.Predicate.{Predicate as PredicateOf}
use Rattle.rf_problem.specs.declared.problem.Problem.{Problem as ProblemOf}
use Rattle.rf_rules.specs.Forcing.{HasReference}
use Rattle.rf_rules.specs.Predicates.{clause_at, literal_at}
use Rattle.rf_rules.proofs.PredicateLemmas.{HasReference-literal_at, parameters-given}
use Rattle.rf_rules.proofs.predicates.may_force.Goals as goal

pub slice_bounds-parameters-end : goal.slice_bounds-parameters-end
slice_bounds-parameters-end g c =
    let p = g.F.Facts.problem c.args.view.now in
    let arity : c.predicate.result.now.arity ≡ (predicate_at p.predicates c.args.q).arity =
    ap (λ (d : PredicateOf). d.arity) (c.predicate.ensures ∙ ap (λ (x : ProblemOf). predicate_at x.predicates c.args.q) c.problem-problem.ensures) in
    let few = parameters-given p c.args.q c.args.k c.requires.predicate c.requires.clause in
    sym (length-take-le c.predicate.result.now.arity c.args.objects.now (omega (arith, arity, few, c.requires.many)))

pub asserted_at-requires-clause-objects : goal.asserted_at-requires-clause-objects
asserted_at-requires-clause-objects g c =
    All-take (λ o. o < length (g.F.Facts.state c.args.view.now).objects) c.predicate.result.now.arity c.args.objects.now c.requires.objects

pub asserted_at-requires-clause-arity : goal.asserted_at-requires-clause-arity
asserted_at-requires-clause-arity g c =
    sym (slice_bounds-parameters-end g c) ∙ ap (λ (d : PredicateOf). d.arity) (c.predicate.ensures ∙ ap (λ (x : ProblemOf). predicate_at x.predicates c.args.q) c.problem-problem.ensures)

pub is_open-requires : goal.is_open-requires
is_open-requires g c =
    let p = g.F.Facts.problem c.args.view.now in
    let literal : c.literal_of.result.now ≡ literal_at (clause_at p c.args.q c.args.k) c.args.j =
    c.literal_of.ensures ∙ ap (λ (d : ClauseOf). literal_at d c.args.j) (c.clause_of-clause.ensures ∙ ap (λ (x : ProblemOf). clause_at x c.args.q c.args.k) c.problem-problem.ensures) in
    subst (HasReference p) (sym literal) (HasReference-literal_at p c.args.q c.args.k c.requires.predicate c.requires.clause c.args.j c.requires.literal)
