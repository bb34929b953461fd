use Rattle.std.proofs.Common.{ap, sym, ◌∙◌, arith, length}
use Rattle.rf_finite.proofs.Range.{first_below-at, first_below-none}
use Rattle.rf_problem.specs.Parts.{predicate_at}
use Rattle.rf_problem.specs.declared.predicate.Predicate.{Predicate as PredicateOf}
use Rattle.rf_problem.specs.declared.problem.Problem.{Problem as ProblemOf}
use Rattle.rf_prop_broken.specs.Pending.{first_in_clause}
use Rattle.rf_prop_broken.proofs.kinds.first_forced.Goals as goal

pub returns-in-Some : goal.returns-in-Some
returns-in-Some g c =
    let p = g.V.Facts.problem c.args.view.now in
    let s = g.V.Facts.state c.args.view.now in
    let found = first_in_clause p s c.args.q in
    let many = c.len-k-end.ensures ∙ ap (λ (d : PredicateOf). length d.clauses) (c.predicate.ensures ∙ ap (λ (x : ProblemOf). predicate_at x.predicates c.args.q) c.problem.ensures) in
    sym (first_below-at (length (predicate_at p.predicates c.args.q).clauses) found c.loop-k.k c.in-Some.rule (omega (arith, c.loop-k-test.true, many))
    (first_below-none c.loop-k.k found c.loop-k.invariant) (sym c.in_ok-rule.ensures ∙ c.in-Some.is))

pub returns : goal.returns
returns g c =
    let p = g.V.Facts.problem c.args.view.now in
    let s = g.V.Facts.state c.args.view.now in
    let many = c.len-k-end.ensures ∙ ap (λ (d : PredicateOf). length d.clauses) (c.predicate.ensures ∙ ap (λ (x : ProblemOf). predicate_at x.predicates c.args.q) c.problem.ensures) in
    sym (first_below-none (length (predicate_at p.predicates c.args.q).clauses) (first_in_clause p s c.args.q)
    (λ i l. c.loop-k.invariant i (omega (arith, c.loop-k-test.false, many))))
