use Rattle.std.proofs.Common.{ap, sym, ◌∙◌, arith, length}
use Rattle.rf_finite.proofs.Range.{first_below-at, first_below-none}
use Rattle.rf_problem.specs.declared.predicate.Clause.{Clause as ClauseOf}
use Rattle.rf_problem.specs.declared.problem.Problem.{Problem as ProblemOf}
use Rattle.rf_rules.specs.Predicates.{clause_at}
use Rattle.rf_prop_broken.specs.Pending.{first_at_literal}
use Rattle.rf_prop_broken.proofs.kinds.first_in_clause.Goals as goal

pub returns-in-Some : goal.returns-in-Some
returns-in-Some g c =
    let p = g.V.Facts.problem c.args.view.now in
    let s = g.V.Facts.state c.args.view.now in
    let found = first_at_literal p s c.args.q c.args.k in
    let many = c.len-j-end.ensures ∙ ap (λ (d : ClauseOf). length d.literals) (c.clause_of.ensures ∙ ap (λ (x : ProblemOf). clause_at x c.args.q c.args.k) c.problem.ensures) in
    sym (first_below-at (length (clause_at p c.args.q c.args.k).literals) found c.loop-j.j c.in-Some.rule (omega (arith, c.loop-j-test.true, many))
    (first_below-none c.loop-j.j found c.loop-j.invariant) (sym c.in_ok-rule.ensures ∙ c.in-Some.is))

pub returns : goal.returns
returns g c =
    let p = g.V.Facts.problem c.args.view.now in
    let s = g.V.Facts.state c.args.view.now in
    let many = c.len-j-end.ensures ∙ ap (λ (d : ClauseOf). length d.literals) (c.clause_of.ensures ∙ ap (λ (x : ProblemOf). clause_at x c.args.q c.args.k) c.problem.ensures) in
    sym (first_below-none (length (clause_at p c.args.q c.args.k).literals) (first_at_literal p s c.args.q c.args.k)
    (λ i l. c.loop-j.invariant i (omega (arith, c.loop-j-test.false, many))))
