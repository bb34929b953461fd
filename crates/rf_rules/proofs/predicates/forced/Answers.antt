use Rattle.std.proofs.Common.{rules, ◌≡◌, ◌<◌, true, false, length, max, ap, ap₂, sym, subst, ◌∙◌}
use Rattle.std.proofs.lemmas.Result.{IfOk-weaker}
use Rattle.std.specs.Prelude.{slice_index}
use Rattle.rf_problem.specs.Reading.{Assignment}
use Rattle.rf_problem.specs.declared.predicate.Clause.{Clause as ClauseOf}
use Rattle.rf_problem.specs.declared.problem.Problem.{Problem as ProblemOf}
use Rattle.rf_rules.specs.Predicates.{clause_at, given}
use Rattle.rf_rules.proofs.PredicateLemmas.{forced-fires, forced-refused, given-below}
use Rattle.rf_rules.proofs.predicates.forced.Goals as goal

pub returns-then-not-may_force : goal.returns-then-not-may_force
returns-then-not-may_force g c =
    let p = g.V.Facts.problem c.args.view.now in
    let clause : c.clause_of-clause.result.now ≡ clause_at p c.args.q c.args.k = c.clause_of-clause.ensures ∙ ap (λ (x : ProblemOf). clause_at x c.args.q c.args.k) c.problem.ensures in
    let at_given : slice_index c.given-places.result ≡ given (clause_at p c.args.q c.args.k).variables c.args.objects =
    c.given-places.ensures ∙ ap₂ given (c.as_slice.ensures ∙ ap (λ (d : ClauseOf). d.variables) clause) c.as_slice-2.ensures.items in
    let refused : c.may_force.result ≡ false = search rules in
    forced-refused p (g.V.Facts.state c.args.view.now) c.args.q c.args.k c.args.j c.args.objects c.given-places.result c.may_force.result at_given
    (rw c.as_slice-3.ensures.items at c.may_force.ensures) refused

pub others_hold-requires-clause-objects : goal.others_hold-requires-clause-objects
others_hold-requires-clause-objects g c =
    let p = g.V.Facts.problem c.args.view.now in
    let n = length (g.V.Facts.state c.args.view.now).objects in
    let clause : c.clause_of-clause.result.now ≡ clause_at p c.args.q c.args.k = c.clause_of-clause.ensures ∙ ap (λ (x : ProblemOf). clause_at x c.args.q c.args.k) c.problem.ensures in
    let at_given : slice_index c.given-places.result ≡ given (clause_at p c.args.q c.args.k).variables c.args.objects =
    c.given-places.ensures ∙ ap₂ given (c.as_slice.ensures ∙ ap (λ (d : ClauseOf). d.variables) clause) c.as_slice-2.ensures.items in
    λ v. subst (λ (f : Assignment). f v < max 1 n) (sym at_given) (given-below (clause_at p c.args.q c.args.k).variables c.args.objects n v c.requires.objects)

pub returns : goal.returns
returns g c =
    let p = g.V.Facts.problem c.args.view.now in
    let clause : c.clause_of-clause.result.now ≡ clause_at p c.args.q c.args.k = c.clause_of-clause.ensures ∙ ap (λ (x : ProblemOf). clause_at x c.args.q c.args.k) c.problem.ensures in
    let at_given : slice_index c.given-places.result ≡ given (clause_at p c.args.q c.args.k).variables c.args.objects =
    c.given-places.ensures ∙ ap₂ given (c.as_slice.ensures ∙ ap (λ (d : ClauseOf). d.variables) clause) c.as_slice-2.ensures.items in
    let passed : c.may_force.result ≡ true = search rules in
    IfOk-weaker c.others_hold.result _ _ (λ hold e. forced-fires p (g.V.Facts.state c.args.view.now) c.args.q c.args.k c.args.j c.args.objects c.given-places.result c.may_force.result at_given
    (rw c.as_slice-3.ensures.items at c.may_force.ensures) passed hold e) c.others_hold.ensures
