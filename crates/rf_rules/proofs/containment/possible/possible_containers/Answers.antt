use Rattle.std.proofs.Common.{◌≡◌, ℕ, true, arith, inl, inr, subst, sym, length}
use Rattle.rf_finite.proofs.Range.{below_or_last}
use Rattle.rf_problem.specs.declared.problem.Problem.{Problem}
use Rattle.rf_rules.specs.Containers.{covers}
use Rattle.rf_rules.specs.Containment.{is_possible}
use Rattle.rf_rules.proofs.ContainmentLemmas.{absent-from_found, only-from_found}
use Rattle.rf_rules.proofs.containment.possible.possible_containers.Goals as goal

pub returns-clause-absent : goal.returns-clause-absent
returns-clause-absent g c =
    let many = subst (λ (x : Problem). c.len-reference-end.result ≡ length x.references) c.problem.ensures c.len-reference-end.ensures in
    absent-from_found (g.F.Facts.problem c.args.view.now) (g.F.Facts.state c.args.view.now) c.args.b c.loop-reference.found c.loop-reference.invariant.possible
    (λ q k lq lk h. c.loop-reference.invariant.all q k (omega (arith, many)) lk h)

pub returns-clause-only : goal.returns-clause-only
returns-clause-only g c =
    let many = subst (λ (x : Problem). c.len-reference-end.result ≡ length x.references) c.problem.ensures c.len-reference-end.ensures in
    only-from_found (g.F.Facts.problem c.args.view.now) (g.F.Facts.state c.args.view.now) c.args.b c.loop-reference.found c.loop-reference.invariant.possible
    (λ q k lq lk h. c.loop-reference.invariant.all q k (omega (arith, many)) lk h)

pub loop-reference-preserved : goal.loop-reference-preserved
loop-reference-preserved g c = record {
  possible = c.with_those_by-found.ensures.possible;
  all = λ q k l lk h. elim (below_or_last c.loop-reference.reference q (omega arith)) [
    | inl m ↦ c.with_those_by-found.ensures.kept q k (c.loop-reference.invariant.all q k m lk h)
    | inr e ↦ subst
        (λ (r : ℕ). is_possible (g.F.Facts.problem c.args.view.now) (g.F.Facts.state c.args.view.now) c.args.b r k ≡ true → covers c.with_those_by-found.result r k ≡ true)
        (sym e) (c.with_those_by-found.ensures.all k lk) h
  ];
}
