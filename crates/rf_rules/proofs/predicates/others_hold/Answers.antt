use Rattle.std.proofs.Common.{rules, ◌≡◌, ◌<◌, arith, false, true, length, ap, ◌∙◌, slice_index}
use Rattle.rf_problem.specs.declared.problem.Problem.{Problem as ProblemOf}
use Rattle.rf_rules.specs.Predicates.{clause_at}
use Rattle.rf_rules.proofs.PredicateLemmas.{others_hold-next, others_hold-stopped}
use Rattle.rf_rules.proofs.predicates.others_hold.Goals as goal

pub returns-then-not-branch : goal.returns-then-not-branch
returns-then-not-branch g c =
    let p = g.F.Facts.problem c.args.view.now in
    let d = clause_at p c.args.q c.args.k in
    let many : c.len-literals.result ≡ length d.literals = c.len-literals.ensures ∙ ap (λ x. length x.literals) (c.clause_of.ensures ∙ ap (λ (x : ProblemOf). clause_at x c.args.q c.args.k) c.problem.ensures) in
    let l : c.loop-i.i < length d.literals = omega (arith, many, c.loop-i-test.true) in
    let is = rw c.loop-i.invariant.facts at c.in_ok-holds_beside.ensures.holds in
    let stops : c.in_ok-holds_beside.field-0 ≡ false = search rules in
    others_hold-stopped p (g.F.Facts.state c.args.view.now) d.variables c.args.j c.loop-i.i (slice_index c.args.places) d.literals _ c.in_ok-holds_beside.field-0 l c.loop-i.invariant.so_far is stops

pub loop-i-preserved : goal.loop-i-preserved
loop-i-preserved g c =
    let p = g.F.Facts.problem c.args.view.now in
    let d = clause_at p c.args.q c.args.k in
    let many : c.len-literals.result ≡ length d.literals = c.len-literals.ensures ∙ ap (λ x. length x.literals) (c.clause_of.ensures ∙ ap (λ (x : ProblemOf). clause_at x c.args.q c.args.k) c.problem.ensures) in
    let l : c.loop-i.i < length d.literals = omega (arith, many, c.loop-i-test.true) in
    let is = rw c.loop-i.invariant.facts at c.in_ok-holds_beside.ensures.holds in
    let holds : c.in_ok-holds_beside.field-0 ≡ true = search rules in
    record {
      facts = c.in_ok-holds_beside.ensures.facts ∙ c.loop-i.invariant.facts;
      so_far = others_hold-next p (g.F.Facts.state c.args.view.now) d.variables c.args.j c.loop-i.i (slice_index c.args.places) d.literals _ c.in_ok-holds_beside.field-0 l c.loop-i.invariant.so_far is holds;
    }
