use Rattle.std.proofs.Common.{◌≡◌, false, length, ap, subst, ◌∙◌, arith}
use Rattle.rf_problem.specs.declared.predicate.Clause.{Clause as ClauseOf}
use Rattle.rf_problem.specs.declared.predicate.Literal.{Literal as LiteralOf}
use Rattle.rf_evaluate.specs.Terms.{names_unassigned}
use Rattle.rf_rules.specs.Predicates.{clause_at, literal_at}
use Rattle.rf_prop_broken.proofs.LookingLemmas.{hopeless}
use Rattle.rf_prop_broken.proofs.forced.Target.is_hopeless.Goals as goal

pub returns-then-branch-clause-hopeless : goal.returns-then-branch-clause-hopeless
returns-then-branch-clause-hopeless g c =
    let p = g.V.Facts.problem c.args.self.now.view.now in
    let s = g.V.Facts.state c.args.self.now.view.now in
    let clause = clause_at p c.args.self.now.predicate c.args.self.now.clause in
    let many : c.len-i-end.result ≡ length clause.literals = c.len-i-end.ensures ∙ ap (λ (d : ClauseOf). length d.literals) c.clause.ensures in
    let free : names_unassigned c.args.choice.now.waiting (literal_at clause c.loop-i.i) ≡ false =
    subst (λ (l : LiteralOf). names_unassigned c.args.choice.now.waiting l ≡ false) c.literal_at.ensures (c.is_due.ensures c.if-is_due.true) in
    λ yes_it t goes. hopeless p s c.args.self.now.predicate c.args.self.now.clause c.args.self.now.literal c.args.choice.now c.loop-i.i t
    (omega (arith, many, c.loop-i-test.true)) free (c.in_ok-fails.ensures.fails c.if-branch.true) goes
