use Rattle.std.proofs.Common.{◌≡◌, false, ap, sym, subst, ◌∙◌}
use Rattle.rf_problem.specs.declared.predicate.Literal.{Literal as LiteralOf}
use Rattle.rf_problem.specs.declared.problem.Problem.{Problem as ProblemOf}
use Rattle.rf_rules.specs.Predicates.{clause_at, is_open}
use Rattle.rf_prop_broken.specs.Asserting.{is_deniable}
use Rattle.rf_prop_broken.proofs.LookingLemmas.{never_denied, never_open}
use Rattle.rf_prop_broken.proofs.forced.Target.may_be_forced.Goals as goal

pub returns-then-not-can_be_forced : goal.returns-then-not-can_be_forced
returns-then-not-can_be_forced g c =
    let p = g.V.Facts.problem c.args.self.now.view.now in
    let s = g.V.Facts.state c.args.self.now.view.now in
    let variables = (clause_at p c.args.self.now.predicate c.args.self.now.clause).variables in
    λ u t. never_open p s c.args.self.now.predicate c.args.self.now.clause c.args.self.now.literal
    (λ places. subst (λ (l : LiteralOf). is_open p s variables places l ≡ false) c.literal_at.ensures (c.can_be_forced.ensures c.if-not-can_be_forced.true p s variables places)) t

pub returns : goal.returns
returns g c =
    let p = g.V.Facts.problem c.args.self.now.view.now in
    let s = g.V.Facts.state c.args.self.now.view.now in
    λ e t. never_denied p s c.args.self.now.predicate c.args.self.now.clause c.args.self.now.literal
    (sym (c.is_deniable.ensures ∙ ap (λ (x : ProblemOf). is_deniable x c.args.self.now.predicate) c.problem.ensures) ∙ e) t
