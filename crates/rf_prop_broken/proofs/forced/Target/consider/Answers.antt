use Rattle.std.proofs.Common.{◌≡◌, ◌&&◌, ℕ, List, Option, None, false, length, nat_lt, sym, subst, ap, ◌∙◌}
use Rattle.std.specs.Prelude.{slice_index_or}
use Rattle.std.proofs.lemmas.Result.{on_ok_weaker}
use Rattle.rf_problem.specs.Valid.{is_free}
use Rattle.rf_problem.specs.declared.predicate.Clause.{Clause as ClauseOf}
use Rattle.rf_rules.specs.Predicates.{clause_at}
use Rattle.rf_prop_broken.specs.Best.{Improves, fires_at}
use Rattle.rf_prop_broken.specs.declared.instances.Instances.{Instances as InstancesOf}
use Rattle.rf_prop_broken.proofs.LookingLemmas.{looked-all, looked-without}
use Rattle.rf_prop_broken.proofs.forced.Target.consider.Goals as goal

pub returns-then-objects-eq0 : goal.returns-then-objects-eq0
returns-then-objects-eq0 g c =
    let p = g.V.Facts.problem c.args.self.now.view.now in
    let s = g.V.Facts.state c.args.self.now.view.now in
    on_ok_weaker c.consider.result
    (λ h. looked-without p s c.args.self.now.predicate c.args.self.now.clause c.args.self.now.literal c.args.best.now c.consider.new.best c.of.result c.of.ensures
    (sym c.objects.ensures ∙ c.if-objects-eq0.true)
    (subst (λ (i : InstancesOf). Improves (fires_at p s i) (λ u. u ≡ c.of.result) c.args.best.now c.consider.new.best) c.instances.ensures h)) c.consider.ensures

pub returns : goal.returns
returns g c =
    let p = g.V.Facts.problem c.args.self.now.view.now in
    let s = g.V.Facts.state c.args.self.now.view.now in
    let choice = c.of-choice.result in
    let variables : c.as_slice.result.now ≡ (clause_at p c.args.self.now.predicate c.args.self.now.clause).variables =
    c.as_slice.ensures ∙ ap (λ (d : ClauseOf). d.variables) c.clause.ensures in
    let waits = subst (λ (vs : List (Option ℕ)). (v : ℕ) → slice_index_or choice.waiting v false ≡ (nat_lt v (length vs) && is_free (slice_index_or vs v None))) variables
    c.of-choice.ensures.waiting in
    on_ok_weaker c.search.result
    (λ h. looked-all p s c.args.self.now.predicate c.args.self.now.clause c.args.self.now.literal choice c.args.best.now c.search.new.best c.of-choice.ensures.places waits h)
    c.search.ensures.improves
