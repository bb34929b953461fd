use Rattle.std.proofs.Common.{rules, ◌≡◌, ◌<◌, ◌≤◌, ◌+◌, ℕ, List, [], length, max, ap, sym, subst, ◌∙◌, arith, slice_index}
use Rattle.std.proofs.lemmas.Result.{on_ok_weaker}
use Rattle.rf_problem.specs.declared.predicate.Clause.{Clause as ClauseOf}
use Rattle.rf_evaluate.specs.Elements.{count}
use Rattle.rf_evaluate.proofs.Candidates.{element_at-below}
use Rattle.rf_evaluate.proofs.EvaluationMeasure.{remaining, remaining-with}
use Rattle.rf_rules.specs.Predicates.{clause_at}
use Rattle.rf_prop_broken.specs.Best.{Improves, fires_at}
use Rattle.rf_prop_broken.specs.Looking.{GoesOn, collected}
use Rattle.rf_prop_broken.specs.declared.choice.Choice.{Choice as ChoiceOf}
use Rattle.rf_prop_broken.specs.declared.instances.Instances.{Instances as InstancesOf}
use Rattle.rf_prop_broken.specs.declared.instances.Instances.TheVariants.{Forced}
use Rattle.rf_prop_broken.proofs.BestLemmas.{improves-none}
use Rattle.rf_prop_broken.proofs.LookingLemmas.{None-from, among-all, among-next, looked-at, places-with, with_object}
use Rattle.rf_prop_broken.proofs.forced.Target.+search.Goals as goal

pub returns-then-branch-clause-improves : goal.returns-then-branch-clause-improves
returns-then-branch-clause-improves g t c =
    let p = g.V.Facts.problem c.args.self.now.view.now in
    let s = g.V.Facts.state c.args.self.now.view.now in
    improves-none (fires_at p s (Forced c.args.self.now.predicate c.args.self.now.clause c.args.self.now.literal))
    (GoesOn (clause_at p c.args.self.now.predicate c.args.self.now.clause).variables c.args.choice.now) c.args.best.now
    (λ objects goes. c.in_ok-is_hopeless.ensures.hopeless c.if-branch.true objects goes)

pub returns-in_default-clause-improves : goal.returns-in_default-clause-improves
returns-in_default-clause-improves g t c =
    let p = g.V.Facts.problem c.args.self.now.view.now in
    let s = g.V.Facts.state c.args.self.now.view.now in
    let objects = c.collected-objects.result in
    let long : length c.args.choice.now.waiting ≡ 8 = search rules in
    let is = c.collected-objects.ensures ∙ ap (λ (vs : List _). collected vs (slice_index c.args.choice.now.places)) (c.as_slice.ensures ∙ ap (λ (d : ClauseOf). d.variables) c.clause.ensures) in
    on_ok_weaker c.consider.result
    (λ h. looked-at p s c.args.self.now.predicate c.args.self.now.clause c.args.self.now.literal c.args.choice.now c.args.best.now c.consider.new.best objects is long
    (c.next.ensures.none (None-from c.next.result (λ x e. c.in_default.not-Some x e)))
    (subst (λ (i : InstancesOf). Improves (fires_at p s i) (λ u. u ≡ objects) c.args.best.now c.consider.new.best) c.instances.ensures h)) c.consider.ensures

pub search-requires : goal.search-requires
search-requires g t c κs within =
    let n = length (g.V.Facts.state c.args.self.now.view.now).objects in
    let next = c.in-Some.next in
    let is_next = c.in-Some.ensures.next in
    let long : length c.args.choice.now.places ≡ 8 = search rules in
    let l : c.loop-number.number < count next.elements = omega (arith, c.count-number-end.ensures, c.loop-number-test.true) in
    let x : c.at.result < n = subst (λ (w : ℕ). w < n) (sym c.at.ensures) (element_at-below n next.elements c.loop-number.number is_next.below l) in
    let fewer : remaining c.with-chosen.result.waiting [] + 1 ≤ remaining c.args.choice.now.waiting [] =
    subst (λ (d : ChoiceOf). remaining d.waiting [] + 1 ≤ remaining c.args.choice.now.waiting []) (sym c.with-chosen.ensures)
    (remaining-with c.args.choice.now.waiting [] next.variable is_next.few is_next.waiting) in
    let objects : (v : ℕ) → slice_index c.with-chosen.result.places v < max 1 n =
    subst (λ (d : ChoiceOf). (v : ℕ) → slice_index d.places v < max 1 n) (sym c.with-chosen.ensures)
    (places-with c.args.choice.now.places next.variable c.at.result n (omega (arith, long, is_next.few)) x c.requires.objects) in
    (search (rules, fewer), (within, (c.loop-number.invariant.view, (c.requires.some, objects))))

pub loop-number-preserved : goal.loop-number-preserved
loop-number-preserved g t c =
    let p = g.V.Facts.problem c.args.self.now.view.now in
    let s = g.V.Facts.state c.args.self.now.view.now in
    let next = c.in-Some.next in
    let long : length c.args.choice.now.places ≡ 8 = search rules in
    let few = c.in-Some.ensures.next.few in
    record {
      view = c.in_ok-search.ensures.view ∙ c.loop-number.invariant.view;
      improves = among-next p s c.args.self.now.predicate c.args.self.now.clause c.args.self.now.literal c.args.choice.now next.variable next.elements c.loop-number.number
          c.with-chosen.result c.args.best.now c.loop-number.best c.search.new.best (omega (arith, long, few))
          (c.with-chosen.ensures ∙ ap (with_object c.args.choice.now next.variable) c.at.ensures) c.loop-number.invariant.improves c.in_ok-search.ensures.improves;
    }

pub returns-clause-improves : goal.returns-clause-improves
returns-clause-improves g t c =
    let p = g.V.Facts.problem c.args.self.now.view.now in
    let s = g.V.Facts.state c.args.self.now.view.now in
    let next = c.in-Some.next in
    among-all p s c.args.self.now.predicate c.args.self.now.clause c.args.self.now.literal c.args.choice.now next.variable next.elements c.loop-number.number
    c.args.best.now c.loop-number.best (omega (arith, c.loop-number-test.false, c.count-number-end.ensures)) c.in-Some.ensures.next c.loop-number.invariant.improves
