use Rattle.std.proofs.Common.{rules, ◌≡◌, ◌++◌, ◌∷◌, [], ℕ, Option, List, ap, sym, subst, ◌∙◌, arith}
use Rattle.std.proofs.lemmas.Result.{on_ok_weaker}
use Rattle.rf_prop_broken.specs.Asserting.{Matches}
use Rattle.rf_prop_broken.specs.Best.{Improves, fires_at}
use Rattle.rf_prop_broken.specs.declared.instances.Instances.TheVariants.{Broken}
use Rattle.rf_prop_broken.proofs.AssertingLemmas.{matches-all, matches-ended, matches-next, no_arguments}
use Rattle.rf_prop_broken.proofs.asserted.+consider_matching.Goals as goal

pub returns-in_default : goal.returns-in_default
returns-in_default g t c =
    let p = g.V.Facts.problem c.args.view.now in
    let s = g.V.Facts.state c.args.view.now in
    let passes = fires_at p s (Broken c.args.q) in
    let none = no_arguments c.args.args.now c.in_default.ensures.cases in
    on_ok_weaker c.consider.result
    (λ h. subst (λ (args : List (Option ℕ)). Improves passes (Matches s c.args.objects args) c.args.best.now c.consider.new.best) (sym none)
    (matches-ended passes s c.args.objects c.args.best.now c.consider.new.best h)) c.consider.ensures

pub loop-number-preserved : goal.loop-number-preserved
loop-number-preserved g t c =
    let p = g.V.Facts.problem c.args.view.now in
    let s = g.V.Facts.state c.args.view.now in
    matches-next (fires_at p s (Broken c.args.q)) s c.args.objects c.in-Some.others.now c.elements_of-elements.result c.loop-number.number c.args.best.now c.loop-number.best
    c.consider_matching.new.best c.with.result (c.with.ensures ∙ ap (λ (o : ℕ). c.args.objects ++ o ∷ []) c.at-o.ensures) c.loop-number.invariant c.in_ok-consider_matching.ensures

pub returns : goal.returns
returns g t c =
    let p = g.V.Facts.problem c.args.view.now in
    let s = g.V.Facts.state c.args.view.now in
    let passes = fires_at p s (Broken c.args.q) in
    let whole : c.args.args.now ≡ c.in-Some.arg.now ∷ c.in-Some.others.now = search rules in
    subst (λ (args : List (Option ℕ)). Improves passes (Matches s c.args.objects args) c.args.best.now c.loop-number.best) (sym whole)
    (matches-all passes s c.args.objects c.in-Some.others.now c.elements_of-elements.result c.in-Some.arg.now c.loop-number.number c.args.best.now c.loop-number.best
    (omega (arith, c.loop-number-test.false, c.count-number-end.ensures)) c.elements_of-elements.ensures.complete c.loop-number.invariant)
