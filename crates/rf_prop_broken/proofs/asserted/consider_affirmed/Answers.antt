use Rattle.std.proofs.Common.{rules, ◌≡◌, ◌<◌, List, get_or, length, sym, subst, ap, ◌∙◌, arith}
use Rattle.std.proofs.lemmas.List.{take_all}
use Rattle.rf_problem.specs.declared.assertion.Assertion.{Assertion}
use Rattle.rf_problem.specs.declared.problem.Problem.{Problem as ProblemOf}
use Rattle.rf_prop_broken.specs.Best.{Improves, fires_at}
use Rattle.rf_prop_broken.specs.declared.instances.Instances.TheVariants.{Broken}
use Rattle.rf_prop_broken.proofs.AffirmedLemmas.{AreBy, affirmed-matching, affirmed-next, unaffirmed, unaffirmed-long}
use Rattle.rf_prop_broken.proofs.asserted.consider_affirmed.Goals.{then-affirms+then-len-le4+in_ok-consider_matching, else-affirms, else-affirms-via-then-affirms+else-len-le4, else-affirms-via-else-affirms}
use Rattle.rf_prop_broken.proofs.asserted.consider_affirmed.Goals as goal

pub loop-assertion-preserved : goal.loop-assertion-preserved
loop-assertion-preserved g c =
    let p = g.V.Facts.problem c.args.view.now in
    let s = g.V.Facts.state c.args.view.now in
    let q = c.args.q in
    let claims = c.as_slice-assertion-items.result.now in
    let i = c.loop-assertion.assertion-index in
    let a = c.assertion-item.result in
    let at : get_or claims i a ≡ a = sym c.assertion-item.is in
    elim c.if-affirms.branch [
      | then-affirms+then-len-le4+in_ok-consider_matching w ↦
          rw w.best-is (affirmed-next p s q claims i a c.args.best.now c.loop-assertion.best w.consider_matching.new.best c.loop-assertion-test.true at c.loop-assertion.invariant
          (affirmed-matching p s q a w.as_slice-args.result.now w.of.result c.loop-assertion.best w.consider_matching.new.best w.as_slice-args.ensures w.of.ensures
          w.in_ok-consider_matching.ensures))
      | else-affirms w ↦ rw w.best-is (elim w.else-affirms.branch [
        | else-affirms-via-then-affirms+else-len-le4 w' ↦
            (let long : 4 < length a.args = search rules in
            affirmed-next p s q claims i a c.args.best.now c.loop-assertion.best c.loop-assertion.best c.loop-assertion-test.true at c.loop-assertion.invariant
            (unaffirmed-long p s q a c.loop-assertion.best c.requires long))
        | else-affirms-via-else-affirms w' ↦
            affirmed-next p s q claims i a c.args.best.now c.loop-assertion.best c.loop-assertion.best c.loop-assertion-test.true at c.loop-assertion.invariant
            (unaffirmed p s q a c.loop-assertion.best (sym c.affirms.ensures ∙ w'.if-affirms.false))
      ])
    ]

pub returns : goal.returns
returns g c =
    let p = g.V.Facts.problem c.args.view.now in
    let s = g.V.Facts.state c.args.view.now in
    let claims = c.as_slice-assertion-items.result.now in
    let all : claims ≡ p.assertions = c.as_slice-assertion-items.ensures ∙ ap (λ (x : ProblemOf). x.assertions) c.problem.ensures in
    subst (λ (xs : List Assertion). Improves (fires_at p s (Broken c.args.q)) (AreBy p s c.args.q xs) c.args.best.now c.loop-assertion.best)
    (take_all c.loop-assertion.assertion-index claims (omega (arith, c.loop-assertion-test.false)) ∙ all) c.loop-assertion.invariant
