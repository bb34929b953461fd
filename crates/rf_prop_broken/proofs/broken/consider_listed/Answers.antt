use Rattle.std.proofs.Common.{rules, ◌≡◌, ◌<◌, List, length, get_or, sym, subst, ◌∙◌, arith}
use Rattle.rf_prop_broken.specs.Best.{Improves, fires_at}
use Rattle.rf_prop_broken.specs.declared.instances.Instances.TheVariants.{Broken}
use Rattle.rf_prop_broken.proofs.BrokenLemmas.{listed-all, listed-next, listed-tuple, listed-value, uncontradicted}
use Rattle.rf_prop_broken.proofs.broken.consider_listed.Goals.{then-is_contradicted+in_ok-consider, else-is_contradicted}
use Rattle.rf_prop_broken.proofs.broken.consider_listed.Goals as goal

pub is_contradicted-requires-clause-objects : goal.is_contradicted-requires-clause-objects
is_contradicted-requires-clause-objects g c =
    let p = g.V.Facts.problem c.args.view.now in
    let s = g.V.Facts.state c.args.view.now in
    let values = c.in_ok-values.values.items in
    let e = c.index.result.now in
    let at : get_or values c.loop-i.i e ≡ e = search rules in
    let l : c.loop-i.i < length values = omega (arith, c.len-i-end.ensures, c.loop-i-test.true) in
    (listed-tuple p s c.args.q values c.loop-i.i e (rw c.new-evaluator.ensures at c.in_ok-values.ensures.values) l at).below

pub is_contradicted-requires-clause-arity : goal.is_contradicted-requires-clause-arity
is_contradicted-requires-clause-arity g c =
    let p = g.V.Facts.problem c.args.view.now in
    let s = g.V.Facts.state c.args.view.now in
    let values = c.in_ok-values.values.items in
    let e = c.index.result.now in
    let at : get_or values c.loop-i.i e ≡ e = search rules in
    let l : c.loop-i.i < length values = omega (arith, c.len-i-end.ensures, c.loop-i-test.true) in
    (listed-tuple p s c.args.q values c.loop-i.i e (rw c.new-evaluator.ensures at c.in_ok-values.ensures.values) l at).many

pub loop-i-preserved : goal.loop-i-preserved
loop-i-preserved g c =
    let p = g.V.Facts.problem c.args.view.now in
    let s = g.V.Facts.state c.args.view.now in
    let q = c.args.q in
    let values = c.in_ok-values.values.items in
    let i = c.loop-i.i in
    let e = c.index.result.now in
    let at : get_or values i e ≡ e = search rules in
    let l : i < length values = omega (arith, c.len-i-end.ensures, c.loop-i-test.true) in
    elim c.if-is_contradicted.branch [
      | then-is_contradicted+in_ok-consider w ↦
          rw w.best-is (listed-next p s q values i e c.args.best.now c.loop-i.best w.consider.new.best l at c.loop-i.invariant
          (subst (λ (t : List _). Improves (fires_at p s (Broken q)) (λ u. u ≡ t) c.loop-i.best w.consider.new.best) (w.of-objects.ensures ∙ w.as_slice.ensures.items) w.in_ok-consider.ensures))
      | else-is_contradicted w ↦
          rw w.best-is (listed-next p s q values i e c.args.best.now c.loop-i.best c.loop-i.best l at c.loop-i.invariant
          (uncontradicted p s q e.0 e.1 c.loop-i.best (listed-value p s q values i e (rw c.new-evaluator.ensures at c.in_ok-values.ensures.values) l at)
          (sym c.is_contradicted.ensures ∙ w.if-is_contradicted.false)))
    ]

pub returns : goal.returns
returns g c =
    let p = g.V.Facts.problem c.args.view.now in
    let s = g.V.Facts.state c.args.view.now in
    let values = c.in_ok-values.values.items in
    listed-all p s c.args.q values c.loop-i.i c.args.best.now c.loop-i.best (rw c.new-evaluator.ensures at c.in_ok-values.ensures.values) c.requires.nodes
    (omega (arith, c.len-i-end.ensures, c.loop-i-test.false)) c.loop-i.invariant
