use Rattle.std.proofs.Common.{◌≡◌, ◌<◌, ◌==◌, ◌&&◌, ◌∙◌, Bool, ℕ, suc, ◌+◌, arith, false, subst, sym}
use Rattle.std.proofs.lemmas.Bool.{or_from}
use Rattle.rf_prop_contain.specs.Touching.{concerns, is_concerned}
use Rattle.rf_prop_contain.proofs.touching.touch_concerned.Goals as goal

pub loop-b-preserved : goal.loop-b-preserved
loop-b-preserved g c =
    let p = g.F.Facts.problem c.args.view.now in
    let s = g.F.Facts.state c.args.view.now in
    let b = c.loop-b.b in
    let before = c.loop-b.invariant in
    let now = c.touch_where.ensures in
    record {
      size = now.size ∙ before.size;
      far = λ k l h. (
          let last = now.far k l h in
          let first = before.far k (subst (λ (m : ℕ). k < m) now.size l) last.0 in
          let one_more : b + 1 ≡ suc b = omega arith in (
            first.0,
            subst (λ (m : ℕ). is_concerned p s c.args.change m k ≡ false) (sym one_more)
                (or_from (is_concerned p s c.args.change b k) (concerns p s c.args.change b && b == k) first.1
                (subst (λ (so : Bool). (so && b == k) ≡ false) c.concerns.ensures last.1)),
          )
          );
    }
