use Rattle.std.proofs.Common.{◌≡◌, ◌∙◌, ap, false, inl, inr, sym, subst, arith}
use Rattle.std.proofs.lemmas.Bool.{cases_eq}
use Rattle.rf_values.specs.Truth as truth
use Rattle.rf_rules.specs.Words.{may}
use Rattle.rf_prop_contain.proofs.acyclic.may_lead.Goals as goal

pub loop-b-preserved : goal.loop-b-preserved
loop-b-preserved g c j l =
    let p = g.F.Facts.problem c.args.view.now in
    let s = g.F.Facts.state c.args.view.now in
    let b = c.loop-b.b in
    let here : may p s c.args.r c.args.a b ≡ false = sym (c.may.ensures ∙ ap truth.may c.fact.ensures) ∙ c.if-may.false in
    elim (cases_eq j b) [
      | inl e ↦ subst (λ k. may p s c.args.r c.args.a k ≡ false) (sym e) here
      | inr ne ↦ c.loop-b.invariant j (omega (arith, ne, l))
    ]
