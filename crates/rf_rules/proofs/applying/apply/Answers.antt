use Rattle.std.proofs.Common.{subst, sym}
use Rattle.rf_rules.specs.Applying.{IsApplicable}
use Rattle.rf_rules.specs.declared.effect.Effect.{Effect}
use Rattle.rf_rules.proofs.ApplyLemmas.{effect_is_applicable}
use Rattle.rf_rules.proofs.applying.apply.Goals as goal

pub apply_effect-requires : goal.apply_effect-requires
apply_effect-requires g c =
    let p = g.E.Facts.problem c.args.edit.now in
    let s = g.E.Facts.state c.args.edit.now in
    subst (λ (e : Effect). IsApplicable p s e) (sym c.effect_of-effect.ensures) (effect_is_applicable p s c.args.rule.now c.requires.fires)
