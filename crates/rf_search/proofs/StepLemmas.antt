-- Steps one after another, and what a step changes.
use Rattle.std.proofs.Common.{◌≡◌, ◌<◌, ℕ, false, true, Some, None, List, [], ◌∷◌, ◌++◌, refl, sym, subst, ◌∙◌, true≢false}
use Rattle.std.proofs.lemmas.List.{length-set}
use Rattle.rf_problem.specs.declared.problem.Problem.{Problem}
use Rattle.rf_state.specs.State.{State}
use Rattle.rf_rules.specs.Applying.{IsApplicable}
use Rattle.rf_rules.specs.Effects.{after_effect, is_close}
use Rattle.rf_rules.specs.Rules.{after, fires, instance_of, is_closing}
use Rattle.rf_rules.specs.declared.effect.Effect.{Effect}
use Rattle.rf_rules.specs.declared.effect.Effect.TheVariants.{AtLeast, AtMost, Close, Keep, Lose, Merge}
use Rattle.rf_rules.specs.declared.rule.Rule.{Rule}
use Rattle.rf_rules.proofs.ApplyLemmas.{effect_is_applicable}
use Rattle.rf_rules.proofs.RuleLemmas.{closing_closes}
use Rattle.rf_pending.specs.Changes.{FitsChange, IsChange}
use Rattle.rf_tree.specs.declared.line.Line.{Line}
use Rattle.rf_tree.specs.declared.line.Line.TheVariants.{Close as CloseLine, Decide, Step}
use Rattle.rf_search.specs.Changed.{change_by}
use Rattle.rf_search.specs.Least.{IsLeast}
use Rattle.rf_search.specs.Settled.{Steps}

-- one step more
pub Steps-more : (p : Problem) (s : State) (lines : List Line) (t : State) (rule : Rule) → Steps p s lines t → IsLeast p t (Some rule) → is_closing rule ≡ false
    → Steps p s (lines ++ Step rule ∷ []) (after p t rule)
Steps-more p s [] t rule e least opened =
    subst (λ (u : State). IsLeast p u (Some rule) × (is_closing rule ≡ false) × (after p t rule ≡ after p u rule)) e (least, opened, refl)
Steps-more p s (Step first ∷ lines) t rule h least opened = (h.0, h.1, Steps-more p (after p s first) lines t rule h.2 least opened)
Steps-more p s (CloseLine first ∷ lines) t rule h least opened = absurd h
Steps-more p s (Decide d first ∷ lines) t rule h least opened = absurd h

-- an effect changes what it is said to
is-change : (s : State) (e : Effect) → is_close e ≡ false → IsChange (change_by e) s (after_effect s e)
is-change s Close opened = absurd (true≢false opened)
is-change s (AtMost o n) opened = (record { lo = 0; hi = Some n }, refl)
is-change s (AtLeast o n) opened = (record { lo = n; hi = None }, refl)
is-change s (Keep o set) opened = (set, refl)
is-change s (Lose o set) opened = (_, refl)
is-change s (Merge r a b v) opened = (v, refl)

-- and that is there
fits-change : (p : Problem) (s : State) (e : Effect) → is_close e ≡ false → IsApplicable p s e → FitsChange p (after_effect s e) (change_by e)
fits-change p s Close opened fits = absurd (true≢false opened)
fits-change p s (AtMost o n) opened fits = subst (λ (m : ℕ). o < m) (sym (length-set s.objects o _)) fits.0
fits-change p s (AtLeast o n) opened fits = subst (λ (m : ℕ). o < m) (sym (length-set s.objects o _)) fits.0
fits-change p s (Keep o set) opened fits = subst (λ (m : ℕ). o < m) (sym (length-set s.objects o _)) fits
fits-change p s (Lose o set) opened fits = subst (λ (m : ℕ). o < m) (sym (length-set s.objects o _)) fits
fits-change p s (Merge r a b v) opened fits = fits

module _ (p : Problem) (s : State) (rule : Rule) (h : fires p s rule ≡ true) (opened : is_closing rule ≡ false) where
  pub rule-is_change : IsChange (change_by (instance_of p s rule).effect) s (after p s rule)
  rule-is_change = is-change s (instance_of p s rule).effect (closing_closes p s rule ∙ opened)

  pub rule-fits_change : FitsChange p (after p s rule) (change_by (instance_of p s rule).effect)
  rule-fits_change = fits-change p s (instance_of p s rule).effect (closing_closes p s rule ∙ opened) (effect_is_applicable p s rule h)
