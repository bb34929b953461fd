-- When a rule fires, in words, and the order of rules.
use Rattle.std.proofs.Common.{◌≡◌, ◌≢◌, ◌⊎◌, ℕ, zero, suc, true, if◌then◌else◌, ◌==◌, List, [], ◌∷◌, get_or, refl, sym, ◌∙◌, ap, inl, inr, rules}
use Rattle.std.specs.FinMap.{nat_cmp-IsAntisymmetric, slice_cmp-IsAntisymmetric}
use Rattle.std.proofs.lemmas.Bool.{and_from, and_parts, cases_Bool, ltb-true}
use Rattle.std.proofs.lemmas.Cmp.{nat_list_cmp_total}
use Rattle.rf_problem.specs.declared.problem.Problem.{Problem}
use Rattle.rf_state.specs.State.{State}
use Rattle.rf_rules.specs.Effects.{has_effect, is_close, is_ready}
use Rattle.rf_rules.specs.Laws.{ClosingCloses, EffectFits, FiresIsInWords, RulesAreOrdered}
use Rattle.rf_rules.specs.Rules.{after, fits, instance_of, is_closing, place}
use Rattle.rf_rules.specs.declared.effect.Effect.{Effect}
use Rattle.rf_rules.specs.declared.rule.End.{End}
use Rattle.rf_rules.specs.declared.rule.End.TheVariants.{Source, Target}
use Rattle.rf_rules.specs.declared.rule.Rule.{Rule}
use Rattle.rf_rules.specs.declared.rule.Rule.TheVariants.{Acyclic, Alone, Broken, Clash, ContainCount, Empty, Forced, Full, MustContain, Need, NeedCount, NoClass, NoContainer, OneContainer, Room, ScopeBottom, ScopeIn, ScopeOut, ScopeTop, Src, Tgt, TypeLow, Under}
use Rattle.rf_rules.proofs.EffectLemmas.{effect_is_change}

pub closing_closes : ClosingCloses
closing_closes p s rule = search rules

pub effect_fits : EffectFits
effect_fits p s rule h = search (rules, ltb-true)

closing_has_effect : (s : State) (e : Effect) → is_close e ≡ true → has_effect s e ≡ true
closing_has_effect s e h = search rules

module _ (p : Problem) (s : State) (rule : Rule) where
  abbrev effect : Effect
  effect = (instance_of p s rule).effect

  changes-from_effect : fits p s rule ≡ true → has_effect s effect ≡ true → (is_closing rule ≡ true) ⊎ (after p s rule ≢ s)
  changes-from_effect numbers h = elim (cases_Bool (is_close effect)) [
    | inl e ↦ inl (sym (closing_closes p s rule) ∙ e)
    | inr e ↦ inr ((effect_is_change s effect (effect_fits p s rule numbers) e).0 h)
  ]

  effect-from_changes : fits p s rule ≡ true → (is_closing rule ≡ true) ⊎ (after p s rule ≢ s) → has_effect s effect ≡ true
  effect-from_changes numbers changes = elim (cases_Bool (is_close effect)) [
    | inl e ↦ closing_has_effect s effect e
    | inr e ↦ (elim changes [
      | inl closing ↦ closing_has_effect s effect (closing_closes p s rule ∙ closing)
      | inr other ↦ (effect_is_change s effect (effect_fits p s rule numbers) e).1 other
    ])
  ]

pub fires_is_in_words : FiresIsInWords
fires_is_in_words p s rule =
    let instance = instance_of p s rule in (
      λ h.
          let one = and_parts (fits p s rule) (is_ready s instance) h in
          let two = and_parts instance.holds (has_effect s instance.effect) one.1 in
          record { numbers = one.0; condition = two.0; changes = changes-from_effect p s rule one.0 two.1 },
      λ f.
          and_from (fits p s rule) (is_ready s instance) f.numbers
          (and_from instance.holds (has_effect s instance.effect) f.condition (effect-from_changes p s rule f.numbers f.changes)),
    )

-- a rule is read back from its place
end_of : ℕ → End
end_of zero = Target
end_of (suc n) = Source

rest : List ℕ → List ℕ
rest [] = []
rest (x ∷ xs) = xs

-- the rule of the first number, of which the others are the numbers
rule_at : List ℕ → Rule
rule_at xs =
    let line = get_or xs 0 0 in
    let a = get_or xs 1 0 in
    let b = get_or xs 2 0 in
    let c = get_or xs 3 0 in
    let d = get_or xs 4 0 in
    let e = get_or xs 5 0 in
    if line == 0 then Empty a
    else if line == 1 then NoClass a
    else if line == 2 then Src a b c
    else if line == 3 then Tgt a b c
    else if line == 4 then Clash a b c (end_of d)
    else if line == 5 then Full a b c
    else if line == 6 then Room a b c
    else if line == 7 then Need a b c
    else if line == 8 then NeedCount a b c
    else if line == 9 then TypeLow a b
    else if line == 10 then OneContainer a b c d e
    else if line == 11 then Alone a b c
    else if line == 12 then MustContain a b c
    else if line == 13 then ContainCount a b c
    else if line == 14 then NoContainer a
    else if line == 15 then Acyclic a b c
    else if line == 16 then Under a
    else if line == 17 then ScopeTop a b
    else if line == 18 then ScopeBottom a b
    else if line == 19 then ScopeOut a b
    else if line == 20 then ScopeIn a b
    else if line == 21 then Broken a (rest (rest xs))
    else Forced a b c (rest (rest (rest (rest xs))))

rule_at-place : (rule : Rule) → rule_at (place rule) ≡ rule
unfolding rule_at end_of rest
rule_at-place (Empty o) = refl
rule_at-place (NoClass o) = refl
rule_at-place (Src r a b) = refl
rule_at-place (Tgt r a b) = refl
rule_at-place (Clash r a b Target) = refl
rule_at-place (Clash r a b Source) = refl
rule_at-place (Full r a b) = refl
rule_at-place (Room r a b) = refl
rule_at-place (Need r a b) = refl
rule_at-place (NeedCount r a b) = refl
rule_at-place (TypeLow r a) = refl
rule_at-place (OneContainer r a b q c) = refl
rule_at-place (Alone r a b) = refl
rule_at-place (MustContain r a b) = refl
rule_at-place (ContainCount r a b) = refl
rule_at-place (NoContainer b) = refl
rule_at-place (Acyclic r a b) = refl
rule_at-place (Under z) = refl
rule_at-place (ScopeTop z o) = refl
rule_at-place (ScopeBottom z o) = refl
rule_at-place (ScopeOut z o) = refl
rule_at-place (ScopeIn z o) = refl
rule_at-place (Broken q t) = refl
rule_at-place (Forced q k j t) = refl

-- two rules of one place are the same
same_place : (x y : Rule) → place x ≡ place y → x ≡ y
same_place x y same = sym (rule_at-place x) ∙ ap rule_at same ∙ rule_at-place y

pub rules_are_ordered : RulesAreOrdered
rules_are_ordered =
    let places = nat_list_cmp_total in (
      record {
        antisymm = λ x y. places.antisymm (place x) (place y);
        trans = λ x y z. places.trans (place x) (place y) (place z);
        congr = λ x y z. places.congr (place x) (place y) (place z);
      },
      λ x y e. same_place x y (slice_cmp-IsAntisymmetric nat_cmp-IsAntisymmetric (place x) (place y) e),
    )
