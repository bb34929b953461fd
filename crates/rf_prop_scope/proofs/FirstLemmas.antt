-- The first rule found kind by kind is the least one.
use Rattle.std.proofs.Common.{◌≡◌, ◌⊎◌, ℕ, nat_lt, Option, [], ◌∷◌, length, refl, sym, subst, inl, inr, true≢false}
use Rattle.std.specs.Option.{option_or}
use Rattle.std.proofs.lemmas.Bool.{and_parts, ltb-true}
use Rattle.rf_finite.proofs.KeyedFirsts.{From, HasPrefix, IsKeyedFirst, IsKeyedFirst-below, IsKeyedFirst-last, IsKeyedFirst-one, IsKeyedFirst-or, IsKeyedFirst-same, IsThis, SomeBelow, found_is_first}
use Rattle.rf_problem.specs.declared.problem.Problem.{Problem}
use Rattle.rf_state.specs.State.{State}
use Rattle.rf_rules.specs.Effects.{is_ready}
use Rattle.rf_rules.specs.Rules.{fires, instance_of, place}
use Rattle.rf_rules.specs.declared.rule.Rule.{Rule}
use Rattle.rf_rules.specs.declared.rule.Rule.TheVariants.{Acyclic, Alone, Broken, Clash, ContainCount, Empty, Forced, Full, MustContain, Need, NeedCount, NoClass, NoContainer, OneContainer, Room, ScopeBottom, ScopeIn, ScopeOut, ScopeTop, Src, Tgt, TypeLow, Under}
use Rattle.rf_pending.specs.Families.{IsFiring, IsLeastOf, is_of_scopes}
use Rattle.rf_pending.proofs.LeastLemmas.{IsAtObject, row-first, scope-there}
use Rattle.rf_prop_scope.specs.Kinds.{first_of_all, first_of_scope, least_of_scopes}
use Rattle.rf_prop_scope.specs.declared.kinds.Kind.{Kind}
use Rattle.rf_prop_scope.specs.declared.kinds.Kind.TheVariants as kind

module _ (p : Problem) (s : State) where
  -- the rules that fire, kind by kind
  abbrev IsAtScope : (ℕ → Rule → Type 0) → Rule → Type 0
  IsAtScope OfScope = SomeBelow (length p.scopes) OfScope

  abbrev IsUnder : Rule → Type 0
  IsUnder = IsAtScope (λ z. IsThis (Under z) (fires p s (Under z)))

  abbrev IsTop : Rule → Type 0
  IsTop = IsAtScope (λ z. IsAtObject p s (ScopeTop z))

  abbrev IsBottom : Rule → Type 0
  IsBottom = IsAtScope (λ z. IsAtObject p s (ScopeBottom z))

  abbrev IsOut : Rule → Type 0
  IsOut = IsAtScope (λ z. IsAtObject p s (ScopeOut z))

  abbrev IsIn : Rule → Type 0
  IsIn = IsAtScope (λ z. IsAtObject p s (ScopeIn z))

  abbrev From19 : Rule → Type 0
  From19 rule = IsOut rule ⊎ IsIn rule

  abbrev From18 : Rule → Type 0
  From18 rule = IsBottom rule ⊎ From19 rule

  abbrev From17 : Rule → Type 0
  From17 rule = IsTop rule ⊎ From18 rule

  abbrev ByKind : Rule → Type 0
  ByKind rule = IsUnder rule ⊎ From17 rule

  scopes-first : (number : ℕ) (kind : Kind) (OfScope : ℕ → Rule → Type 0) → ((z : ℕ) → IsKeyedFirst place (HasPrefix (number ∷ z ∷ [])) (OfScope z) (first_of_scope p s kind z))
      → IsKeyedFirst place (HasPrefix (number ∷ [])) (IsAtScope OfScope) (least_of_scopes p s kind)
  scopes-first number kind OfScope each = IsKeyedFirst-below place (number ∷ []) (length p.scopes) (first_of_scope p s kind) OfScope (λ z l. each z)

  first_of_all-first : IsKeyedFirst place (From [] 16) ByKind (first_of_all p s)
  first_of_all-first =
      let o20 = least_of_scopes p s kind.In in
      let at20 : IsKeyedFirst place (From [] 20) IsIn o20 = IsKeyedFirst-last place [] 20 IsIn o20
      (scopes-first 20 kind.In (λ z. IsAtObject p s (ScopeIn z)) (λ z. row-first p s (20 ∷ z ∷ []) (ScopeIn z) (λ o. refl))) in
      let o19 = option_or (least_of_scopes p s kind.Out) o20 in
      let at19 : IsKeyedFirst place (From [] 19) From19 o19 = IsKeyedFirst-or place [] 19 IsOut IsIn (least_of_scopes p s kind.Out) o20
      (scopes-first 19 kind.Out (λ z. IsAtObject p s (ScopeOut z)) (λ z. row-first p s (19 ∷ z ∷ []) (ScopeOut z) (λ o. refl))) at20 in
      let o18 = option_or (least_of_scopes p s kind.Bottom) o19 in
      let at18 : IsKeyedFirst place (From [] 18) From18 o18 = IsKeyedFirst-or place [] 18 IsBottom From19 (least_of_scopes p s kind.Bottom) o19
      (scopes-first 18 kind.Bottom (λ z. IsAtObject p s (ScopeBottom z)) (λ z. row-first p s (18 ∷ z ∷ []) (ScopeBottom z) (λ o. refl))) at19 in
      let o17 = option_or (least_of_scopes p s kind.Top) o18 in
      let at17 : IsKeyedFirst place (From [] 17) From17 o17 = IsKeyedFirst-or place [] 17 IsTop From18 (least_of_scopes p s kind.Top) o18
      (scopes-first 17 kind.Top (λ z. IsAtObject p s (ScopeTop z)) (λ z. row-first p s (17 ∷ z ∷ []) (ScopeTop z) (λ o. refl))) at18 in
      IsKeyedFirst-or place [] 16 IsUnder From17 (least_of_scopes p s kind.Under) o17
      (scopes-first 16 kind.Under (λ z. IsThis (Under z) (fires p s (Under z)))
      (λ z. IsKeyedFirst-one place (Under z) (fires p s (Under z)) (16 ∷ z ∷ []) refl)) at17

  -- the same as the rules of the family that fire
  kind-of : (rule : Rule) → IsFiring is_of_scopes p s rule → ByKind rule
  kind-of (Under z) h = inl (z, ltb-true z (length p.scopes) (and_parts (nat_lt z (length p.scopes)) (is_ready s (instance_of p s (Under z))) h.1).0, (refl, h.1))
  kind-of (ScopeTop z o) h = (let at = scope-there p s z o (is_ready s (instance_of p s (ScopeTop z o))) h.1 in
      inr (inl (z, at.0, (o, at.1, (refl, h.1)))))
  kind-of (ScopeBottom z o) h = (let at = scope-there p s z o (is_ready s (instance_of p s (ScopeBottom z o))) h.1 in
      inr (inr (inl (z, at.0, (o, at.1, (refl, h.1))))))
  kind-of (ScopeOut z o) h = (let at = scope-there p s z o (is_ready s (instance_of p s (ScopeOut z o))) h.1 in
      inr (inr (inr (inl (z, at.0, (o, at.1, (refl, h.1)))))))
  kind-of (ScopeIn z o) h = (let at = scope-there p s z o (is_ready s (instance_of p s (ScopeIn z o))) h.1 in
      inr (inr (inr (inr (z, at.0, (o, at.1, (refl, h.1)))))))
  kind-of (Empty o) h = absurd (true≢false (sym h.0))
  kind-of (NoClass o) h = absurd (true≢false (sym h.0))
  kind-of (Src r a b) h = absurd (true≢false (sym h.0))
  kind-of (Tgt r a b) h = absurd (true≢false (sym h.0))
  kind-of (Clash r a b end) h = absurd (true≢false (sym h.0))
  kind-of (Full r a b) h = absurd (true≢false (sym h.0))
  kind-of (Room r a b) h = absurd (true≢false (sym h.0))
  kind-of (Need r a b) h = absurd (true≢false (sym h.0))
  kind-of (NeedCount r a b) h = absurd (true≢false (sym h.0))
  kind-of (TypeLow r a) h = absurd (true≢false (sym h.0))
  kind-of (OneContainer r a b q c) h = absurd (true≢false (sym h.0))
  kind-of (Alone r a b) h = absurd (true≢false (sym h.0))
  kind-of (MustContain r a b) h = absurd (true≢false (sym h.0))
  kind-of (ContainCount r a b) h = absurd (true≢false (sym h.0))
  kind-of (NoContainer b) h = absurd (true≢false (sym h.0))
  kind-of (Acyclic r a b) h = absurd (true≢false (sym h.0))
  kind-of (Broken q t) h = absurd (true≢false (sym h.0))
  kind-of (Forced q k j t) h = absurd (true≢false (sym h.0))

  this : (rule it : Rule) → rule ≡ it → IsFiring is_of_scopes p s it → IsFiring is_of_scopes p s rule
  this rule it e h = subst (IsFiring is_of_scopes p s) (sym e) h

  firing-of : (rule : Rule) → ByKind rule → IsFiring is_of_scopes p s rule
  firing-of rule h = elim h [
    | inl k ↦ this rule (Under k.0) k.2.0 (refl, k.2.1)
    | inr h ↦ elim h [
      | inl k ↦ this rule (ScopeTop k.0 k.2.0) k.2.2.0 (refl, k.2.2.1)
      | inr h ↦ elim h [
        | inl k ↦ this rule (ScopeBottom k.0 k.2.0) k.2.2.0 (refl, k.2.2.1)
        | inr h ↦ elim h [
          | inl k ↦ this rule (ScopeOut k.0 k.2.0) k.2.2.0 (refl, k.2.2.1)
          | inr k ↦ this rule (ScopeIn k.0 k.2.0) k.2.2.0 (refl, k.2.2.1)
        ]
      ]
    ]
  ]

  all-first : IsKeyedFirst place (From [] 16) (IsFiring is_of_scopes p s) (first_of_all p s)
  all-first = IsKeyedFirst-same place (From [] 16) ByKind (IsFiring is_of_scopes p s) (first_of_all p s) first_of_all-first firing-of kind-of

  -- what is found is the least rule that fires, and nothing else is
  pub least-from_first : (o : Option Rule) → first_of_all p s ≡ o → IsLeastOf is_of_scopes p s o
  least-from_first o e = (found_is_first place (From [] 16) (IsFiring is_of_scopes p s) (first_of_all p s) all-first o).0 e

  pub first-from_least : (o : Option Rule) → IsLeastOf is_of_scopes p s o → first_of_all p s ≡ o
  first-from_least o h = (found_is_first place (From [] 16) (IsFiring is_of_scopes p s) (first_of_all p s) all-first o).1 h
