-- The first rule found kind by kind is the least one.
use Rattle.std.proofs.Common.{◌≡◌, ◌⊎◌, Option, [], ◌∷◌, refl, sym, subst, inl, inr, true≢false}
use Rattle.std.specs.Option.{option_or}
use Rattle.rf_finite.proofs.KeyedFirsts.{From, IsKeyedFirst, IsKeyedFirst-last, IsKeyedFirst-one, IsKeyedFirst-or, IsKeyedFirst-same, IsThis, found_is_first}
use Rattle.rf_problem.specs.declared.problem.Problem.{Problem}
use Rattle.rf_state.specs.State.{State}
use Rattle.rf_rules.specs.Effects.{is_ready}
use Rattle.rf_rules.specs.Rules.{fires, instance_of, place}
use Rattle.rf_rules.specs.declared.rule.Rule.{Rule}
use Rattle.rf_rules.specs.declared.rule.Rule.TheVariants.{Acyclic, Alone, Broken, Clash, ContainCount, Empty, Forced, Full, MustContain, Need, NeedCount, NoClass, NoContainer, OneContainer, Room, ScopeBottom, ScopeIn, ScopeOut, ScopeTop, Src, Tgt, TypeLow, Under}
use Rattle.rf_pending.specs.Families.{IsFiring, IsLeastOf, is_of_degrees}
use Rattle.rf_pending.specs.Rows.{least_of_edges}
use Rattle.rf_pending.proofs.LeastLemmas.{IsAtEdge, IsAtObject, edge-there, edges-first, row-first, row-there}
use Rattle.rf_prop_mult.specs.Kinds.{first_in_row, first_of_all}
use Rattle.rf_prop_mult.specs.declared.kinds.Kind.TheVariants as kind

module _ (p : Problem) (s : State) where
  -- the rules that fire, kind by kind
  abbrev IsTypeLow : Rule → Type 0
  IsTypeLow = IsAtEdge p s (λ r a. IsThis (TypeLow r a) (fires p s (TypeLow r a)))

  abbrev IsNeedCount : Rule → Type 0
  IsNeedCount = IsAtEdge p s (λ r a. IsAtObject p s (NeedCount r a))

  abbrev IsNeed : Rule → Type 0
  IsNeed = IsAtEdge p s (λ r a. IsAtObject p s (Need r a))

  abbrev IsRoom : Rule → Type 0
  IsRoom = IsAtEdge p s (λ r a. IsAtObject p s (Room r a))

  abbrev IsFull : Rule → Type 0
  IsFull = IsAtEdge p s (λ r a. IsAtObject p s (Full r a))

  abbrev From8 : Rule → Type 0
  From8 rule = IsNeedCount rule ⊎ IsTypeLow rule

  abbrev From7 : Rule → Type 0
  From7 rule = IsNeed rule ⊎ From8 rule

  abbrev From6 : Rule → Type 0
  From6 rule = IsRoom rule ⊎ From7 rule

  abbrev ByKind : Rule → Type 0
  ByKind rule = IsFull rule ⊎ From6 rule

  first_of_all-first : IsKeyedFirst place (From [] 5) ByKind (first_of_all p s)
  first_of_all-first =
      let o9 = least_of_edges p s (first_in_row p s kind.TypeLow) in
      let at9 : IsKeyedFirst place (From [] 9) IsTypeLow o9 = IsKeyedFirst-last place [] 9 IsTypeLow o9
      (edges-first p s 9 (first_in_row p s kind.TypeLow) (λ r a. IsThis (TypeLow r a) (fires p s (TypeLow r a)))
      (λ r a. IsKeyedFirst-one place (TypeLow r a) (fires p s (TypeLow r a)) (9 ∷ r ∷ a ∷ []) refl)) in
      let o8 = option_or (least_of_edges p s (first_in_row p s kind.NeedCount)) o9 in
      let at8 : IsKeyedFirst place (From [] 8) From8 o8 =
      IsKeyedFirst-or place [] 8 IsNeedCount IsTypeLow (least_of_edges p s (first_in_row p s kind.NeedCount)) o9
      (edges-first p s 8 (first_in_row p s kind.NeedCount) (λ r a. IsAtObject p s (NeedCount r a))
      (λ r a. row-first p s (8 ∷ r ∷ a ∷ []) (NeedCount r a) (λ b. refl))) at9 in
      let o7 = option_or (least_of_edges p s (first_in_row p s kind.Need)) o8 in
      let at7 : IsKeyedFirst place (From [] 7) From7 o7 =
      IsKeyedFirst-or place [] 7 IsNeed From8 (least_of_edges p s (first_in_row p s kind.Need)) o8
      (edges-first p s 7 (first_in_row p s kind.Need) (λ r a. IsAtObject p s (Need r a))
      (λ r a. row-first p s (7 ∷ r ∷ a ∷ []) (Need r a) (λ b. refl))) at8 in
      let o6 = option_or (least_of_edges p s (first_in_row p s kind.Room)) o7 in
      let at6 : IsKeyedFirst place (From [] 6) From6 o6 =
      IsKeyedFirst-or place [] 6 IsRoom From7 (least_of_edges p s (first_in_row p s kind.Room)) o7
      (edges-first p s 6 (first_in_row p s kind.Room) (λ r a. IsAtObject p s (Room r a))
      (λ r a. row-first p s (6 ∷ r ∷ a ∷ []) (Room r a) (λ b. refl))) at7 in
      IsKeyedFirst-or place [] 5 IsFull From6 (least_of_edges p s (first_in_row p s kind.Full)) o6
      (edges-first p s 5 (first_in_row p s kind.Full) (λ r a. IsAtObject p s (Full r a))
      (λ r a. row-first p s (5 ∷ r ∷ a ∷ []) (Full r a) (λ b. refl))) at6

  -- the same as the rules of the family that fire
  kind-of : (rule : Rule) → IsFiring is_of_degrees p s rule → ByKind rule
  kind-of (Full r a b) h = (let at = edge-there p s r a b (is_ready s (instance_of p s (Full r a b))) h.1 in
      inl (r, at.0, (a, at.1, (b, at.2, (refl, h.1)))))
  kind-of (Room r a b) h = (let at = edge-there p s r a b (is_ready s (instance_of p s (Room r a b))) h.1 in
      inr (inl (r, at.0, (a, at.1, (b, at.2, (refl, h.1))))))
  kind-of (Need r a b) h = (let at = edge-there p s r a b (is_ready s (instance_of p s (Need r a b))) h.1 in
      inr (inr (inl (r, at.0, (a, at.1, (b, at.2, (refl, h.1)))))))
  kind-of (NeedCount r a b) h = (let at = edge-there p s r a b (is_ready s (instance_of p s (NeedCount r a b))) h.1 in
      inr (inr (inr (inl (r, at.0, (a, at.1, (b, at.2, (refl, h.1))))))))
  kind-of (TypeLow r a) h = (let at = row-there p s r a (is_ready s (instance_of p s (TypeLow r a))) h.1 in
      inr (inr (inr (inr ((r, at.0, (a, at.1, (refl, h.1))))))))
  kind-of (Empty o) h = absurd (true≢false (sym h.0))
  kind-of (NoClass o) h = absurd (true≢false (sym h.0))
  kind-of (Src r a b) h = absurd (true≢false (sym h.0))
  kind-of (Tgt r a b) h = absurd (true≢false (sym h.0))
  kind-of (Clash r a b end) h = absurd (true≢false (sym h.0))
  kind-of (OneContainer r a b q c) h = absurd (true≢false (sym h.0))
  kind-of (Alone r a b) h = absurd (true≢false (sym h.0))
  kind-of (MustContain r a b) h = absurd (true≢false (sym h.0))
  kind-of (ContainCount r a b) h = absurd (true≢false (sym h.0))
  kind-of (NoContainer b) h = absurd (true≢false (sym h.0))
  kind-of (Acyclic r a b) h = absurd (true≢false (sym h.0))
  kind-of (Under z) h = absurd (true≢false (sym h.0))
  kind-of (ScopeTop z o) h = absurd (true≢false (sym h.0))
  kind-of (ScopeBottom z o) h = absurd (true≢false (sym h.0))
  kind-of (ScopeOut z o) h = absurd (true≢false (sym h.0))
  kind-of (ScopeIn z o) h = absurd (true≢false (sym h.0))
  kind-of (Broken q t) h = absurd (true≢false (sym h.0))
  kind-of (Forced q k j t) h = absurd (true≢false (sym h.0))

  this : (rule it : Rule) → rule ≡ it → IsFiring is_of_degrees p s it → IsFiring is_of_degrees p s rule
  this rule it e h = subst (IsFiring is_of_degrees p s) (sym e) h

  firing-of : (rule : Rule) → ByKind rule → IsFiring is_of_degrees p s rule
  firing-of rule h = elim h [
    | inl k ↦ this rule (Full k.0 k.2.0 k.2.2.0) k.2.2.2.0 (refl, k.2.2.2.1)
    | inr h ↦ elim h [
      | inl k ↦ this rule (Room k.0 k.2.0 k.2.2.0) k.2.2.2.0 (refl, k.2.2.2.1)
      | inr h ↦ elim h [
        | inl k ↦ this rule (Need k.0 k.2.0 k.2.2.0) k.2.2.2.0 (refl, k.2.2.2.1)
        | inr h ↦ elim h [
          | inl k ↦ this rule (NeedCount k.0 k.2.0 k.2.2.0) k.2.2.2.0 (refl, k.2.2.2.1)
          | inr k ↦ this rule (TypeLow k.0 k.2.0) k.2.2.0 (refl, k.2.2.1)
        ]
      ]
    ]
  ]

  all-first : IsKeyedFirst place (From [] 5) (IsFiring is_of_degrees p s) (first_of_all p s)
  all-first =
      IsKeyedFirst-same place (From [] 5) ByKind (IsFiring is_of_degrees p s) (first_of_all p s) first_of_all-first firing-of kind-of

  -- what is found is the least rule that fires, and nothing else is
  pub least-from_first : (o : Option Rule) → first_of_all p s ≡ o → IsLeastOf is_of_degrees p s o
  least-from_first o e = (found_is_first place (From [] 5) (IsFiring is_of_degrees p s) (first_of_all p s) all-first o).0 e

  pub first-from_least : (o : Option Rule) → IsLeastOf is_of_degrees p s o → first_of_all p s ≡ o
  first-from_least o h = (found_is_first place (From [] 5) (IsFiring is_of_degrees p s) (first_of_all p s) all-first o).1 h
