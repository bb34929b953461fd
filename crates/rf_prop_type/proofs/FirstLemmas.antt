-- The first rule found kind by kind is the least one.
use Rattle.std.proofs.Common.{◌≡◌, ◌⊎◌, ℕ, ◌<◌, Bool, true, false, ◌&&◌, Option, Some, None, [], ◌∷◌, length, refl, sym, ap, ap₂, ◌∙◌, subst, inl, inr, true≢false}
use Rattle.std.specs.Bool.{then_some}
use Rattle.std.specs.Option.{option_map, option_or}
use Rattle.rf_finite.specs.Range.{first_below}
use Rattle.rf_finite.proofs.KeyedFirsts.{From, HasPrefix, IsKeyedFirst, IsKeyedFirst-below, IsKeyedFirst-last, IsKeyedFirst-one, IsKeyedFirst-or, IsKeyedFirst-row, IsKeyedFirst-same, IsThis, SomeBelow, found_is_first}
use Rattle.rf_problem.specs.declared.problem.Problem.{Problem}
use Rattle.rf_state.specs.State.{State}
use Rattle.rf_rules.specs.Effects.{is_ready}
use Rattle.rf_rules.specs.Rows.{clash_at}
use Rattle.rf_rules.specs.Rules.{fires, instance_of, place}
use Rattle.rf_rules.specs.declared.rule.End.{End}
use Rattle.rf_rules.specs.declared.rule.End.TheVariants.{Target, Source}
use Rattle.rf_rules.specs.declared.rule.Rule.{Rule}
use Rattle.rf_rules.specs.declared.rule.Rule.TheVariants.{Acyclic, Alone, Broken, Clash, ContainCount, Empty, Forced, Full, MustContain, Need, NeedCount, NoClass, NoContainer, OneContainer, Room, ScopeBottom, ScopeIn, ScopeOut, ScopeTop, Src, Tgt, TypeLow, Under}
use Rattle.rf_pending.specs.Families.{IsFiring, IsLeastOf, is_of_types}
use Rattle.rf_pending.specs.Rows.{firing, least_of_edges, least_of_objects, least_of_row}
use Rattle.rf_pending.proofs.LeastLemmas.{IsAtEdge, IsAtObject, edge-there, edges-first, map-first, object-there, objects-first, row-first}
use Rattle.rf_prop_type.specs.Kinds.{first_in_row, first_of_all, object_rule}
use Rattle.rf_prop_type.specs.Pending.{first_clash}
use Rattle.rf_prop_type.specs.declared.kinds.EdgeKind.TheVariants as edge
use Rattle.rf_prop_type.specs.declared.kinds.ObjectKind.TheVariants as object

-- a clash at either end
end-of : (r a b : ℕ) (here there : Bool)
    → option_map (λ (at : ℕ × End). Clash r a at.0 at.1) (option_or (then_some here (b, Target)) (then_some there (b, Source)))
    ≡ option_or (then_some here (Clash r a b Target)) (then_some there (Clash r a b Source))
end-of r a b true there = refl
end-of r a b false true = refl
end-of r a b false false = refl

module _ (p : Problem) (s : State) where
  -- the rules that fire, kind by kind
  abbrev IsClashAt : ℕ → ℕ → ℕ → Rule → Type 0
  IsClashAt r a b rule = IsThis (Clash r a b Target) (fires p s (Clash r a b Target)) rule ⊎ IsThis (Clash r a b Source) (fires p s (Clash r a b Source)) rule

  abbrev IsClash : Rule → Type 0
  IsClash = IsAtEdge p s (λ r a. SomeBelow (length s.objects) (IsClashAt r a))

  abbrev IsTgt : Rule → Type 0
  IsTgt = IsAtEdge p s (λ r a. IsAtObject p s (Tgt r a))

  abbrev IsSrc : Rule → Type 0
  IsSrc = IsAtEdge p s (λ r a. IsAtObject p s (Src r a))

  abbrev From3 : Rule → Type 0
  From3 rule = IsTgt rule ⊎ IsClash rule

  abbrev From2 : Rule → Type 0
  From2 rule = IsSrc rule ⊎ From3 rule

  abbrev From1 : Rule → Type 0
  From1 rule = IsAtObject p s NoClass rule ⊎ From2 rule

  abbrev ByKind : Rule → Type 0
  ByKind rule = IsAtObject p s Empty rule ⊎ From1 rule

  clash_at-first : (r a b : ℕ) → IsKeyedFirst place (HasPrefix (4 ∷ r ∷ a ∷ b ∷ [])) (IsClashAt r a b)
      (option_or (firing p s (Clash r a b Target)) (firing p s (Clash r a b Source)))
  clash_at-first r a b =
      let target = fires p s (Clash r a b Target) in
      let source = fires p s (Clash r a b Source) in
      let prefix = 4 ∷ r ∷ a ∷ b ∷ [] in
      IsKeyedFirst-row place prefix 0 (IsClashAt r a b) (option_or (firing p s (Clash r a b Target)) (firing p s (Clash r a b Source)))
      (IsKeyedFirst-or place prefix 0 (IsThis (Clash r a b Target) target) (IsThis (Clash r a b Source) source)
      (firing p s (Clash r a b Target)) (firing p s (Clash r a b Source))
      (IsKeyedFirst-one place (Clash r a b Target) target (4 ∷ r ∷ a ∷ b ∷ 0 ∷ []) refl)
      (IsKeyedFirst-last place prefix 1 (IsThis (Clash r a b Source) source) (firing p s (Clash r a b Source))
      (IsKeyedFirst-one place (Clash r a b Source) source (4 ∷ r ∷ a ∷ b ∷ 1 ∷ []) refl)))

  clash-first : (r a : ℕ) → IsKeyedFirst place (HasPrefix (4 ∷ r ∷ a ∷ [])) (SomeBelow (length s.objects) (IsClashAt r a)) (first_clash p s r a)
  clash-first r a =
      subst (IsKeyedFirst place (HasPrefix (4 ∷ r ∷ a ∷ [])) (SomeBelow (length s.objects) (IsClashAt r a)))
      (sym (map-first (length s.objects) (λ (at : ℕ × End). Clash r a at.0 at.1) (clash_at p s r a)
      (λ b. option_or (firing p s (Clash r a b Target)) (firing p s (Clash r a b Source)))
      (λ b. end-of r a b (fires p s (Clash r a b Target)) (fires p s (Clash r a b Source)))))
      (IsKeyedFirst-below place (4 ∷ r ∷ a ∷ []) (length s.objects)
      (λ b. option_or (firing p s (Clash r a b Target)) (firing p s (Clash r a b Source))) (IsClashAt r a) (λ b l. clash_at-first r a b))

  first_of_all-first : IsKeyedFirst place (From [] 0) ByKind (first_of_all p s)
  first_of_all-first =
      let o4 = least_of_edges p s (first_in_row p s edge.Clash) in
      let at4 : IsKeyedFirst place (From [] 4) IsClash o4 = IsKeyedFirst-last place [] 4 IsClash o4
      (edges-first p s 4 (first_clash p s) (λ r a. SomeBelow (length s.objects) (IsClashAt r a)) clash-first) in
      let o3 = option_or (least_of_edges p s (first_in_row p s edge.Tgt)) o4 in
      let at3 : IsKeyedFirst place (From [] 3) From3 o3 = IsKeyedFirst-or place [] 3 IsTgt IsClash (least_of_edges p s (first_in_row p s edge.Tgt)) o4
      (edges-first p s 3 (first_in_row p s edge.Tgt) (λ r a. IsAtObject p s (Tgt r a))
      (λ r a. row-first p s (3 ∷ r ∷ a ∷ []) (Tgt r a) (λ b. refl))) at4 in
      let o2 = option_or (least_of_edges p s (first_in_row p s edge.Src)) o3 in
      let at2 : IsKeyedFirst place (From [] 2) From2 o2 = IsKeyedFirst-or place [] 2 IsSrc From3 (least_of_edges p s (first_in_row p s edge.Src)) o3
      (edges-first p s 2 (first_in_row p s edge.Src) (λ r a. IsAtObject p s (Src r a))
      (λ r a. row-first p s (2 ∷ r ∷ a ∷ []) (Src r a) (λ b. refl))) at3 in
      let o1 = option_or (least_of_objects p s (object_rule object.NoClass)) o2 in
      let at1 : IsKeyedFirst place (From [] 1) From1 o1 = IsKeyedFirst-or place [] 1 (IsAtObject p s NoClass) From2
      (least_of_objects p s (object_rule object.NoClass)) o2 (objects-first p s (1 ∷ []) NoClass (λ o. refl)) at2 in
      IsKeyedFirst-or place [] 0 (IsAtObject p s Empty) From1 (least_of_objects p s (object_rule object.Empty)) o1
      (objects-first p s (0 ∷ []) Empty (λ o. refl)) at1

  -- the same as the rules of the family that fire
  at-clash : (r a b : ℕ) (end : End) → fires p s (Clash r a b end) ≡ true → IsClashAt r a b (Clash r a b end)
  at-clash r a b Target h = inl (refl, h)
  at-clash r a b Source h = inr (refl, h)

  kind-of : (rule : Rule) → IsFiring is_of_types p s rule → ByKind rule
  kind-of (Empty o) h = inl (o, object-there p s o (is_ready s (instance_of p s (Empty o))) h.1, (refl, h.1))
  kind-of (NoClass o) h = inr (inl (o, object-there p s o (is_ready s (instance_of p s (NoClass o))) h.1, (refl, h.1)))
  kind-of (Src r a b) h = (let at = edge-there p s r a b (is_ready s (instance_of p s (Src r a b))) h.1 in
      inr (inr (inl (r, at.0, (a, at.1, (b, at.2, (refl, h.1)))))))
  kind-of (Tgt r a b) h = (let at = edge-there p s r a b (is_ready s (instance_of p s (Tgt r a b))) h.1 in
      inr (inr (inr (inl (r, at.0, (a, at.1, (b, at.2, (refl, h.1))))))))
  kind-of (Clash r a b end) h = (let at = edge-there p s r a b (is_ready s (instance_of p s (Clash r a b end))) h.1 in
      inr (inr (inr (inr (r, at.0, (a, at.1, (b, at.2, at-clash r a b end h.1)))))))
  kind-of (Full r a b) h = absurd (true≢false (sym h.0))
  kind-of (Room r a b) h = absurd (true≢false (sym h.0))
  kind-of (Need r a b) h = absurd (true≢false (sym h.0))
  kind-of (NeedCount r a b) h = absurd (true≢false (sym h.0))
  kind-of (TypeLow r a) h = absurd (true≢false (sym h.0))
  kind-of (OneContainer r a b q c) h = absurd (true≢false (sym h.0))
  kind-of (Alone r a b) h = absurd (true≢false (sym h.0))
  kind-of (MustContain r a b) h = absurd (true≢false (sym h.0))
  kind-of (ContainCount r a b) h = absurd (true≢false (sym h.0))
  kind-of (NoContainer b) h = absurd (true≢false (sym h.0))
  kind-of (Acyclic r a b) h = absurd (true≢false (sym h.0))
  kind-of (Under z) h = absurd (true≢false (sym h.0))
  kind-of (ScopeTop z o) h = absurd (true≢false (sym h.0))
  kind-of (ScopeBottom z o) h = absurd (true≢false (sym h.0))
  kind-of (ScopeOut z o) h = absurd (true≢false (sym h.0))
  kind-of (ScopeIn z o) h = absurd (true≢false (sym h.0))
  kind-of (Broken q t) h = absurd (true≢false (sym h.0))
  kind-of (Forced q k j t) h = absurd (true≢false (sym h.0))

  this : (rule it : Rule) → rule ≡ it → IsFiring is_of_types p s it → IsFiring is_of_types p s rule
  this rule it e h = subst (IsFiring is_of_types p s) (sym e) h

  firing-of : (rule : Rule) → ByKind rule → IsFiring is_of_types p s rule
  firing-of rule h = elim h [
    | inl k ↦ this rule (Empty k.0) k.2.0 (refl, k.2.1)
    | inr h ↦ elim h [
      | inl k ↦ this rule (NoClass k.0) k.2.0 (refl, k.2.1)
      | inr h ↦ elim h [
        | inl k ↦ this rule (Src k.0 k.2.0 k.2.2.0) k.2.2.2.0 (refl, k.2.2.2.1)
        | inr h ↦ elim h [
          | inl k ↦ this rule (Tgt k.0 k.2.0 k.2.2.0) k.2.2.2.0 (refl, k.2.2.2.1)
          | inr k ↦ elim k.2.2.2 [
            | inl e ↦ this rule (Clash k.0 k.2.0 k.2.2.0 Target) e.0 (refl, e.1)
            | inr e ↦ this rule (Clash k.0 k.2.0 k.2.2.0 Source) e.0 (refl, e.1)
          ]
        ]
      ]
    ]
  ]

  all-first : IsKeyedFirst place (From [] 0) (IsFiring is_of_types p s) (first_of_all p s)
  all-first = IsKeyedFirst-same place (From [] 0) ByKind (IsFiring is_of_types p s) (first_of_all p s) first_of_all-first firing-of kind-of

  -- what is found is the least rule that fires, and nothing else is
  pub least-from_first : (o : Option Rule) → first_of_all p s ≡ o → IsLeastOf is_of_types p s o
  least-from_first o e = (found_is_first place (From [] 0) (IsFiring is_of_types p s) (first_of_all p s) all-first o).0 e

  pub first-from_least : (o : Option Rule) → IsLeastOf is_of_types p s o → first_of_all p s ≡ o
  first-from_least o h = (found_is_first place (From [] 0) (IsFiring is_of_types p s) (first_of_all p s) all-first o).1 h
