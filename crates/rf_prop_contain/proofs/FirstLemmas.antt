-- The first rule found kind by kind is the least one.
use Rattle.std.proofs.Common.{◌≡◌, ◌⊎◌, ℕ, ◌<◌, Bool, true, ◌&&◌, Option, Some, None, [], ◌∷◌, length, refl, sym, ◌∙◌, subst, inl, inr, true≢false}
use Rattle.std.specs.Option.{option_map, option_or}
use Rattle.std.proofs.lemmas.Bool.{and_parts}
use Rattle.rf_finite.specs.Range.{first_below}
use Rattle.rf_finite.proofs.KeyedFirsts.{From, HasPrefix, IsKeyedFirst, IsKeyedFirst-below, IsKeyedFirst-last, IsKeyedFirst-or, IsKeyedFirst-same, SomeBelow, found_is_first}
use Rattle.rf_problem.specs.declared.problem.Problem.{Problem}
use Rattle.rf_state.specs.State.{State}
use Rattle.rf_rules.specs.Containers.{least_excluded_at}
use Rattle.rf_rules.specs.Effects.{is_ready}
use Rattle.rf_rules.specs.Rules.{instance_of, is_edge, least_object, place}
use Rattle.rf_rules.specs.declared.rule.Rule.{Rule}
use Rattle.rf_rules.specs.declared.rule.Rule.TheVariants.{Acyclic, Alone, Broken, Clash, ContainCount, Empty, Forced, Full, MustContain, Need, NeedCount, NoClass, NoContainer, OneContainer, Room, ScopeBottom, ScopeIn, ScopeOut, ScopeTop, Src, Tgt, TypeLow, Under}
use Rattle.rf_pending.specs.Families.{IsFiring, IsLeastOf, is_of_containment}
use Rattle.rf_pending.specs.Rows.{firing, least_of_edges, least_of_objects}
use Rattle.rf_pending.proofs.LeastLemmas.{IsAtEdge, IsAtObject, edge-there, edges-first, least_of_row-is, map-first, object-there, objects-first, row-first}
use Rattle.rf_prop_contain.specs.Kinds.{first_in_row, first_of_all}
use Rattle.rf_prop_contain.specs.Pending.{first_excluded}
use Rattle.rf_prop_contain.specs.declared.kinds.EdgeKind.TheVariants as edge

map-twice : {A B C : Type 0} (v : B → C) (w : A → B) (o : Option A) → option_map v (option_map w o) ≡ option_map (λ x. v (w x)) o
map-twice v w None = refl
map-twice v w (Some x) = refl

module _ (p : Problem) (s : State) where
  -- the first container that is excluded, as a first value of first values
  abbrev pub excluded_by : ℕ → ℕ → ℕ → ℕ → Option Rule
  excluded_by r a b q = first_below (length s.objects) (λ c. firing p s (OneContainer r a b q c))

  abbrev pub excluded_at : ℕ → ℕ → ℕ → Option Rule
  excluded_at r a b = first_below (length p.references) (excluded_by r a b)

  excluded_at-is : (r a b : ℕ) → option_map (λ at. OneContainer r a b at.0 at.1) (least_excluded_at p s r a b) ≡ excluded_at r a b
  excluded_at-is r a b = map-first (length p.references) (λ at. OneContainer r a b at.0 at.1)
      (λ q. option_map (λ c. (q, c)) (least_object p s (OneContainer r a b q))) (excluded_by r a b)
      (λ q. map-twice (λ at. OneContainer r a b at.0 at.1) (λ c. (q, c)) (least_object p s (OneContainer r a b q))
      ∙ least_of_row-is p s (OneContainer r a b q))

  pub first_excluded-is : (r a : ℕ) → first_excluded p s r a ≡ first_below (length s.objects) (excluded_at r a)
  first_excluded-is r a = map-first (length s.objects) (λ at. OneContainer r a at.0 at.1 at.2)
      (λ b. option_map (λ at. (b, at.0, at.1)) (least_excluded_at p s r a b)) (excluded_at r a)
      (λ b. map-twice (λ at. OneContainer r a at.0 at.1 at.2) (λ at. (b, at.0, at.1)) (least_excluded_at p s r a b)
      ∙ excluded_at-is r a b)

  -- the rules that fire, kind by kind
  abbrev IsExcluded : ℕ → ℕ → Rule → Type 0
  IsExcluded r a = SomeBelow (length s.objects) (λ b. SomeBelow (length p.references) (λ q. IsAtObject p s (OneContainer r a b q)))

  abbrev IsOneContainer : Rule → Type 0
  IsOneContainer = IsAtEdge p s IsExcluded

  abbrev IsAlone : Rule → Type 0
  IsAlone = IsAtEdge p s (λ r a. IsAtObject p s (Alone r a))

  abbrev IsMustContain : Rule → Type 0
  IsMustContain = IsAtEdge p s (λ r a. IsAtObject p s (MustContain r a))

  abbrev IsContainCount : Rule → Type 0
  IsContainCount = IsAtEdge p s (λ r a. IsAtObject p s (ContainCount r a))

  abbrev IsAcyclic : Rule → Type 0
  IsAcyclic = IsAtEdge p s (λ r a. IsAtObject p s (Acyclic r a))

  abbrev From14 : Rule → Type 0
  From14 rule = IsAtObject p s NoContainer rule ⊎ IsAcyclic rule

  abbrev From13 : Rule → Type 0
  From13 rule = IsContainCount rule ⊎ From14 rule

  abbrev From12 : Rule → Type 0
  From12 rule = IsMustContain rule ⊎ From13 rule

  abbrev From11 : Rule → Type 0
  From11 rule = IsAlone rule ⊎ From12 rule

  abbrev ByKind : Rule → Type 0
  ByKind rule = IsOneContainer rule ⊎ From11 rule

  excluded-first : (r a : ℕ) → IsKeyedFirst place (HasPrefix (10 ∷ r ∷ a ∷ [])) (IsExcluded r a) (first_excluded p s r a)
  excluded-first r a =
      subst (IsKeyedFirst place (HasPrefix (10 ∷ r ∷ a ∷ [])) (IsExcluded r a)) (sym (first_excluded-is r a))
      (IsKeyedFirst-below place (10 ∷ r ∷ a ∷ []) (length s.objects) (excluded_at r a)
      (λ b. SomeBelow (length p.references) (λ q. IsAtObject p s (OneContainer r a b q)))
      (λ b lb. IsKeyedFirst-below place (10 ∷ r ∷ a ∷ b ∷ []) (length p.references) (excluded_by r a b)
      (λ q. IsAtObject p s (OneContainer r a b q))
      (λ q lq. objects-first p s (10 ∷ r ∷ a ∷ b ∷ q ∷ []) (OneContainer r a b q) (λ c. refl))))

  first_of_all-first : IsKeyedFirst place (From [] 10) ByKind (first_of_all p s)
  first_of_all-first =
      let o15 = least_of_edges p s (first_in_row p s edge.Acyclic) in
      let at15 : IsKeyedFirst place (From [] 15) IsAcyclic o15 = IsKeyedFirst-last place [] 15 IsAcyclic o15
      (edges-first p s 15 (first_in_row p s edge.Acyclic) (λ r a. IsAtObject p s (Acyclic r a))
      (λ r a. row-first p s (15 ∷ r ∷ a ∷ []) (Acyclic r a) (λ b. refl))) in
      let o14 = option_or (least_of_objects p s NoContainer) o15 in
      let at14 : IsKeyedFirst place (From [] 14) From14 o14 = IsKeyedFirst-or place [] 14 (IsAtObject p s NoContainer) IsAcyclic
      (least_of_objects p s NoContainer) o15 (objects-first p s (14 ∷ []) NoContainer (λ o. refl)) at15 in
      let o13 = option_or (least_of_edges p s (first_in_row p s edge.ContainCount)) o14 in
      let at13 : IsKeyedFirst place (From [] 13) From13 o13 =
      IsKeyedFirst-or place [] 13 IsContainCount From14 (least_of_edges p s (first_in_row p s edge.ContainCount)) o14
      (edges-first p s 13 (first_in_row p s edge.ContainCount) (λ r a. IsAtObject p s (ContainCount r a))
      (λ r a. row-first p s (13 ∷ r ∷ a ∷ []) (ContainCount r a) (λ b. refl))) at14 in
      let o12 = option_or (least_of_edges p s (first_in_row p s edge.MustContain)) o13 in
      let at12 : IsKeyedFirst place (From [] 12) From12 o12 =
      IsKeyedFirst-or place [] 12 IsMustContain From13 (least_of_edges p s (first_in_row p s edge.MustContain)) o13
      (edges-first p s 12 (first_in_row p s edge.MustContain) (λ r a. IsAtObject p s (MustContain r a))
      (λ r a. row-first p s (12 ∷ r ∷ a ∷ []) (MustContain r a) (λ b. refl))) at13 in
      let o11 = option_or (least_of_edges p s (first_in_row p s edge.Alone)) o12 in
      let at11 : IsKeyedFirst place (From [] 11) From11 o11 =
      IsKeyedFirst-or place [] 11 IsAlone From12 (least_of_edges p s (first_in_row p s edge.Alone)) o12
      (edges-first p s 11 (first_in_row p s edge.Alone) (λ r a. IsAtObject p s (Alone r a))
      (λ r a. row-first p s (11 ∷ r ∷ a ∷ []) (Alone r a) (λ b. refl))) at12 in
      IsKeyedFirst-or place [] 10 IsOneContainer From11 (least_of_edges p s (first_in_row p s edge.OneContainer)) o11
      (edges-first p s 10 (first_excluded p s) IsExcluded excluded-first) at11

  -- the same as the rules of the family that fire
  both-there : (r a b q c : ℕ) (ready : Bool) → ((is_edge p s r a b && is_edge p s q c b) && ready) ≡ true
      → (r < length p.references) × (a < length s.objects) × (b < length s.objects) × (q < length p.references) × (c < length s.objects)
  both-there r a b q c ready h =
      let both = and_parts (is_edge p s r a b && is_edge p s q c b) ready h in
      let edges = and_parts (is_edge p s r a b) (is_edge p s q c b) both.0 in
      let at = edge-there p s r a b true (rw (edges.0) refl) in
      let other = edge-there p s q c b true (rw (edges.1) refl) in
      (at.0, at.1, at.2, other.0, other.1)

  kind-of : (rule : Rule) → IsFiring is_of_containment p s rule → ByKind rule
  kind-of (OneContainer r a b q c) h = (let at = both-there r a b q c (is_ready s (instance_of p s (OneContainer r a b q c))) h.1 in
      inl (r, at.0, (a, at.1, (b, at.2, (q, at.3, (c, at.4, (refl, h.1)))))))
  kind-of (Alone r a b) h = (let at = edge-there p s r a b (is_ready s (instance_of p s (Alone r a b))) h.1 in
      inr (inl (r, at.0, (a, at.1, (b, at.2, (refl, h.1))))))
  kind-of (MustContain r a b) h = (let at = edge-there p s r a b (is_ready s (instance_of p s (MustContain r a b))) h.1 in
      inr (inr (inl (r, at.0, (a, at.1, (b, at.2, (refl, h.1)))))))
  kind-of (ContainCount r a b) h = (let at = edge-there p s r a b (is_ready s (instance_of p s (ContainCount r a b))) h.1 in
      inr (inr (inr (inl (r, at.0, (a, at.1, (b, at.2, (refl, h.1))))))))
  kind-of (NoContainer b) h = inr (inr (inr
      (inr (inl (b, object-there p s b (is_ready s (instance_of p s (NoContainer b))) h.1, (refl, h.1))))))
  kind-of (Acyclic r a b) h = (let at = edge-there p s r a b (is_ready s (instance_of p s (Acyclic r a b))) h.1 in
      inr (inr (inr (inr (inr (r, at.0, (a, at.1, (b, at.2, (refl, h.1)))))))))
  kind-of (Empty o) h = absurd (true≢false (sym h.0))
  kind-of (NoClass o) h = absurd (true≢false (sym h.0))
  kind-of (Src r a b) h = absurd (true≢false (sym h.0))
  kind-of (Tgt r a b) h = absurd (true≢false (sym h.0))
  kind-of (Clash r a b end) h = absurd (true≢false (sym h.0))
  kind-of (Full r a b) h = absurd (true≢false (sym h.0))
  kind-of (Room r a b) h = absurd (true≢false (sym h.0))
  kind-of (Need r a b) h = absurd (true≢false (sym h.0))
  kind-of (NeedCount r a b) h = absurd (true≢false (sym h.0))
  kind-of (TypeLow r a) h = absurd (true≢false (sym h.0))
  kind-of (Under z) h = absurd (true≢false (sym h.0))
  kind-of (ScopeTop z o) h = absurd (true≢false (sym h.0))
  kind-of (ScopeBottom z o) h = absurd (true≢false (sym h.0))
  kind-of (ScopeOut z o) h = absurd (true≢false (sym h.0))
  kind-of (ScopeIn z o) h = absurd (true≢false (sym h.0))
  kind-of (Broken q t) h = absurd (true≢false (sym h.0))
  kind-of (Forced q k j t) h = absurd (true≢false (sym h.0))

  this : (rule it : Rule) → rule ≡ it → IsFiring is_of_containment p s it → IsFiring is_of_containment p s rule
  this rule it e h = subst (IsFiring is_of_containment p s) (sym e) h

  firing-of : (rule : Rule) → ByKind rule → IsFiring is_of_containment p s rule
  firing-of rule h = elim h [
    | inl k ↦ this rule (OneContainer k.0 k.2.0 k.2.2.0 k.2.2.2.0 k.2.2.2.2.0) k.2.2.2.2.2.0 (refl, k.2.2.2.2.2.1)
    | inr h ↦ elim h [
      | inl k ↦ this rule (Alone k.0 k.2.0 k.2.2.0) k.2.2.2.0 (refl, k.2.2.2.1)
      | inr h ↦ elim h [
        | inl k ↦ this rule (MustContain k.0 k.2.0 k.2.2.0) k.2.2.2.0 (refl, k.2.2.2.1)
        | inr h ↦ elim h [
          | inl k ↦ this rule (ContainCount k.0 k.2.0 k.2.2.0) k.2.2.2.0 (refl, k.2.2.2.1)
          | inr h ↦ elim h [
            | inl k ↦ this rule (NoContainer k.0) k.2.0 (refl, k.2.1)
            | inr k ↦ this rule (Acyclic k.0 k.2.0 k.2.2.0) k.2.2.2.0 (refl, k.2.2.2.1)
          ]
        ]
      ]
    ]
  ]

  all-first : IsKeyedFirst place (From [] 10) (IsFiring is_of_containment p s) (first_of_all p s)
  all-first = IsKeyedFirst-same place (From [] 10) ByKind (IsFiring is_of_containment p s)
      (first_of_all p s) first_of_all-first firing-of kind-of

  -- what is found is the least rule that fires, and nothing else is
  pub least-from_first : (o : Option Rule) → first_of_all p s ≡ o → IsLeastOf is_of_containment p s o
  least-from_first o e = (found_is_first place (From [] 10) (IsFiring is_of_containment p s) (first_of_all p s) all-first o).0 e

  pub first-from_least : (o : Option Rule) → IsLeastOf is_of_containment p s o → first_of_all p s ≡ o
  first-from_least o h = (found_is_first place (From [] 10) (IsFiring is_of_containment p s) (first_of_all p s) all-first o).1 h
