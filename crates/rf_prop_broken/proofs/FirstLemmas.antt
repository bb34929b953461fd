-- The first rule found kind by kind is the least one.
use Rattle.std.proofs.Common.{◌≡◌, ◌⊎◌, ℕ, ◌<◌, true, ◌&&◌, ◌==◌, nat_lt, Option, List, [], ◌∷◌, ◌++◌, All, length, refl, sym, subst, inl, inr, true≢false}
use Rattle.std.proofs.lemmas.Bool.{and_parts, eqb-true, ltb-true}
use Rattle.std.proofs.lemmas.List.Elements.{All-cons, All-nil}
use Rattle.rf_finite.specs.Tuples.{first_tuple}
use Rattle.rf_finite.proofs.KeyedFirsts.{From, HasPrefix, IsKeyedFirst, IsKeyedFirst-below, IsKeyedFirst-last, IsKeyedFirst-one, IsKeyedFirst-or, IsKeyedFirst-same, IsKeyedFirst-tuple, IsThis, SomeBelow, SomeTuple, found_is_first}
use Rattle.rf_problem.specs.Parts.{predicate_at}
use Rattle.rf_problem.specs.declared.problem.Problem.{Problem}
use Rattle.rf_state.specs.State.{State}
use Rattle.rf_rules.specs.Effects.{is_ready}
use Rattle.rf_rules.specs.Predicates.{clause_at, free_count}
use Rattle.rf_rules.specs.Rules.{are_objects, fires, instance_of, is_called, is_literal, is_object, place}
use Rattle.rf_rules.specs.declared.rule.Rule.{Rule}
use Rattle.rf_rules.specs.declared.rule.Rule.TheVariants.{Acyclic, Alone, Broken, Clash, ContainCount, Empty, Forced, Full, MustContain, Need, NeedCount, NoClass, NoContainer, OneContainer, Room, ScopeBottom, ScopeIn, ScopeOut, ScopeTop, Src, Tgt, TypeLow, Under}
use Rattle.rf_pending.specs.Families.{IsFiring, IsLeastOf, is_of_predicates}
use Rattle.rf_pending.specs.Rows.{firing}
use Rattle.rf_prop_broken.specs.Kinds.{first_of_all, least_of_predicates}
use Rattle.rf_prop_broken.specs.Pending.{first_at_literal, first_broken, first_forced, first_in_clause}
use Rattle.rf_prop_broken.specs.declared.kinds.Kind.TheVariants as kind

module _ (p : Problem) (s : State) where
  -- the rules that fire, kind by kind
  abbrev IsAtTuple : ℕ → (List ℕ → Rule) → Rule → Type 0
  IsAtTuple many rule_at = SomeTuple (length s.objects) many [] (λ t. IsThis (rule_at t) (fires p s (rule_at t)))

  abbrev IsBroken : Rule → Type 0
  IsBroken = SomeBelow (length p.predicates) (λ q. IsAtTuple (predicate_at p.predicates q).arity (Broken q))

  abbrev IsInClause : ℕ → ℕ → Rule → Type 0
  IsInClause q k = SomeBelow (length (clause_at p q k).literals) (λ j. IsAtTuple (free_count (clause_at p q k).variables) (Forced q k j))

  abbrev IsForced : Rule → Type 0
  IsForced = SomeBelow (length p.predicates) (λ q. SomeBelow (length (predicate_at p.predicates q).clauses) (IsInClause q))

  abbrev ByKind : Rule → Type 0
  ByKind rule = IsBroken rule ⊎ IsForced rule

  tuples-first : (prefix : List ℕ) (many : ℕ) (rule_at : List ℕ → Rule) → ((t : List ℕ) → place (rule_at t) ≡ prefix ++ t)
      → IsKeyedFirst place (HasPrefix (prefix ++ [])) (IsAtTuple many rule_at) (first_tuple (length s.objects) many [] (λ t. firing p s (rule_at t)))
  tuples-first prefix many rule_at at = IsKeyedFirst-tuple place prefix (length s.objects) (λ t. firing p s (rule_at t)) (λ t. IsThis (rule_at t) (fires p s (rule_at t)))
      (λ t. IsKeyedFirst-one place (rule_at t) (fires p s (rule_at t)) (prefix ++ t) (at t)) many []

  broken-first : IsKeyedFirst place (HasPrefix (21 ∷ [])) IsBroken (least_of_predicates p s kind.Broken)
  broken-first = IsKeyedFirst-below place (21 ∷ []) (length p.predicates) (first_broken p s) (λ q. IsAtTuple (predicate_at p.predicates q).arity (Broken q))
      (λ q l. tuples-first (21 ∷ q ∷ []) (predicate_at p.predicates q).arity (Broken q) (λ t. refl))

  forced-first : IsKeyedFirst place (HasPrefix (22 ∷ [])) IsForced (least_of_predicates p s kind.Forced)
  forced-first =
      IsKeyedFirst-below place (22 ∷ []) (length p.predicates) (first_forced p s) (λ q. SomeBelow (length (predicate_at p.predicates q).clauses) (IsInClause q)) (λ q lq.
      IsKeyedFirst-below place (22 ∷ q ∷ []) (length (predicate_at p.predicates q).clauses) (first_in_clause p s q) (IsInClause q) (λ k lk.
      IsKeyedFirst-below place (22 ∷ q ∷ k ∷ []) (length (clause_at p q k).literals) (first_at_literal p s q k)
      (λ j. IsAtTuple (free_count (clause_at p q k).variables) (Forced q k j)) (λ j lj.
      tuples-first (22 ∷ q ∷ k ∷ j ∷ []) (free_count (clause_at p q k).variables) (Forced q k j) (λ t. refl))))

  first_of_all-first : IsKeyedFirst place (From [] 21) ByKind (first_of_all p s)
  first_of_all-first = IsKeyedFirst-or place [] 21 IsBroken IsForced (least_of_predicates p s kind.Broken) (least_of_predicates p s kind.Forced) broken-first
      (IsKeyedFirst-last place [] 22 IsForced (least_of_predicates p s kind.Forced) forced-first)

  -- the objects of a rule that fires are there
  all-objects : (t : List ℕ) → are_objects s t ≡ true → All (λ o. o < length s.objects) t
  all-objects [] h = All-nil (λ o. o < length s.objects)
  all-objects (o ∷ t) h =
      let parts = and_parts (is_object s o) (are_objects s t) h in
      All-cons (λ x. x < length s.objects) o t (ltb-true o (length s.objects) parts.0) (all-objects t parts.1)

  -- the same as the rules of the family that fire
  kind-of : (rule : Rule) → IsFiring is_of_predicates p s rule → ByKind rule
  kind-of (Broken q t) h = (
      let all = and_parts (is_called p q t && are_objects s t) (is_ready s (instance_of p s (Broken q t))) h.1 in
      let fit = and_parts (is_called p q t) (are_objects s t) all.0 in
      let called = and_parts (nat_lt q (length p.predicates)) (length t == (predicate_at p.predicates q).arity) fit.0 in
      inl (
        q,
        ltb-true q (length p.predicates) called.0,
        record {
          rest = t;
          tuple = record { many = eqb-true (length t) (predicate_at p.predicates q).arity called.1; below = all-objects t fit.1 };
          there = (refl, h.1);
        },
      )
      )
  kind-of (Forced q k j t) h = (
      let all = and_parts (is_literal p q k j t && are_objects s t) (is_ready s (instance_of p s (Forced q k j t))) h.1 in
      let fit = and_parts (is_literal p q k j t) (are_objects s t) all.0 in
      let clause = (nat_lt j (length (clause_at p q k).literals) && (length t == free_count (clause_at p q k).variables)) in
      let one = and_parts (nat_lt q (length p.predicates)) (nat_lt k (length (predicate_at p.predicates q).clauses) && clause) fit.0 in
      let two = and_parts (nat_lt k (length (predicate_at p.predicates q).clauses)) clause one.1 in
      let three = and_parts (nat_lt j (length (clause_at p q k).literals)) (length t == free_count (clause_at p q k).variables) two.1 in
      inr (
        q,
        ltb-true q (length p.predicates) one.0,
        (
          k,
          ltb-true k (length (predicate_at p.predicates q).clauses) two.0,
          (
            j,
            ltb-true j (length (clause_at p q k).literals) three.0,
            record {
              rest = t;
              tuple = record { many = eqb-true (length t) (free_count (clause_at p q k).variables) three.1; below = all-objects t fit.1 };
              there = (refl, h.1);
            },
          ),
        ),
      )
      )
  kind-of (Empty o) h = absurd (true≢false (sym h.0))
  kind-of (NoClass o) h = absurd (true≢false (sym h.0))
  kind-of (Src r a b) h = absurd (true≢false (sym h.0))
  kind-of (Tgt r a b) h = absurd (true≢false (sym h.0))
  kind-of (Clash r a b end) h = absurd (true≢false (sym h.0))
  kind-of (Full r a b) h = absurd (true≢false (sym h.0))
  kind-of (Room r a b) h = absurd (true≢false (sym h.0))
  kind-of (Need r a b) h = absurd (true≢false (sym h.0))
  kind-of (NeedCount r a b) h = absurd (true≢false (sym h.0))
  kind-of (TypeLow r a) h = absurd (true≢false (sym h.0))
  kind-of (OneContainer r a b q c) h = absurd (true≢false (sym h.0))
  kind-of (Alone r a b) h = absurd (true≢false (sym h.0))
  kind-of (MustContain r a b) h = absurd (true≢false (sym h.0))
  kind-of (ContainCount r a b) h = absurd (true≢false (sym h.0))
  kind-of (NoContainer b) h = absurd (true≢false (sym h.0))
  kind-of (Acyclic r a b) h = absurd (true≢false (sym h.0))
  kind-of (Under z) h = absurd (true≢false (sym h.0))
  kind-of (ScopeTop z o) h = absurd (true≢false (sym h.0))
  kind-of (ScopeBottom z o) h = absurd (true≢false (sym h.0))
  kind-of (ScopeOut z o) h = absurd (true≢false (sym h.0))
  kind-of (ScopeIn z o) h = absurd (true≢false (sym h.0))

  this : (rule it : Rule) → rule ≡ it → IsFiring is_of_predicates p s it → IsFiring is_of_predicates p s rule
  this rule it e h = subst (IsFiring is_of_predicates p s) (sym e) h

  firing-of : (rule : Rule) → ByKind rule → IsFiring is_of_predicates p s rule
  firing-of rule h = elim h [
    | inl k ↦ this rule (Broken k.0 k.2.rest) k.2.there.0 (refl, k.2.there.1)
    | inr k ↦ this rule (Forced k.0 k.2.0 k.2.2.0 k.2.2.2.rest) k.2.2.2.there.0 (refl, k.2.2.2.there.1)
  ]

  all-first : IsKeyedFirst place (From [] 21) (IsFiring is_of_predicates p s) (first_of_all p s)
  all-first = IsKeyedFirst-same place (From [] 21) ByKind (IsFiring is_of_predicates p s) (first_of_all p s) first_of_all-first firing-of kind-of

  -- what is found is the least rule that fires, and nothing else is
  pub least-from_first : (o : Option Rule) → first_of_all p s ≡ o → IsLeastOf is_of_predicates p s o
  least-from_first o e = (found_is_first place (From [] 21) (IsFiring is_of_predicates p s) (first_of_all p s) all-first o).0 e

  pub first-from_least : (o : Option Rule) → IsLeastOf is_of_predicates p s o → first_of_all p s ≡ o
  first-from_least o h = (found_is_first place (From [] 21) (IsFiring is_of_predicates p s) (first_of_all p s) all-first o).1 h
