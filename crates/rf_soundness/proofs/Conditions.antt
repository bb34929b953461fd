-- The tests of the rules' conditions find whether a state meets them.
use Rattle.std.proofs.Common.{◌≡◌, ◌<◌, ◌≤◌, ℕ, Bool, true, false, not, ◌&&◌, ◌||◌, ◌==◌, length, refl, inl, inr}
use Rattle.std.specs.Prelude.{is_some, nat_le}
use Rattle.std.specs.FinSet.{contains}
use Rattle.std.proofs.lemmas.Bool.{and_from, and_parts, both_ways, false_from_ne_true, not-true, not_from_false, or_cases}
use Rattle.rf_finite.specs.Ends.{within}
use Rattle.rf_finite.specs.Range.{all_below, some_below}
use Rattle.rf_finite.proofs.Range.{all_below-from_each, each-from_all_below, one-from_some_below, some_below-from_one}
use Rattle.rf_finite.proofs.Walks.{IsReachable-from_walk_below, walk_below-from_IsWalk}
use Rattle.rf_values.specs.Count.{ends_at}
use Rattle.rf_values.specs.Truth.{merge}
use Rattle.rf_values.specs.declared.truth.Truth.TheVariants.{Error}
use Rattle.rf_problem.specs.Asserted.{asserted}
use Rattle.rf_problem.specs.Classes.{is_below}
use Rattle.rf_problem.specs.Contained.{is_contained_class, is_containing}
use Rattle.rf_problem.specs.Counted.{counts_origin}
use Rattle.rf_problem.specs.Parts.{scope_at}
use Rattle.rf_problem.specs.declared.problem.Problem.{Problem}
use Rattle.rf_problem.specs.declared.symbol.Symbol.TheVariants.{Predicate}
use Rattle.rf_state.specs.State.{State, all_candidates, fact, object_of}
use Rattle.rf_state.specs.StateKnown.{value}
use Rattle.rf_rules.specs.Containment.{has_possible, is_contained, is_only_possible, is_possible, leads, must_hold}
use Rattle.rf_rules.specs.Degrees.{may_sum, may_sum_beside, must_sum}
use Rattle.rf_rules.specs.Predicates.{are_there, origins_of}
use Rattle.rf_rules.specs.Scopes.{is_of_scope, is_surely_counted, may_be_counted, may_count, may_count_beside, scope_hi, scope_lo, sure_count}
use Rattle.rf_rules.specs.Words.{any_candidate, each_candidate, hi, is_error, is_less, is_one, is_unknown, lo, max, may, min, must, reaches, source}
use Rattle.rf_rules.specs.declared.rule.End.TheVariants.{Source, Target}
use Rattle.rf_rules.specs.declared.rule.Rule.TheVariants.{Acyclic, Alone, Broken, Clash, ContainCount, Empty, Forced, Full, MustContain, Need, NeedCount, NoClass, NoContainer, OneContainer, Room, ScopeBottom, ScopeIn, ScopeOut, ScopeTop, Src, Tgt, TypeLow, Under}
use Rattle.rf_soundness.specs.Conditions.{CanContain, ConditionIsInWords, EachCandidate, IsSingle, IsSurelyCounted, MustLeadTo, MayBeCounted, NothingCanContain, OnlyCanContain, SomeCandidate}
use Rattle.rf_soundness.proofs.ForcedWords.{forced_is_in_words}
use Rattle.rf_soundness.proofs.Tests.{Tells, there_tells, itself, and_tells, and3_tells, and4_tells, and5_tells, or_tells, not_tells, le_tells, eq_tells, unknown_tells, error_tells, finite_tells, less_tells, at_most_tells, at_least_tells, ends_at_tells}

module _ (p : Problem) (s : State) where
  single_tells : (o : ℕ) → Tells (is_one s o) (IsSingle s o)
  single_tells o =
      let both = and_tells (lo s o == 1) (ends_at 1 (hi s o)) (eq_tells (lo s o) 1) (ends_at_tells (hi s o) 1) in (
        λ h. (let parts = both.0 h in record { lower = parts.0; upper = parts.1 }),
        λ k. both.1 (k.lower, k.upper),
      )

  each_tells : (o : ℕ) (test : ℕ → Bool) → Tells (each_candidate p s o test) (EachCandidate p s o test)
  each_tells o test = (
    λ h c l has. elim (or_cases (not (contains (object_of s o).candidates c)) (test c)
        (each-from_all_below (length p.classes) (λ c. not (contains (object_of s o).candidates c) || test c) h c l)) [
          | inl e ↦ absurd (both_ways (contains (object_of s o).candidates c) (not-true (contains (object_of s o).candidates c) e) has)
          | inr e ↦ e
        ],
    λ k. all_below-from_each (length p.classes) (λ c. not (contains (object_of s o).candidates c) || test c) (λ c l. passes c l (k c l)),
  )
    where
      by_test : (a b : Bool) → (a ≡ true → b ≡ true) → (not a || b) ≡ true
      by_test true b f = f refl
      by_test false b f = refl

      passes : (c : ℕ) → c < length p.classes → (contains (object_of s o).candidates c ≡ true → test c ≡ true)
          → (not (contains (object_of s o).candidates c) || test c) ≡ true
      passes c l f = by_test (contains (object_of s o).candidates c) (test c) f

  some_tells : (o : ℕ) (test : ℕ → Bool) → Tells (any_candidate p s o test) (SomeCandidate p s o test)
  some_tells o test = (
    λ h. (let one = one-from_some_below (length p.classes) (λ c. contains (object_of s o).candidates c && test c) h in
        let parts = and_parts (contains (object_of s o).candidates one.0) (test one.0) one.2 in
        (one.0, one.1, parts.0, parts.1)),
    λ k. some_below-from_one (length p.classes) (λ c. contains (object_of s o).candidates c && test c) k.0 k.1
        (and_from (contains (object_of s o).candidates k.0) (test k.0) k.2 k.3),
  )

  possible_tells : (b q c : ℕ) → Tells (is_possible p s b q c) (CanContain p s b q c)
  possible_tells b q c =
      let three = and3_tells (is_containing p q) (may p s q c b) (within 1 (hi s c)) (itself (is_containing p q)) (itself (may p s q c b)) (at_least_tells (hi s c) 1) in (
        λ h. (let parts = three.0 h in record { containing = parts.0; edge = parts.1; node = parts.2 }),
        λ k. three.1 (k.containing, k.edge, k.node),
      )

  nothing_tells : (b : ℕ) → Tells (not (has_possible p s b)) (NothingCanContain p s b)
  nothing_tells b = (
    λ h q c lq lc k. both_ways (has_possible p s b) (not-true (has_possible p s b) h)
        (some_below-from_one (length p.references) (λ q. some_below (length s.objects) (is_possible p s b q)) q lq
        (some_below-from_one (length s.objects) (is_possible p s b q) c lc ((possible_tells b q c).1 k))),
    λ none. not_from_false (has_possible p s b) (false_from_ne_true (has_possible p s b) (λ h.
        let q = one-from_some_below (length p.references) (λ q. some_below (length s.objects) (is_possible p s b q)) h in
        let c = one-from_some_below (length s.objects) (is_possible p s b q.0) q.2 in
        none q.0 c.0 q.1 c.1 ((possible_tells b q.0 c.0).0 c.2))),
  )

  module _ (r a b : ℕ) where
    abbrev is_only : ℕ → ℕ → Bool
    is_only q c = not (is_possible p s b q c) || (q == r && c == a)

    are_only : Tells (all_below (length p.references) (λ q. all_below (length s.objects) (is_only q)))
        ((q c : ℕ) → q < length p.references → c < length s.objects → CanContain p s b q c → (q ≡ r) × (c ≡ a))
    are_only = (
      λ h q c lq lc k. elim (or_cases (not (is_possible p s b q c)) (q == r && c == a)
          (each-from_all_below (length s.objects) (is_only q) (each-from_all_below (length p.references) (λ q. all_below (length s.objects) (is_only q)) h q lq) c lc)) [
            | inl e ↦ absurd (both_ways (is_possible p s b q c) (not-true (is_possible p s b q c) e) ((possible_tells b q c).1 k))
            | inr e ↦ (and_tells (q == r) (c == a) (eq_tells q r) (eq_tells c a)).0 e
          ],
      λ k. all_below-from_each (length p.references) (λ q. all_below (length s.objects) (is_only q)) (λ q lq.
          all_below-from_each (length s.objects) (is_only q) (λ c lc. by_test (is_possible p s b q c) (q == r && c == a) (λ e.
          (and_tells (q == r) (c == a) (eq_tells q r) (eq_tells c a)).1 (k q c lq lc ((possible_tells b q c).0 e))))),
    )
      where
        by_test : (x y : Bool) → (x ≡ true → y ≡ true) → (not x || y) ≡ true
        by_test true y f = f refl
        by_test false y f = refl

    only_tells : Tells (is_only_possible p s r a b) (OnlyCanContain p s r a b)
    only_tells =
        let both = and_tells (is_possible p s b r a) (all_below (length p.references) (λ q. all_below (length s.objects) (is_only q))) (possible_tells b r a) are_only in (
          λ h. (let parts = both.0 h in record { one = parts.0; others = parts.1 }),
          λ k. both.1 (k.one, k.others),
        )

  leads_tells : (a b : ℕ) → Tells (leads p s a b) (MustLeadTo p s a b)
  leads_tells a b = (
    IsReachable-from_walk_below (must_hold p s) (λ c. nat_le 1 (lo s c)) (length s.objects) a b,
    λ w. walk_below-from_IsWalk (must_hold p s) (λ c. nat_le 1 (lo s c)) (length s.objects) a w.0 b w.1,
  )

  may_counted_tells : (z o : ℕ) → Tells (may_be_counted p s z o) (MayBeCounted p s z o)
  may_counted_tells z o = and_tells (counts_origin p (scope_at p.scopes z) (object_of s o).origin) (any_candidate p s o (is_of_scope p z))
      (itself (counts_origin p (scope_at p.scopes z) (object_of s o).origin)) (some_tells o (is_of_scope p z))

  counted_tells : (z o : ℕ) → Tells (is_surely_counted p s z o) (IsSurelyCounted p s z o)
  counted_tells z o = and_tells (counts_origin p (scope_at p.scopes z) (object_of s o).origin) (each_candidate p s o (is_of_scope p z))
      (itself (counts_origin p (scope_at p.scopes z) (object_of s o).origin)) (each_tells o (is_of_scope p z))

  of_source : (r a : ℕ) → Tells (all_candidates p s a (source p r)) (EachCandidate p s a (λ c. is_below p.classes c (source p r)))
  of_source r a = each_tells a (λ c. is_below p.classes c (source p r))

  must_at : (r a b o : ℕ) → Tells (must p s r a b && nat_le 1 (lo s o)) ((must p s r a b ≡ true) × (1 ≤ lo s o))
  must_at r a b o = and_tells (must p s r a b) (nat_le 1 (lo s o)) (itself (must p s r a b)) (le_tells 1 (lo s o))

  error_at : (r a b o : ℕ) → Tells (is_error (fact p s r a b) && nat_le 1 (lo s o)) ((fact p s r a b ≡ Error) × (1 ≤ lo s o))
  error_at r a b o = and_tells (is_error (fact p s r a b)) (nat_le 1 (lo s o)) (error_tells (fact p s r a b)) (le_tells 1 (lo s o))

  other_tells : (r a q c : ℕ) → Tells (not (q == r && c == a)) ((q ≡ r) × (c ≡ a) → ⊥)
  other_tells r a q c = not_tells (q == r && c == a) (and_tells (q == r) (c == a) (eq_tells q r) (eq_tells c a))

  one_container_tells : (r a b q c : ℕ)
      → Tells (is_containing p r && (is_containing p q && (must p s r a b && (nat_le 1 (lo s a) && (not (q == r && c == a) && may p s q c b)))))
      ((is_containing p r ≡ true) × (is_containing p q ≡ true) × (must p s r a b ≡ true) × (1 ≤ lo s a) × ((q ≡ r) × (c ≡ a) → ⊥) × (may p s q c b ≡ true))
  one_container_tells r a b q c =
      let rest = and5_tells (is_containing p q) (must p s r a b) (nat_le 1 (lo s a)) (not (q == r && c == a)) (may p s q c b)
      (itself (is_containing p q)) (itself (must p s r a b)) (le_tells 1 (lo s a)) (other_tells r a q c) (itself (may p s q c b)) in
      let both = and_tells (is_containing p r) (is_containing p q && (must p s r a b && (nat_le 1 (lo s a) && (not (q == r && c == a) && may p s q c b))))
      (itself (is_containing p r)) rest in (
        λ h. (let k = both.0 h in (k.0, k.1.0, k.1.1, k.1.2, k.1.3, k.1.4)),
        λ k. both.1 (k.0, (k.1, k.2, k.3, k.4, k.5)),
      )

pub condition_is_in_words : ConditionIsInWords
condition_is_in_words p s (Empty o) = less_tells (hi s o) (lo s o)
condition_is_in_words p s (NoClass o) = not_tells (any_candidate p s o (λ c. true)) (some_tells p s o (λ c. true))
condition_is_in_words p s (Src r a b) = must_at p s r a b b
condition_is_in_words p s (Tgt r a b) = must_at p s r a b a
condition_is_in_words p s (Clash r a b Target) = error_at p s r a b a
condition_is_in_words p s (Clash r a b Source) = error_at p s r a b b
condition_is_in_words p s (Full r a b) = and_tells (reaches (must_sum p s r a) (max p r)) (is_unknown (fact p s r a b)) (at_most_tells (max p r) (must_sum p s r a)) (unknown_tells (fact p s r a b))
condition_is_in_words p s (Room r a b) = and3_tells (is_some (max p r)) (must p s r a b) (nat_le 1 (lo s a)) (finite_tells (max p r)) (itself (must p s r a b)) (le_tells 1 (lo s a))
condition_is_in_words p s (Need r a b) = and4_tells (all_candidates p s a (source p r)) (is_one s b) (is_unknown (fact p s r a b)) (is_less (may_sum_beside p s r a b) (min p r))
    (of_source p s r a) (single_tells p s b) (unknown_tells (fact p s r a b)) (less_tells (may_sum_beside p s r a b) (min p r))
condition_is_in_words p s (NeedCount r a b) = and4_tells (all_candidates p s a (source p r)) (nat_le 1 (lo s a)) (may p s r a b) (is_some (may_sum_beside p s r a b))
    (of_source p s r a) (le_tells 1 (lo s a)) (itself (may p s r a b)) (finite_tells (may_sum_beside p s r a b))
condition_is_in_words p s (TypeLow r a) = less_tells (may_sum p s r a) (min p r)
condition_is_in_words p s (OneContainer r a b q c) = one_container_tells p s r a b q c
condition_is_in_words p s (Alone r a b) = and3_tells (is_containing p r) (must p s r a b) (nat_le 1 (lo s b)) (itself (is_containing p r)) (itself (must p s r a b)) (le_tells 1 (lo s b))
condition_is_in_words p s (MustContain r a b) = and5_tells (is_containing p r) (is_contained p s b) (is_only_possible p s r a b) (is_one s a) (is_unknown (fact p s r a b))
    (itself (is_containing p r)) (each_tells p s b (is_contained_class p)) (only_tells p s r a b) (single_tells p s a) (unknown_tells (fact p s r a b))
condition_is_in_words p s (ContainCount r a b) = and4_tells (is_containing p r) (is_contained p s b) (is_only_possible p s r a b) (nat_le 1 (lo s b))
    (itself (is_containing p r)) (each_tells p s b (is_contained_class p)) (only_tells p s r a b) (le_tells 1 (lo s b))
condition_is_in_words p s (NoContainer b) = nothing_tells p s b
condition_is_in_words p s (Acyclic r a b) = and3_tells (is_containing p r) (may p s r a b) ((a == b && is_one s a) || leads p s b a) (itself (is_containing p r)) (itself (may p s r a b))
    (or_tells (a == b && is_one s a) (leads p s b a) (and_tells (a == b) (is_one s a) (eq_tells a b) (single_tells p s a)) (leads_tells p s b a))
condition_is_in_words p s (Under z) = less_tells (may_count p s z) (scope_lo p z)
condition_is_in_words p s (ScopeTop z o) = and_tells (is_some (scope_hi p z)) (is_surely_counted p s z o) (finite_tells (scope_hi p z)) (counted_tells p s z o)
condition_is_in_words p s (ScopeBottom z o) = and_tells (may_be_counted p s z o) (is_some (may_count_beside p s z o)) (may_counted_tells p s z o) (finite_tells (may_count_beside p s z o))
condition_is_in_words p s (ScopeOut z o) = and3_tells (reaches (sure_count p s z) (scope_hi p z)) (may_be_counted p s z o) (not (is_surely_counted p s z o))
    (at_most_tells (scope_hi p z) (sure_count p s z)) (may_counted_tells p s z o) (not_tells (is_surely_counted p s z o) (counted_tells p s z o))
condition_is_in_words p s (ScopeIn z o) = and4_tells (is_one s o) (may_be_counted p s z o) (not (is_surely_counted p s z o)) (is_less (may_count_beside p s z o) (scope_lo p z))
    (single_tells p s o) (may_counted_tells p s z o) (not_tells (is_surely_counted p s z o) (counted_tells p s z o)) (less_tells (may_count_beside p s z o) (scope_lo p z))
condition_is_in_words p s (Broken q t) = and_tells (are_there s t) (is_error (merge (asserted p (Predicate q) (origins_of s t)) (value p s q t)))
    (there_tells s t) (error_tells (merge (asserted p (Predicate q) (origins_of s t)) (value p s q t)))
condition_is_in_words p s (Forced q k j t) = forced_is_in_words p s q k j t
