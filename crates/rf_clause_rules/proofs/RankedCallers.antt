-- Predicates whose callers can be ranked: none of them calls itself, directly or through others.
use Rattle.std.proofs.Common.{◌≡◌, ◌<◌, ◌≤◌, ◌+◌, ◌∙◌, ℕ, zero, suc, true, false, List, [], ◌∷◌, ◌++◌, length, map, take, get_or, None, arith, refl, sym, ap, subst, inl, inr}
use Rattle.std.specs.Prelude.{◌==◌, nat_lt}
use Rattle.std.specs.List.{flat_map, list_any}
use Rattle.std.proofs.lemmas.Bool.{cases_Bool, eq-eqb, ltb-false, ltb-true, ne_eqb, or_left, or_right}
use Rattle.rf_closure.specs.Along.{leads}
use Rattle.rf_finite.specs.Walks.{walk_below}
use Rattle.rf_names.specs.Declarations.{Declared}
use Rattle.rf_names.specs.Offsets.{least_of, offset_if, offsets_in_literals}
use Rattle.rf_names.specs.Ranks.{HasRanks}
use Rattle.rf_names.proofs.RankLemmas.{ranks_fall}
use Rattle.rf_clause_rules.specs.Calls.{AreCallers, calls_of, is_back_at, is_call_of}
use Rattle.rf_clause_rules.specs.ClauseOffsets.{recursive_literal, recursive_offsets}
use Rattle.rf_clause_rules.specs.declared.calls.PredicateCall.{PredicateCall}
use Rattle.rf_clause_rules.proofs.RecursionLemmas.{recursion_all, recursion_more}

-- no walk over callers leads from the one with the lesser rank to the other
no_walk : (callers : List (List ℕ)) (ranks : HasRanks callers) (n p q : ℕ) →
    ranks.0 p < ranks.0 q → walk_below (leads callers) (λ x. true) n p q ≡ false
no_walk callers ranks n p q less =
    elim (cases_Bool (walk_below (leads callers) (λ x. true) n p q)) [
      | inl walk ↦ (let falls = ranks_fall (leads callers) (λ x. true) ranks.0 ranks.1 n p q walk in
          absurd (omega arith))
      | inr none ↦ none
    ]

-- a predicate that another calls isn't one to which the callers of the other lead
not_back : (lists : List (List PredicateCall)) (callers : List (List ℕ)) →
    AreCallers lists callers → HasRanks callers → (p q : ℕ) → p < length lists →
    list_any (is_call_of q) (get_or lists p []) ≡ true → is_back_at callers p q ≡ false
not_back lists callers are ranks p q below called =
    let count = are.count in
    elim (cases_Bool (nat_lt q (length callers))) [
      | inl within ↦ (let there = ltb-true q (length callers) within in
          let less : ranks.0 p < ranks.0 q = ranks.1 q p (are.each q p (omega arith) ∙ called) in
          let apart : (q == p) ≡ false = ne_eqb q p (λ e. no_less (ranks.0 p) (subst (λ k. ranks.0 p < ranks.0 k) e less)) in
          let none : walk_below (leads callers) (λ x. true) (length callers) p q ≡ false =
          no_walk callers ranks (length callers) p q less in
          rw (apart, within, none) refl)
      | inr past ↦ (let there = ltb-false q (length callers) past in
          let apart : (q == p) ≡ false = ne_eqb q p (λ e. absurd (omega arith)) in
          rw (apart, past) refl)
    ]
  where
    no_less : (n : ℕ) → n < n → ⊥
    no_less n less = omega arith

no_offsets : (callers : List (List ℕ)) (p : ℕ) (calls : List PredicateCall) →
    ((q : ℕ) → list_any (is_call_of q) calls ≡ true → is_back_at callers p q ≡ false) →
    flat_map (λ c. offset_if (is_back_at callers p c.predicate) c.at) calls ≡ []
no_offsets callers p [] none = refl
no_offsets callers p (c ∷ cs) none =
    let here : is_back_at callers p c.predicate ≡ false =
    none c.predicate (or_left (c.predicate == c.predicate) (list_any (is_call_of c.predicate) cs)
    (eq-eqb c.predicate c.predicate refl)) in
    ap (λ b. offset_if b c.at
    ++ flat_map (λ k. offset_if (is_back_at callers p k.predicate) k.at) cs) here
    ∙ no_offsets callers p cs
    (λ q called. none q (or_right (c.predicate == q) (list_any (is_call_of q) cs) called))

none_before :
    (d : Declared) (callers : List (List ℕ)) (lists : List (List PredicateCall)) →
    lists ≡ map (calls_of d) d.predicates → AreCallers lists callers → HasRanks callers →
    (i : ℕ) → i ≤ length lists →
    None ≡ least_of (offsets_in_literals (recursive_literal d) (take i d.predicates))
none_before d callers lists made are ranks zero within = refl
none_before d callers lists made are ranks (suc i) within =
    let next : i + 1 ≡ suc i = omega arith in
    let below : i < length lists = omega arith in
    let before = none_before d callers lists made are ranks i (omega arith) in
    recursion_more d callers lists made are i (get_or lists i []) None None below refl before
    (ap least_of (sym (no_offsets callers i (get_or lists i [])
    (λ q. not_back lists callers are ranks i q below))))
    ∙ ap (λ k. least_of (offsets_in_literals (recursive_literal d) (take k d.predicates))) next

-- so no offset is one of a predicate that calls itself
pub never_recursive :
    (d : Declared) (callers : List (List ℕ)) (lists : List (List PredicateCall)) →
    lists ≡ map (calls_of d) d.predicates → AreCallers lists callers → HasRanks callers →
    None ≡ least_of (recursive_offsets d)
never_recursive d callers lists made are ranks =
    recursion_all d lists made (length lists) None (omega arith)
    (none_before d callers lists made are ranks (length lists) (omega arith))
