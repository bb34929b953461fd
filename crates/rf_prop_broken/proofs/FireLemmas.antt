-- What a rule that fires asks for, part by part.
use Rattle.std.proofs.Common.{◌≡◌, ℕ, ◌<◌, ◌≤◌, true, ◌&&◌, ◌==◌, nat_lt, Option, None, Some, List, [], ◌∷◌, All, length, take, arith}
use Rattle.std.proofs.lemmas.Bool.{and_parts, eqb-true, ltb-true}
use Rattle.std.proofs.lemmas.List.Elements.{All-cons, All-nil}
use Rattle.rf_finite.specs.Tuples.{IsTuple}
use Rattle.rf_values.specs.Truth.{merge}
use Rattle.rf_problem.specs.Asserted.{asserted}
use Rattle.rf_problem.specs.Parts.{predicate_at}
use Rattle.rf_problem.specs.declared.problem.Problem.{Problem}
use Rattle.rf_problem.specs.declared.symbol.Symbol.TheVariants.{Predicate as Defined}
use Rattle.rf_state.specs.State.{State}
use Rattle.rf_state.specs.StateKnown.{value}
use Rattle.rf_rules.specs.Effects.{has_effect, is_ready}
use Rattle.rf_rules.specs.Predicates.{are_there, broken, clause_at, forced, free_count, given, is_open, literal_at, origins_of, others_hold}
use Rattle.rf_rules.specs.Rules.{are_objects, is_called, is_literal, is_object}
use Rattle.rf_rules.specs.Words.{is_error, is_false}
use Rattle.rf_rules.proofs.PredicateLemmas.{few_variables}
use Rattle.rf_prop_broken.specs.Best.{fires_at}
use Rattle.rf_prop_broken.specs.declared.instances.Instances.TheVariants.{Broken, Forced}

all-objects : (s : State) (t : List ℕ) → are_objects s t ≡ true → All (λ o. o < length s.objects) t
all-objects s [] h = All-nil (λ o. o < length s.objects)
all-objects s (o ∷ t) h =
    let parts = and_parts (is_object s o) (are_objects s t) h in
    All-cons (λ x. x < length s.objects) o t (ltb-true o (length s.objects) parts.0) (all-objects s t parts.1)

-- `broken`
pub record IsBroken (p : Problem) (s : State) (q : ℕ) (t : List ℕ) : Type 0 where
  pub tuple : IsTuple (length s.objects) (predicate_at p.predicates q).arity t
  pub there : are_there s t ≡ true
  pub error : is_error (merge (asserted p (Defined q) (origins_of s t)) (value p s q t)) ≡ true

pub broken-parts : (p : Problem) (s : State) (q : ℕ) (t : List ℕ) → fires_at p s (Broken q) t ≡ true → IsBroken p s q t
broken-parts p s q t h =
    let error = is_error (merge (asserted p (Defined q) (origins_of s t)) (value p s q t)) in
    let all = and_parts (is_called p q t && are_objects s t) (is_ready s (broken p s q t)) h in
    let fit = and_parts (is_called p q t) (are_objects s t) all.0 in
    let called = and_parts (nat_lt q (length p.predicates)) (length t == (predicate_at p.predicates q).arity) fit.0 in
    let ready = and_parts (are_there s t && error) true all.1 in
    let holds = and_parts (are_there s t) error ready.0 in
    record {
      tuple = record { many = eqb-true (length t) (predicate_at p.predicates q).arity called.1; below = all-objects s t fit.1 };
      there = holds.0;
      error = holds.1;
    }

-- `forced`
pub record IsForced (p : Problem) (s : State) (q k j : ℕ) (t : List ℕ) : Type 0 where
  pub tuple : IsTuple (length s.objects) (free_count (clause_at p q k).variables) t
  pub denied : is_false (asserted p (Defined q) (origins_of s (take (predicate_at p.predicates q).arity t))) ≡ true
  pub others : others_hold p s (clause_at p q k).variables j 0 (given (clause_at p q k).variables t) (clause_at p q k).literals ≡ true
  pub ready : is_open p s (clause_at p q k).variables (given (clause_at p q k).variables t) (literal_at (clause_at p q k) j) ≡ true

pub forced-parts : (p : Problem) (s : State) (q k j : ℕ) (t : List ℕ) → fires_at p s (Forced q k j) t ≡ true → IsForced p s q k j t
forced-parts p s q k j t h =
    let d = clause_at p q k in
    let denied = is_false (asserted p (Defined q) (origins_of s (take (predicate_at p.predicates q).arity t))) in
    let others = others_hold p s d.variables j 0 (given d.variables t) d.literals in
    let ready = is_open p s d.variables (given d.variables t) (literal_at d j) in
    let all = and_parts (is_literal p q k j t && are_objects s t) (is_ready s (forced p s q k j t)) h in
    let fit = and_parts (is_literal p q k j t) (are_objects s t) all.0 in
    let many = length t == free_count d.variables in
    let one = and_parts (nat_lt q (length p.predicates)) (nat_lt k (length (predicate_at p.predicates q).clauses) && (nat_lt j (length d.literals) && many)) fit.0 in
    let two = and_parts (nat_lt k (length (predicate_at p.predicates q).clauses)) (nat_lt j (length d.literals) && many) one.1 in
    let three = and_parts (nat_lt j (length d.literals)) many two.1 in
    let effect = and_parts (denied && (are_there s t && (others && ready))) (has_effect s (forced p s q k j t).effect) all.1 in
    let first = and_parts denied (are_there s t && (others && ready)) effect.0 in
    let second = and_parts (are_there s t) (others && ready) first.1 in
    let third = and_parts others ready second.1 in
    record {
      tuple = record { many = eqb-true (length t) (free_count d.variables) three.1; below = all-objects s t fit.1 };
      denied = first.0;
      others = third.0;
      ready = third.1;
    }

-- not more variables range over a clause than it has
free_count-le : (entries : List (Option ℕ)) → free_count entries ≤ length entries
free_count-le [] = omega arith
free_count-le (None ∷ entries) = let l = free_count-le entries in omega arith
free_count-le (Some i ∷ entries) = let l = free_count-le entries in omega arith

pub forced-few : (p : Problem) (s : State) (q k j : ℕ) (t : List ℕ) → q < length p.predicates → k < length (predicate_at p.predicates q).clauses
    → fires_at p s (Forced q k j) t ≡ true → length t ≤ 8
forced-few p s q k j t lq lk h =
    let many = (forced-parts p s q k j t h).tuple.many in
    let free = free_count-le (clause_at p q k).variables in
    let few = few_variables p q k lq lk in
    omega (arith, many, free, few)
