-- What can be settled in a state in which no rule fires.
use Rattle.std.proofs.Common.{◌≡◌, ℕ, zero, suc, ◌+◌, ◌-◌, ◌*◌, ◌≤◌, ◌<◌, true, false, not, ◌||◌, nat_le, nat_lt, Option, Some, None, length, ◌⊎◌, refl, sym, ap, ◌∙◌, inl, inr, arith, true≢false}
use Rattle.std.specs.Prelude.{is_some}
use Rattle.std.specs.FinSet.{contains}
use Rattle.std.specs.Option.{option_map}
use Rattle.std.proofs.lemmas.Bool.{and_from, and_parts, both_ways, cases_lt, false_from_ne_true, leb-false, leb-true, lt-ltb, not_from_false, not_from_true, or_left, or_right, true_from_ne_false}
use Rattle.std.proofs.lemmas.List.{length-set}
use Rattle.std.proofs.lemmas.Nat.{mul-le}
use Rattle.std.proofs.lemmas.Option.{same_Some}
use Rattle.rf_finite.specs.Ends.{within}
use Rattle.rf_finite.specs.Range.{count_below, sum_below}
use Rattle.rf_finite.proofs.Range.{None-ne_Some, all_below-from_each, count_below-le, count_below-le_bound, sum_below-same}
use Rattle.rf_finite.proofs.Sums.{sum_below-without}
use Rattle.rf_values.specs.declared.class_set.ClassSet.{ClassSet}
use Rattle.rf_problem.specs.Classes.{is_concrete}
use Rattle.rf_problem.specs.Counted.{counts_origin, has_scope_class}
use Rattle.rf_problem.specs.Parts.{object_at, scope_at}
use Rattle.rf_problem.specs.Valid.{is_named}
use Rattle.rf_problem.specs.declared.problem.Problem.{Problem}
use Rattle.rf_state.specs.State.{State, fact, kept_to, object_of}
use Rattle.rf_rules.specs.Decisions.{allowed, side}
use Rattle.rf_rules.specs.Effects.{has_effect, is_ready}
use Rattle.rf_rules.specs.Rules.{fires, fits, instance_of}
use Rattle.rf_rules.specs.Scopes.{is_of_scope, is_surely_counted, scope_hi, sure_count_beside}
use Rattle.rf_rules.specs.Words.{classes_below, each_candidate, hi, lo}
use Rattle.rf_rules.specs.declared.decision.Decision.{Decision}
use Rattle.rf_rules.specs.declared.decision.Decision.TheVariants.{Fresh, Kind, Ref}
use Rattle.rf_rules.specs.declared.rule.Rule.{Rule}
use Rattle.rf_rules.specs.declared.rule.Rule.TheVariants.{Empty, ScopeTop}
use Rattle.rf_tree.specs.Saturated.{IsSaturated}
use Rattle.rf_depth.specs.Depth.{concrete_classes, counts_all, depth, depth_with, node_end}
use Rattle.rf_depth.specs.Measure.{IsKept, is_ended, is_known, is_lost, is_settled_to, is_tight, known, known_of, lost, lows, made, settled, tights}
use Rattle.rf_depth.proofs.NodeEnds.{node_scope}
use Rattle.rf_depth.proofs.Steps.{fresh_parts, is_input, side_kept, side_more, tight_before}
use Rattle.rf_depth.proofs.SumLemmas.{count_below-from, count_below-le_sum, count_below-missing, sum_below-times}

-- a sum is 0, or some term is at least 1
sum-some : (n : ℕ) (f : ℕ → ℕ) → (sum_below n (λ k. true) f ≡ 0) ⊎ ((k : ℕ) × (k < n) × (1 ≤ f k))
sum-some zero f = inl refl
sum-some (suc n) f = elim (sum-some n f) [
  | inl e ↦ (elim (cases_lt (f n) 1) [
    | inl lt ↦ inl (omega arith)
    | inr ge ↦ inr (n, omega arith, ge)
  ])
  | inr k ↦ (let l = k.1 in inr (k.0, omega arith, k.2))
]

class-none : (u : Option ℕ) → not (is_some u) ≡ true → u ≡ None
class-none None h = refl
class-none (Some k) h = absurd (true≢false (sym h))

low-room : (l m b : ℕ) (u : Option ℕ) → 1 ≤ l → within l u ≡ true → within (suc (m - b)) u ≡ false → l + b ≤ m
low-room l m b None one i t = absurd (true≢false t)
low-room l m b (Some e) one i t = let a = leb-true l e i in let c = leb-false (suc (m - b)) e t in omega arith

module _ (p : Problem) (s : State) (saturated : IsSaturated p s) where
  -- where what a rule asks for holds, its effect changes nothing
  quiet : (rule : Rule) → fits p s rule ≡ true → (instance_of p s rule).holds ≡ true → has_effect s (instance_of p s rule).effect ≡ false
  quiet rule numbers holds = false_from_ne_true (has_effect s (instance_of p s rule).effect) (λ h. both_ways (fires p s rule) (saturated rule)
      (and_from (fits p s rule) (is_ready s (instance_of p s rule)) numbers
      (and_from (instance_of p s rule).holds (has_effect s (instance_of p s rule).effect) holds h)))

  pub low_within : (o : ℕ) → o < length s.objects → within (lo s o) (hi s o) ≡ true
  low_within o l = true_from_ne_false (within (lo s o) (hi s o)) (λ e.
      true≢false (quiet (Empty o) (lt-ltb o (length s.objects) l) (not_from_false (within (lo s o) (hi s o)) e)))

  module _ (n z : ℕ) (lz : z < length p.scopes) (all : counts_all (scope_at p.scopes z) ≡ true) (end : (scope_at p.scopes z).range.hi ≡ Some n) where
    no_class : (scope_at p.scopes z).class ≡ None
    no_class = class-none (scope_at p.scopes z).class (and_parts (not (is_some (scope_at p.scopes z).class)) (not (scope_at p.scopes z).only_new) all).0

    each-of_scope : (c : ℕ) → is_of_scope p z c ≡ true
    each-of_scope c = ap (λ u. has_scope_class p u c) no_class

    -- a scope that counts all nodes surely counts each object
    counted : (o : ℕ) → is_surely_counted p s z o ≡ true
    counted o =
        let any = (and_parts (not (is_some (scope_at p.scopes z).class)) (not (scope_at p.scopes z).only_new) all).1 in
        and_from (counts_origin p (scope_at p.scopes z) (object_of s o).origin) (each_candidate p s o (is_of_scope p z))
        (or_left (not (scope_at p.scopes z).only_new) (not (is_named (object_at p.objects (object_of s o).origin).name)) any)
        (all_below-from_each (length p.classes) (λ c. not (contains (object_of s o).candidates c) || is_of_scope p z c)
        (λ c l. or_right (not (contains (object_of s o).candidates c)) (is_of_scope p z c) (each-of_scope c)))

    beside : (o : ℕ) → o < length s.objects → 1 ≤ lo s o → lo s o + sure_count_beside p s z o ≤ n
    beside o l one =
        let top = quiet (ScopeTop z o) (and_from (nat_lt z (length p.scopes)) (nat_lt o (length s.objects)) (lt-ltb z (length p.scopes) lz) (lt-ltb o (length s.objects) l))
        (and_from (is_some (scope_hi p z)) (is_surely_counted p s z o) (rw end refl) (counted o)) in
        low-room (lo s o) n (sure_count_beside p s z o) (hi s o) one (low_within o l) (rw end at top)

    lows-at : lows s ≤ n
    lows-at = elim (sum-some (length s.objects) (lo s)) [
      | inl e ↦ omega arith
      | inr k ↦ (
          let all = sum_below-same (length s.objects) (λ o. true) (is_surely_counted p s z) (lo s) (lo s) (λ o l. sym (counted o)) (λ o l. refl) in
          let split = sum_below-without (length s.objects) (is_surely_counted p s z) (lo s) k.0 k.1 (counted k.0) in
          let b = beside k.0 k.1 k.2 in
          omega arith)
    ]

  -- the lower ends add up to at most the bound
  pub lows_within : (n : ℕ) → node_end p.scopes ≡ Some n → lows s ≤ n
  lows_within n e = let z = node_scope p.scopes n e in lows-at n z.0 z.1 z.2 z.3

-- no more objects are tight than the lower ends add up to
tights-low : (s : State) → tights s ≤ lows s
tights-low s = count_below-le_sum (length s.objects) (is_tight s) (λ o. true) (lo s)
    (λ o l e. (refl, leb-true 1 (lo s o) (and_parts (nat_le 1 (lo s o)) (not (within 2 (hi s o))) e).0))

module _ (p : Problem) (s : State) (kept : IsKept p s) (n : ℕ) (few : tights s ≤ n) where
  made-few : made p s ≤ n
  made-few = let t = count_below-from (length p.objects) (length s.objects) (is_tight s) kept.copies in omega arith

  lost-few : lost p s ≤ n * concrete_classes p
  lost-few =
      let a = sum_below-times (length s.objects) (is_tight s) (λ o. count_below (length p.classes) (is_lost p s o)) (concrete_classes p)
      (λ o l e. count_below-le (length p.classes) (is_lost p s o) (is_concrete p.classes)
      (λ c lc h. (and_parts (is_concrete p.classes c) (not (contains (object_of s o).candidates c)) h).0)) in
      let b = mul-le (tights s) (concrete_classes p) n (concrete_classes p) few (omega arith) in
      omega arith

  known_of-few : (r : ℕ) → known_of p s r ≤ n * n
  known_of-few r =
      let a = sum_below-times (length s.objects) (is_tight s) (λ a. count_below (length s.objects) (is_settled_to p s r a)) (tights s)
      (λ a l e. count_below-le (length s.objects) (is_settled_to p s r a) (is_tight s)
      (λ b lb h. (and_parts (is_tight s b) (is_known (fact p s r a b)) h).0)) in
      let b = mul-le (tights s) (tights s) n n few few in
      omega arith

  known-few : known p s ≤ length p.references * (n * n)
  known-few =
      let a = sum_below-times (length p.references) (λ r. true) (known_of p s) (n * n) (λ r l e. known_of-few r) in
      let b = count_below-le_bound (length p.references) (λ r. true) in
      let c = mul-le (count_below (length p.references) (λ r. true)) (n * n) (length p.references) (n * n) b (omega arith) in
      omega arith

  -- no more is settled than the depth, and less where an object of the problem isn't ended
  settled-within : settled p s ≤ depth_with p n
  settled-within = let a = made-few in let b = count_below-le_bound (length p.objects) (is_ended s) in let c = lost-few in let d = known-few in omega arith

  settled-below : (o : ℕ) → o < length p.objects → is_ended s o ≡ false → settled p s < depth_with p n
  settled-below o l h =
      let a = made-few in
      let b = count_below-missing (length p.objects) (is_ended s) o l h in
      let c = lost-few in
      let d = known-few in
      omega arith

module _ (p : Problem) (s : State) (kept : IsKept p s) (n : ℕ) (few : tights s ≤ n) where
  few-kept : (o : ℕ) (set : ClassSet) → tights (kept_to s o set) ≤ n
  few-kept o set =
      let t = kept_to s o set in
      let len : length t.objects ≡ length s.objects = rw length-set refl in
      let a = count_below-le (length s.objects) (is_tight t) (is_tight s) (tight_before p s kept o set) in
      let b : tights t ≡ count_below (length s.objects) (is_tight t) = ap (λ m. count_below m (is_tight t)) len in
      omega arith

  -- where a decision is allowed there is less than the depth
  below-depth : (d : Decision) → allowed p s d ≡ true → settled p s < depth_with p n
  below-depth (Fresh o) a = let f = fresh_parts p s o a in
      settled-below p s kept n few o (is_input p s kept o f.0 f.1 f.2) (not_from_true (within 1 (hi s o)) f.1)
  below-depth (Kind o k) a =
      let more = side_more p s kept (Kind o k) true a in
      let most = settled-within p (side p s (Kind o k) true) (side_kept p s kept (Kind o k) true a) n (few-kept o (classes_below p k)) in
      omega arith
  below-depth (Ref r x y) a =
      let more = side_more p s kept (Ref r x y) true a in
      let most = settled-within p (side p s (Ref r x y) true) (side_kept p s kept (Ref r x y) true a) n few in
      omega arith

pub below_saturated : (p : Problem) (s : State) (d : Decision) (n : ℕ) → node_end p.scopes ≡ Some n → IsKept p s → IsSaturated p s → allowed p s d ≡ true
    → settled p s < depth_with p n
below_saturated p s d n e kept saturated a =
    let l = lows_within p s saturated n e in let t = tights-low s in below-depth p s kept n (omega arith) d a

-- the depth comes from a bound on all nodes
pub depth-is : (p : Problem) (d : ℕ) → depth p ≡ Some d → (n : ℕ) × (node_end p.scopes ≡ Some n) × (depth_with p n ≡ d)
depth-is p d h = from (node_end p.scopes) refl
  where
    from : (u : Option ℕ) → node_end p.scopes ≡ u → (n : ℕ) × (node_end p.scopes ≡ Some n) × (depth_with p n ≡ d)
    from None e = absurd (None-ne_Some (sym (ap (option_map (depth_with p)) e) ∙ h))
    from (Some n) e = (n, e, same_Some (depth_with p n) d (sym (ap (option_map (depth_with p)) e) ∙ h))
