-- In a final state each count is 1 to 1 or 0 to 0, and each class and each fact of single objects is settled.
use Rattle.std.proofs.Common.{◌≡◌, ℕ, suc, ◌≤◌, ◌<◌, Bool, true, false, cond, not, ◌&&◌, ◌||◌, ◌==◌, Option, Some, None, length, ◌⊎◌, refl, sym, ap, ◌∙◌, inl, inr, arith, true≢false}
use Rattle.std.specs.Prelude.{nat_le, nat_lt}
use Rattle.std.specs.Cmp.{nat_cmp_total}
use Rattle.std.specs.FinSet.{contains as contains_class, contains-difference, difference}
use Rattle.std.proofs.lemmas.Bool.{and_from, and_parts, or_parts, cases_lt, not-true, not_from_false, false_from_ne_true, true_from_ne_false, both_ways, eq-eqb, leb-true, leb-false, le-leb, lt-ltb}
use Rattle.rf_finite.specs.Ends.{within}
use Rattle.rf_finite.proofs.Range.{one-from_some_below}
use Rattle.rf_values.specs.ClassSet.{is_same_set}
use Rattle.rf_values.specs.Count.{ends_at}
use Rattle.rf_values.specs.declared.truth.Truth.TheVariants.{True, False}
use Rattle.rf_values.proofs.Marked.{equal_is_same}
use Rattle.rf_problem.specs.declared.problem.Problem.{Problem}
use Rattle.rf_state.specs.State.{State, all_candidates, fact, object_of, some_candidate}
use Rattle.rf_rules.specs.Decisions.{allowed}
use Rattle.rf_rules.specs.Effects.{has_effect, is_ready}
use Rattle.rf_rules.specs.Rules.{fires, fits, instance_of, is_edge, is_object}
use Rattle.rf_rules.specs.Words.{any_candidate, classes_where, hi, is_error, is_one, is_unknown, lo}
use Rattle.rf_rules.specs.declared.decision.Decision.TheVariants.{Fresh, Kind, Ref}
use Rattle.rf_rules.specs.declared.rule.End.TheVariants.{Target}
use Rattle.rf_rules.specs.declared.rule.Rule.{Rule}
use Rattle.rf_rules.specs.declared.rule.Rule.TheVariants.{Clash, Empty, NoClass}
use Rattle.rf_rules.proofs.ClassLemmas.{contains-classes_where}
use Rattle.rf_tree.specs.Saturated.{IsFinal}
use Rattle.rf_final.proofs.Truths.{true_or_false}

-- the count is 1 to 1, or 0 to 0
abbrev pub IsOne : State → ℕ → Type 0
IsOne s o = (lo s o ≡ 1) × (hi s o ≡ Some 1)

abbrev pub IsNone : State → ℕ → Type 0
IsNone s o = (lo s o ≡ 0) × (hi s o ≡ Some 0)

one_or_none : (l : ℕ) (u : Option ℕ) → within l u ≡ true → within 2 u ≡ false → (l == 0 && ends_at 1 u) ≡ false
    → ((l ≡ 1) × (u ≡ Some 1)) ⊎ ((l ≡ 0) × (u ≡ Some 0))
one_or_none l None i t z = absurd (true≢false t)
one_or_none l (Some e) i t z =
    let a = leb-true l e i in let b = leb-false 2 e t in
    elim (cases_lt e 1) [
      | inl lt ↦ inr (omega arith, ap Some (omega arith))
      | inr ge ↦ elim (cases_lt l 1) [
        | inl none ↦ absurd (both_ways (l == 0 && e == 1) z (and_from (l == 0) (e == 1) (eq-eqb l 0 (omega arith))
            (eq-eqb e 1 (omega arith))))
        | inr some ↦ inl (omega arith, ap Some (omega arith))
      ]
    ]

pub single_from : (s : State) (o : ℕ) → IsOne s o → is_one s o ≡ true
single_from s o e = rw (e.0, e.1) refl

none_single : (s : State) (o : ℕ) → IsNone s o → is_one s o ≡ false
none_single s o e = rw e.0 refl

module _ (p : Problem) (s : State) (f : IsFinal p s) where
  -- where what a rule asks for holds, it would change nothing
  pub quiet : (rule : Rule) → fits p s rule ≡ true → (instance_of p s rule).holds ≡ true
      → has_effect s (instance_of p s rule).effect ≡ false
  quiet rule r c = false_from_ne_true (has_effect s (instance_of p s rule).effect) (λ h. both_ways (fires p s rule) (f.saturated rule)
      (and_from (fits p s rule) (is_ready s (instance_of p s rule)) r (and_from (instance_of p s rule).holds
      (has_effect s (instance_of p s rule).effect) c h)))

  pub edge_there : (r a b : ℕ) → r < length p.references → a < length s.objects → b < length s.objects → is_edge p s r a b ≡ true
  edge_there r a b lr la lb = and_from (nat_lt r (length p.references)) (is_object s a && is_object s b) (lt-ltb r (length p.references) lr)
      (and_from (is_object s a) (is_object s b) (lt-ltb a (length s.objects) la) (lt-ltb b (length s.objects) lb))

  pub counts : (o : ℕ) → o < length s.objects → IsOne s o ⊎ IsNone s o
  counts o l =
      let there = lt-ltb o (length s.objects) l in
      let inside = true_from_ne_false (within (lo s o) (hi s o)) (λ e. true≢false
      (quiet (Empty o) there (not_from_false (within (lo s o) (hi s o)) e))) in
      let open_count = within 2 (hi s o) || (lo s o == 0 && ends_at 1 (hi s o)) in
      let no = or_parts (within 2 (hi s o)) (lo s o == 0 && ends_at 1 (hi s o))
      (false_from_ne_true open_count (λ h. both_ways (allowed p s (Fresh o)) (f.decided (Fresh o))
      (and_from (is_object s o) open_count there h))) in
      one_or_none (lo s o) (hi s o) inside no.0 no.1

  pub single_counts : (o : ℕ) → o < length s.objects → is_one s o ≡ true → IsOne s o
  single_counts o l h = elim (counts o l) [ inl e ↦ e | inr e ↦ absurd (both_ways (is_one s o) (none_single s o e) h) ]

  pub lower_is : (o : ℕ) → o < length s.objects → lo s o ≡ cond (is_one s o) 1 0
  lower_is o l = elim (counts o l) [ inl e ↦ rw (single_from s o e) e.0 | inr e ↦ rw (none_single s o e) e.0 ]

  pub upper_is : (o : ℕ) → o < length s.objects → hi s o ≡ Some (cond (is_one s o) 1 0)
  upper_is o l = elim (counts o l) [ inl e ↦ rw (single_from s o e) e.1 | inr e ↦ rw (none_single s o e) e.1 ]

  pub single_low : (o : ℕ) → o < length s.objects → is_one s o ≡ true → nat_le 1 (lo s o) ≡ true
  single_low o l single = let low = (single_counts o l single).0 in le-leb 1 (lo s o) (omega arith)

  -- a bound that wouldn't change the count of a single object is at least 1
  pub not_less : (o n : ℕ) → o < length s.objects → is_one s o ≡ true → within (suc n) (hi s o) ≡ false → 1 ≤ n
  not_less o n l single w = let u = (single_counts o l single).1 in let k = leb-false (suc n) 1 (rw u at w) in omega arith

  -- candidates of which none is to be lost don't pass
  pub not_lost : (o c : ℕ) (test : ℕ → Bool)
      → not (is_same_set (difference (object_of s o).candidates (classes_where p test)) (object_of s o).candidates) ≡ false
      → c < length p.classes → contains_class (object_of s o).candidates c ≡ true → test c ≡ false
  not_lost o c test same l there =
      let own = (object_of s o).candidates in let lost = classes_where p test in
      let is = (equal_is_same (difference own lost) own).0 (true_from_ne_false (is_same_set (difference own lost) own) (λ e.
      both_ways (not (is_same_set (difference own lost) own)) same (not_from_false (is_same_set (difference own lost) own) e))) in
      let kept = and_parts (contains_class own c) (not (contains_class lost c))
      (sym (contains-difference nat_cmp_total own lost c) ∙ (ap (λ set. contains_class set c) is ∙ there)) in
      sym (contains-classes_where p test c l) ∙ not-true (contains_class lost c) kept.1

  -- a single object has a candidate
  pub has_candidate : (o : ℕ) → o < length s.objects → is_one s o ≡ true → any_candidate p s o (λ c. true) ≡ true
  has_candidate o l single = true_from_ne_false (any_candidate p s o (λ c. true)) (λ e.
      let k = not_less o 0 l single (quiet (NoClass o) (lt-ltb o (length s.objects) l)
      (not_from_false (any_candidate p s o (λ c. true)) e)) in absurd (omega arith))

  pub one_candidate : (o : ℕ) → o < length s.objects → is_one s o ≡ true
      → (c : ℕ) × (c < length p.classes) × (contains_class (object_of s o).candidates c ≡ true)
  one_candidate o l single =
      let r = one-from_some_below (length p.classes) (λ c. contains_class (object_of s o).candidates c && true)
      (has_candidate o l single) in
      (r.0, r.1, (and_parts (contains_class (object_of s o).candidates r.0) true r.2).0)

  -- the candidates of a single object are all below a class, or none is
  pub some_each : (o k : ℕ) → k < length p.classes → o < length s.objects → is_one s o ≡ true → some_candidate p s o k ≡ true
      → all_candidates p s o k ≡ true
  some_each o k lk l single h = true_from_ne_false (all_candidates p s o k) (λ e. both_ways (allowed p s (Kind o k)) (f.decided (Kind o k))
      (and_from (is_object s o && nat_lt k (length p.classes)) (is_one s o && (some_candidate p s o k && not (all_candidates p s o k)))
      (and_from (is_object s o) (nat_lt k (length p.classes)) (lt-ltb o (length s.objects) l) (lt-ltb k (length p.classes) lk))
      (and_from (is_one s o) (some_candidate p s o k && not (all_candidates p s o k)) single
      (and_from (some_candidate p s o k) (not (all_candidates p s o k)) h (not_from_false (all_candidates p s o k) e)))))

  -- what is known of an edge between single objects is true or false
  pub fact_settled : (r a b : ℕ) → r < length p.references → a < length s.objects → b < length s.objects → is_one s a ≡ true
      → is_one s b ≡ true
      → (fact p s r a b ≡ True) ⊎ (fact p s r a b ≡ False)
  fact_settled r a b lr la lb sa sb = true_or_false (fact p s r a b)
      (false_from_ne_true (is_unknown (fact p s r a b)) (λ e. both_ways (allowed p s (Ref r a b)) (f.decided (Ref r a b))
      (and_from (is_edge p s r a b) (is_one s a && (is_one s b && is_unknown (fact p s r a b))) (edge_there r a b lr la lb)
      (and_from (is_one s a) (is_one s b && is_unknown (fact p s r a b)) sa (and_from (is_one s b) (is_unknown (fact p s r a b)) sb e)))))
      (false_from_ne_true (is_error (fact p s r a b)) (λ e.
      let k = not_less b 0 lb sb (quiet (Clash r a b Target) (edge_there r a b lr la lb)
      (and_from (is_error (fact p s r a b)) (nat_le 1 (lo s a)) e (single_low a la sa))) in absurd (omega arith)))
