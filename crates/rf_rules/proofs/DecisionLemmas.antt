-- Each side of an allowed decision is another state.
use Rattle.std.proofs.Common.{◌≡◌, ◌≢◌, ℕ, ◌<◌, Bool, true, false, ◌&&◌, ◌||◌, ◌==◌, not, nat_lt, Option, None, Some, length, refl, sym, ◌∙◌, ap, inl, inr, arith, true≢false}
use Rattle.std.specs.Cmp.{nat_cmp_total}
use Rattle.std.specs.FinSet.{contains, contains-difference, contains-intersection, difference}
use Rattle.std.proofs.lemmas.Bool.{and_parts, eqb-true, le-leb, leb-true, ltb-true, not-true, or_cases}
use Rattle.rf_finite.proofs.Range.{all_below-from_each, one-from_some_below}
use Rattle.rf_finite.specs.Ends.{within}
use Rattle.rf_values.specs.Count.{ends_at}
use Rattle.rf_values.specs.declared.truth.Truth.{Truth}
use Rattle.rf_values.specs.declared.truth.Truth.TheVariants.{False, True}
use Rattle.rf_problem.specs.Classes.{is_below}
use Rattle.rf_problem.specs.declared.problem.Problem.{Problem}
use Rattle.rf_state.proofs.EditLemmas.{fresh_is}
use Rattle.rf_state.specs.State.{State, all_candidates, fact, fresh_of, object_of, some_candidate}
use Rattle.rf_rules.specs.Decisions.{fits, is_open, side}
use Rattle.rf_rules.specs.Effects.{after_effect}
use Rattle.rf_rules.specs.Laws.{SidesDiffer}
use Rattle.rf_rules.specs.Words.{classes_below, hi, is_one, is_unknown, lo}
use Rattle.rf_rules.specs.declared.decision.Decision.TheVariants.{Fresh, Kind, Ref}
use Rattle.rf_rules.specs.declared.effect.Effect.TheVariants.{AtMost, Merge}
use Rattle.rf_rules.proofs.ClassLemmas.{contains-classes_where}
use Rattle.rf_rules.proofs.EffectLemmas.{candidates-same, effect_is_change, intersection-difference}
use Rattle.rf_rules.proofs.MergeLemmas.{changes-where_unknown}

-- a fresh object is one more
fresh_differs : (p : Problem) (s : State) (o : ℕ) → o < length s.objects → fresh_of s o ≢ s
fresh_differs p s o there same =
    let many = (fresh_is p s o there).many in
    let as_many : length (fresh_of s o).objects ≡ length s.objects = ap (λ u. length u.objects) same in
    omega arith

-- an object that may have a node loses it
within_one : (low : ℕ) (end : Option ℕ) → (within 2 end || (low == 0 && ends_at 1 end)) ≡ true → within 1 end ≡ true
within_one low None h = refl
within_one low (Some n) h = elim (or_cases (within 2 (Some n)) (low == 0 && n == 1) h) [
  | inl two ↦ (let least = leb-true 2 n two in le-leb 1 n (omega arith))
  | inr one ↦ (let is = eqb-true n 1 (and_parts (low == 0) (n == 1) one).1 in le-leb 1 n (omega arith))
]

none_differs : (p : Problem) (s : State) (o : ℕ) → o < length s.objects → is_open p s (Fresh o) ≡ true → side p s (Fresh o) false ≢ s
none_differs p s o there h = (effect_is_change s (AtMost o 0) there refl).0 (within_one (lo s o) (hi s o) h)

-- what a test leaves as it is passes it
follows : (x y : Bool) → (x && y) ≡ x → (not x || y) ≡ true
follows true y e = e
follows false y e = refl

-- the candidates below a class are neither all nor none
module _ (p : Problem) (s : State) (o k : ℕ) (there : o < length s.objects) where
  kept_differs : all_candidates p s o k ≡ false → side p s (Kind o k) true ≢ s
  kept_differs some_not same = true≢false (sym (all_below-from_each (length p.classes) _ each) ∙ some_not)
    where
      each : (c : ℕ) → c < length p.classes → (not (contains (object_of s o).candidates c) || is_below p.classes c k) ≡ true
      each c l =
          let own = (object_of s o).candidates in
          let kept = contains-intersection nat_cmp_total own (classes_below p k) c ∙ ap (λ b. contains own c && b) (contains-classes_where p (λ c. is_below p.classes c k) c l) in
          follows (contains own c) (is_below p.classes c k) (sym kept ∙ ap (λ set. contains set c) (candidates-same s o (classes_below p k) there same))

  lost_differs : some_candidate p s o k ≡ true → side p s (Kind o k) false ≢ s
  lost_differs some same =
      let own = (object_of s o).candidates in
      let below = classes_below p k in
      let one = one-from_some_below (length p.classes) (λ c. contains own c && is_below p.classes c k) some in
      let c = one.0 in
      let parts = and_parts (contains own c) (is_below p.classes c k) one.2 in
      let among = contains-classes_where p (λ c. is_below p.classes c k) c one.1 ∙ parts.1 in
      let left : difference own below ≡ own = sym (intersection-difference own below) ∙ candidates-same s o (difference own below) there same in
      let both = sym (contains-difference nat_cmp_total own below c) ∙ ap (λ set. contains set c) left ∙ parts.0 in
      true≢false (sym among ∙ not-true (contains below c) (and_parts (contains own c) (not (contains below c)) both).1)

-- nothing was added of an edge of which nothing is known
module _ (p : Problem) (s : State) (r a b : ℕ) (unknown : is_unknown (fact p s r a b) ≡ true) where
  merged_differs : (v : Truth) → is_unknown v ≡ false → after_effect s (Merge r a b v) ≢ s
  merged_differs v known = (effect_is_change s (Merge r a b v) tt refl).0 (changes-where_unknown p s r a b v unknown known)

  ref_differs : (first : Bool) → side p s (Ref r a b) first ≢ s
  ref_differs true = merged_differs True refl
  ref_differs false = merged_differs False refl

pub sides_differ : SidesDiffer
sides_differ p s (Fresh o) first h =
    let parts = and_parts (fits p s (Fresh o)) (is_open p s (Fresh o)) h in
    let there = ltb-true o (length s.objects) parts.0 in
    fresh_side first there parts.1
  where
    fresh_side : (first : Bool) → o < length s.objects → is_open p s (Fresh o) ≡ true → side p s (Fresh o) first ≢ s
    fresh_side true there h = fresh_differs p s o there
    fresh_side false there h = none_differs p s o there h
sides_differ p s (Kind o k) first h =
    let parts = and_parts (fits p s (Kind o k)) (is_open p s (Kind o k)) h in
    let there = ltb-true o (length s.objects) (and_parts (nat_lt o (length s.objects)) (nat_lt k (length p.classes)) parts.0).0 in
    let split = and_parts (some_candidate p s o k) (not (all_candidates p s o k)) (and_parts (is_one s o) (some_candidate p s o k && not (all_candidates p s o k)) parts.1).1 in
    kind_side first there split.0 (not-true (all_candidates p s o k) split.1)
  where
    kind_side : (first : Bool) → o < length s.objects → some_candidate p s o k ≡ true → all_candidates p s o k ≡ false → side p s (Kind o k) first ≢ s
    kind_side true there some some_not = kept_differs p s o k there some_not
    kind_side false there some some_not = lost_differs p s o k there some
sides_differ p s (Ref r a b) first h =
    let open_edge = (and_parts (fits p s (Ref r a b)) (is_open p s (Ref r a b)) h).1 in
    let rest = (and_parts (is_one s a) (is_one s b && is_unknown (fact p s r a b)) open_edge).1 in
    ref_differs p s r a b (and_parts (is_one s b) (is_unknown (fact p s r a b)) rest).1 first
