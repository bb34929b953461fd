-- Each effect lowers the rank.
use Rattle.std.proofs.Common.{◌≡◌, ℕ, zero, suc, ◌≤◌, ◌<◌, true, false, ◌&&◌, Option, Some, None, length, refl, inl, inr, sym, ap, ◌∙◌, subst, arith, true≢false}
use Rattle.std.specs.FinSet.{difference, intersection, len}
use Rattle.std.proofs.lemmas.Bool.{and_parts, cases_Bool, not-true, eq-eqb, leb-true, ltb-true}
use Rattle.std.proofs.lemmas.List.{length-set}
use Rattle.std.proofs.lemmas.List.Sums.{sum_by-set}
use Rattle.rf_bounds.specs.declared.TheConstants.{GREATEST_NUMBER}
use Rattle.rf_finite.specs.Ends.{within}
use Rattle.rf_finite.proofs.Range.{below_or_last}
use Rattle.rf_values.specs.ClassSet.{is_same_set}
use Rattle.rf_values.specs.Count.{lesser_end, meet}
use Rattle.rf_values.specs.Truth.{merge}
use Rattle.rf_values.specs.declared.class_set.ClassSet.{ClassSet}
use Rattle.rf_values.specs.declared.truth.Truth.{Truth}
use Rattle.rf_values.specs.declared.truth.Truth.TheVariants.{True, False, Unknown, Error}
use Rattle.rf_problem.specs.declared.problem.Problem.{Problem}
use Rattle.rf_state.specs.State.{State, is_at, merged_at, no_object, object_of, with_object}
use Rattle.rf_state.specs.declared.object.Object.{Object}
use Rattle.rf_rules.specs.Applying.{IsApplicable}
use Rattle.rf_rules.specs.Effects.{after_effect, has_effect, is_close, is_same_truth}
use Rattle.rf_rules.specs.Rules.{fits, instance_of}
use Rattle.rf_rules.specs.declared.effect.Effect.{Effect}
use Rattle.rf_rules.specs.declared.effect.Effect.TheVariants.{AtLeast, AtMost, Close, Keep, Lose, Merge}
use Rattle.rf_rules.proofs.ApplyLemmas.{effect_is_applicable}
use Rattle.rf_rules.proofs.EffectLemmas.{intersection-difference}
use Rattle.rf_rules.proofs.RuleLemmas.{closing_closes}
use Rattle.rf_search.specs.Laws.{RuleNarrows}
use Rattle.rf_search.specs.Rank.{end_rank, facts_rank, object_rank, rank, total_below, truth_rank}
use Rattle.rf_search.proofs.SetLemmas.{part-fewer}

total-le : (n : ℕ) (f g : ℕ → ℕ) → ((k : ℕ) → k < n → f k ≤ g k) → total_below n f ≤ total_below n g
total-le zero f g h = omega arith
total-le (suc n) f g h = let rest = total-le n f g (λ k l. h k (omega arith)) in let here = h n (omega arith) in omega arith

total-less : (n : ℕ) (f g : ℕ → ℕ) (j : ℕ) → ((k : ℕ) → k < n → f k ≤ g k) → j < n → f j < g j → total_below n f < total_below n g
total-less zero f g j h l less = absurd (omega arith)
total-less (suc n) f g j h l less = elim (below_or_last n j l) [
  | inl lt ↦ (let rest = total-less n f g j (λ k m. h k (omega arith)) lt less in let here = h n (omega arith) in omega arith)
  | inr e ↦ (let rest = total-le n f g (λ k m. h k (omega arith)) in let here : f n < g n = subst (λ m. f m < g m) e less in omega arith)
]

object-less : (p : Problem) (s : State) (o : ℕ) (x : Object) → o < length s.objects → object_rank x < object_rank (object_of s o) → rank p (with_object s o x) < rank p s
object-less p s o x l less =
    let e = sum_by-set object_rank s.objects o x no_object l in
    let facts : facts_rank (length p.references) (length (with_object s o x).objects) s.added ≡ facts_rank (length p.references) (length s.objects) s.added =
    ap (λ n. facts_rank (length p.references) n s.added) (length-set s.objects o x) in
    omega arith

upper-less : (n : ℕ) (u : Option ℕ) → n ≤ GREATEST_NUMBER → within (suc n) u ≡ true → end_rank (lesser_end u (Some n)) < end_rank u
upper-less n None small h = omega arith
upper-less n (Some e) small h = let k = leb-true (suc n) e h in omega arith

lower-same : (u : Option ℕ) → lesser_end u None ≡ u
lower-same None = refl
lower-same (Some e) = refl

truth-le : (v w : Truth) → truth_rank (merge v w) ≤ truth_rank v
truth-le True True = omega arith
truth-le True False = omega arith
truth-le True Unknown = omega arith
truth-le True Error = omega arith
truth-le False True = omega arith
truth-le False False = omega arith
truth-le False Unknown = omega arith
truth-le False Error = omega arith
truth-le Unknown True = omega arith
truth-le Unknown False = omega arith
truth-le Unknown Unknown = omega arith
truth-le Unknown Error = omega arith
truth-le Error True = omega arith
truth-le Error False = omega arith
truth-le Error Unknown = omega arith
truth-le Error Error = omega arith

truth-less : (v w : Truth) → is_same_truth (merge v w) v ≡ false → truth_rank (merge v w) < truth_rank v
truth-less True True h = absurd (true≢false h)
truth-less True False h = omega arith
truth-less True Unknown h = absurd (true≢false h)
truth-less True Error h = omega arith
truth-less False True h = omega arith
truth-less False False h = absurd (true≢false h)
truth-less False Unknown h = absurd (true≢false h)
truth-less False Error h = omega arith
truth-less Unknown True h = omega arith
truth-less Unknown False h = omega arith
truth-less Unknown Unknown h = absurd (true≢false h)
truth-less Unknown Error h = omega arith
truth-less Error True h = absurd (true≢false h)
truth-less Error False h = absurd (true≢false h)
truth-less Error Unknown h = absurd (true≢false h)
truth-less Error Error h = absurd (true≢false h)

fact-less : (p : Problem) (s : State) (r a b : ℕ) (v : Truth) → r < length p.references → a < length s.objects → b < length s.objects
    → is_same_truth (merge (s.added r a b) v) (s.added r a b) ≡ false → rank p (merged_at s r a b v) < rank p s
fact-less p s r a b v lr la lb differs =
    let new : ℕ → ℕ → ℕ → Truth = (merged_at s r a b v).added in
    let le : (q x y : ℕ) → truth_rank (new q x y) ≤ truth_rank (s.added q x y) = λ q x y. elim (cases_Bool (is_at r a b q x y)) [
      | inl e ↦ rw e (truth-le (s.added q x y) v)
      | inr e ↦ rw e (omega arith)
    ] in
    let here : truth_rank (new r a b) < truth_rank (s.added r a b) = rw (eq-eqb r r refl, eq-eqb a a refl, eq-eqb b b refl) (truth-less (s.added r a b) v differs) in
    let n = length s.objects in
    let facts : facts_rank (length p.references) n new < facts_rank (length p.references) n s.added =
    total-less (length p.references) _ (λ q. total_below n (λ x. total_below n (λ y. truth_rank (s.added q x y)))) r
    (λ q l. total-le n _ (λ x. total_below n (λ y. truth_rank (s.added q x y))) (λ x m. total-le n _ (λ y. truth_rank (s.added q x y)) (λ y k. le q x y))) lr
    (total-less n _ (λ x. total_below n (λ y. truth_rank (s.added r x y))) a
    (λ x m. total-le n _ (λ y. truth_rank (s.added r x y)) (λ y k. le r x y)) la
    (total-less n _ (λ y. truth_rank (s.added r a y)) b (λ y k. le r a y) lb here)) in
    omega arith

kept-less : (p : Problem) (s : State) (o : ℕ) (set : ClassSet) → o < length s.objects → len (intersection (object_of s o).candidates set) < len (object_of s o).candidates
    → rank p (after_effect s (Keep o set)) < rank p s
kept-less p s o set l less = object-less p s o (record (object_of s o) { candidates = intersection (object_of s o).candidates set }) l (omega arith)

pub effect-less : (p : Problem) (s : State) (e : Effect) → is_close e ≡ false → IsApplicable p s e → has_effect s e ≡ true → rank p (after_effect s e) < rank p s
effect-less p s Close opened fits h = absurd (true≢false opened)
effect-less p s (AtMost o n) opened fits h =
    object-less p s o (record (object_of s o) { count = meet (object_of s o).count (record { lo = 0; hi = Some n }) }) fits.0
    (let u = upper-less n (object_of s o).count.hi (fits.1.upper n refl) h in omega arith)
effect-less p s (AtLeast o n) opened fits h =
    object-less p s o (record (object_of s o) { count = meet (object_of s o).count (record { lo = n; hi = None }) }) fits.0
    (let l = ltb-true (object_of s o).count.lo n h in let m = fits.1.lower in let u = ap end_rank (lower-same (object_of s o).count.hi) in omega arith)
effect-less p s (Keep o set) opened fits h = kept-less p s o set fits (part-fewer (object_of s o).candidates set (not-true _ h))
effect-less p s (Lose o set) opened fits h =
    (let left = intersection-difference (object_of s o).candidates set in
    kept-less p s o (difference (object_of s o).candidates set) fits
    (part-fewer (object_of s o).candidates (difference (object_of s o).candidates set)
    (subst (λ (kept : ClassSet). is_same_set kept (object_of s o).candidates ≡ false) (sym left) (not-true _ h))))
effect-less p s (Merge r a b v) opened fits h = fact-less p s r a b v fits.0 fits.1 fits.2 (not-true _ h)

pub rule_narrows : RuleNarrows
rule_narrows p s rule h open_rule =
    let parts = and_parts (fits p s rule) ((instance_of p s rule).holds && has_effect s (instance_of p s rule).effect) h in
    let ready = and_parts (instance_of p s rule).holds (has_effect s (instance_of p s rule).effect) parts.1 in
    effect-less p s (instance_of p s rule).effect (closing_closes p s rule ∙ open_rule) (effect_is_applicable p s rule h) ready.1
