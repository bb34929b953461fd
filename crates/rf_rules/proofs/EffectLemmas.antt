-- An effect has one exactly where the state after it is another, and it changes nothing else.
use Rattle.std.proofs.Common.{◌≡◌, ◌≢◌, ◌↔◌, ℕ, ◌<◌, suc, Bool, true, false, ◌&&◌, ◌==◌, not, nat_lt, min, max, Option, None, Some, length, refl, sym, ◌∙◌, ap, inl, inr, arith, rules, true≢false}
use Rattle.std.specs.FinSet.{contains, contains-difference, contains-intersection, difference, intersection, nat_cmp-IsAntisymmetric, same_set}
use Rattle.std.specs.Cmp.{nat_cmp_total}
use Rattle.std.proofs.lemmas.Bool.{and_parts, cases_Bool, eq-eqb, eqb-true, leb-false, leb-true, ltb-false, ltb-true, not-false, not-true, true_from_ne_false}
use Rattle.std.proofs.lemmas.Option.{same_Some}
use Rattle.std.proofs.lemmas.List.{get_or-set_same, set-get_or}
use Rattle.rf_finite.proofs.Range.{None-ne_Some}
use Rattle.rf_finite.specs.Ends.{within}
use Rattle.rf_values.specs.ClassSet.{is_same_set}
use Rattle.rf_values.specs.Count.{lesser_end, meet}
use Rattle.rf_values.specs.Truth.{merge}
use Rattle.rf_values.specs.declared.class_set.ClassSet.{ClassSet}
use Rattle.rf_values.specs.declared.count.Count.{Count}
use Rattle.rf_values.specs.declared.truth.Truth.{Truth}
use Rattle.rf_values.proofs.Marked.{equal_is_same}
use Rattle.rf_state.proofs.EditLemmas.{keeping, narrowing}
use Rattle.rf_state.specs.State.{State, is_at, kept_to, merged_at, narrowed, no_object, object_of, with_object}
use Rattle.rf_state.specs.declared.object.Object.{Object}
use Rattle.rf_rules.specs.Effects.{after_effect, has_effect, is_same_truth}
use Rattle.rf_rules.specs.Laws.{EffectChangesOne, EffectIsChange}
use Rattle.rf_rules.specs.declared.effect.Effect.TheVariants.{AtLeast, AtMost, Close, Keep, Lose, Merge}

pub effect_changes_one : EffectChangesOne
effect_changes_one p s Close there = refl
effect_changes_one p s (AtMost o n) there = narrowing p s o (record { lo = 0; hi = Some n }) there
effect_changes_one p s (AtLeast o n) there = narrowing p s o (record { lo = n; hi = None }) there
effect_changes_one p s (Keep o set) there = keeping p s o set there
effect_changes_one p s (Lose o set) there = keeping p s o (difference (object_of s o).candidates set) there
effect_changes_one p s (Merge r a b v) there = refl

-- a test says that something differs where it is false exactly of what is the same
differs_by : (b : Bool) (Same : Type 0) → (b ≡ true → Same → ⊥) → (b ≡ false → Same) → (b ≡ true) ↔ (Same → ⊥)
differs_by b Same differs same = (differs, λ other. true_from_ne_false b (λ e. other (same e)))

-- a state with another object is the same exactly where the object is
module _ (s : State) (o : ℕ) (object : Object) where
  with_object-same : object ≡ object_of s o → with_object s o object ≡ s
  with_object-same same = ap (with_object s o) same ∙ ap (λ xs. record s { objects = xs }) (set-get_or s.objects o no_object)

  object-same : o < length s.objects → with_object s o object ≡ s → object ≡ object_of s o
  object-same there same = sym (get_or-set_same s.objects o object no_object there) ∙ ap (λ u. object_of u o) same

-- a lesser upper end
lesser_end-other : (n : ℕ) (end : Option ℕ) → within (suc n) end ≡ true → lesser_end end (Some n) ≡ end → ⊥
lesser_end-other n None h e = None-ne_Some (sym e)
lesser_end-other n (Some m) h e = (let above = leb-true (suc n) m h in let same : min m n ≡ m = same_Some (min m n) m e in omega arith)

lesser_end-same : (n : ℕ) (end : Option ℕ) → within (suc n) end ≡ false → lesser_end end (Some n) ≡ end
lesser_end-same n None h = absurd (true≢false h)
lesser_end-same n (Some m) h = (let below = leb-false (suc n) m h in let same : min m n ≡ m = omega arith in ap Some same)

-- a count of which only one end is narrowed
count-of : (c : Count) (lower : ℕ) (upper : Option ℕ) → lower ≡ c.lo → upper ≡ c.hi → record { lo = lower; hi = upper } ≡ c
count-of c lower upper low high = (ap (λ n. let d : Count = record { lo = n; hi = upper } in d) low) ∙ ap (λ e. record c { hi = e }) high

narrowed-same : (s : State) (o : ℕ) (count : Count) → meet (object_of s o).count count ≡ (object_of s o).count → narrowed s o count ≡ s
narrowed-same s o count same =
    with_object-same s o (record (object_of s o) { count = meet (object_of s o).count count }) (ap (λ c. record (object_of s o) { count = c }) same)

count-same : (s : State) (o : ℕ) (count : Count) → o < length s.objects → narrowed s o count ≡ s → meet (object_of s o).count count ≡ (object_of s o).count
count-same s o count there same =
    ap (λ x. x.count) (object-same s o (record (object_of s o) { count = meet (object_of s o).count count }) there same)

at_most-change : (s : State) (o n : ℕ) → o < length s.objects → (has_effect s (AtMost o n) ≡ true) ↔ (after_effect s (AtMost o n) ≢ s)
at_most-change s o n there =
    let c = (object_of s o).count in
    differs_by (within (suc n) c.hi) (after_effect s (AtMost o n) ≡ s)
    (λ h same. lesser_end-other n c.hi h (ap (λ d. d.hi) (count-same s o (record { lo = 0; hi = Some n }) there same)))
    (λ h. narrowed-same s o (record { lo = 0; hi = Some n }) (count-of c (max c.lo 0) (lesser_end c.hi (Some n)) (omega arith) (lesser_end-same n c.hi h)))

lesser_end-none : (end : Option ℕ) → lesser_end end None ≡ end
lesser_end-none None = refl
lesser_end-none (Some m) = refl

at_least-change : (s : State) (o n : ℕ) → o < length s.objects → (has_effect s (AtLeast o n) ≡ true) ↔ (after_effect s (AtLeast o n) ≢ s)
at_least-change s o n there =
    let c = (object_of s o).count in
    differs_by (nat_lt c.lo n) (after_effect s (AtLeast o n) ≡ s)
    (λ h same. let below = ltb-true c.lo n h in
    let low : max c.lo n ≡ c.lo = ap (λ d. d.lo) (count-same s o (record { lo = n; hi = None }) there same) in omega arith)
    (λ h. let above = ltb-false c.lo n h in
    narrowed-same s o (record { lo = n; hi = None }) (count-of c (max c.lo n) (lesser_end c.hi None) (omega arith) (lesser_end-none c.hi)))

-- candidates that are kept
pub candidates-same : (s : State) (o : ℕ) (set : ClassSet) → o < length s.objects → kept_to s o set ≡ s → intersection (object_of s o).candidates set ≡ (object_of s o).candidates
candidates-same s o set there same =
    ap (λ x. x.candidates) (object-same s o (record (object_of s o) { candidates = intersection (object_of s o).candidates set }) there same)

kept_to-same : (s : State) (o : ℕ) (set : ClassSet) → intersection (object_of s o).candidates set ≡ (object_of s o).candidates → kept_to s o set ≡ s
kept_to-same s o set same =
    with_object-same s o (record (object_of s o) { candidates = intersection (object_of s o).candidates set }) (ap (λ cs. record (object_of s o) { candidates = cs }) same)

keep-change : (s : State) (o : ℕ) (set : ClassSet) → o < length s.objects → (has_effect s (Keep o set) ≡ true) ↔ (after_effect s (Keep o set) ≢ s)
keep-change s o set there =
    let own = (object_of s o).candidates in
    let equal = equal_is_same (intersection own set) own in
    differs_by (has_effect s (Keep o set)) (after_effect s (Keep o set) ≡ s)
    (λ h same. true≢false (sym (equal.1 (candidates-same s o set there same)) ∙ not-true (is_same_set (intersection own set) own) h))
    (λ h. kept_to-same s o set (equal.0 (not-false (is_same_set (intersection own set) own) h)))

-- what is left of a set is in it
both_of_and : (x y : Bool) → (x && (x && y)) ≡ (x && y)
both_of_and true y = refl
both_of_and false y = refl

pub intersection-difference : (own set : ClassSet) → intersection own (difference own set) ≡ difference own set
intersection-difference own set = same_set nat_cmp_total nat_cmp-IsAntisymmetric (intersection own (difference own set)) (difference own set) (λ c.
    let left = contains-difference nat_cmp_total own set c in
    rw (contains-intersection nat_cmp_total own (difference own set) c, left) (both_of_and (contains own c) (not (contains set c))))

lose-change : (s : State) (o : ℕ) (set : ClassSet) → o < length s.objects → (has_effect s (Lose o set) ≡ true) ↔ (after_effect s (Lose o set) ≢ s)
lose-change s o set there =
    let own = (object_of s o).candidates in
    let left = difference own set in
    let same_left = intersection-difference own set in
    let equal = equal_is_same left own in
    differs_by (has_effect s (Lose o set)) (after_effect s (Lose o set) ≡ s)
    (λ h same. true≢false (sym (equal.1 (sym same_left ∙ candidates-same s o left there same)) ∙ not-true (is_same_set left own) h))
    (λ h. kept_to-same s o left (same_left ∙ equal.0 (not-false (is_same_set left own) h)))

-- merged facts
same_truth : (v w : Truth) → is_same_truth v w ≡ true → v ≡ w
same_truth v w h = search rules

truth_itself : (v : Truth) → is_same_truth v v ≡ true
truth_itself v = search rules

module _ (s : State) (r a b : ℕ) (v : Truth) where
  added-at : (merged_at s r a b v).added r a b ≡ merge (s.added r a b) v
  added-at = rw (eq-eqb r r refl, eq-eqb a a refl, eq-eqb b b refl) refl

  merged_at-same : merge (s.added r a b) v ≡ s.added r a b → merged_at s r a b v ≡ s
  merged_at-same same = ap (λ f. record s { added = f }) (λ j q x y. each q x y j)
    where
      each : (q x y : ℕ) → (merged_at s r a b v).added q x y ≡ s.added q x y
      each q x y = elim (cases_Bool (is_at r a b q x y)) [
        | inl e ↦ (
            let one = and_parts (q == r) (x == a && y == b) e in
            let two = and_parts (x == a) (y == b) one.1 in
            let here : merge (s.added q x y) v ≡ s.added q x y = rw (eqb-true q r one.0, eqb-true x a two.0, eqb-true y b two.1) same in
            rw e here)
        | inr e ↦ rw e refl
      ]

  merge-change : (has_effect s (Merge r a b v) ≡ true) ↔ (after_effect s (Merge r a b v) ≢ s)
  merge-change =
      let before = s.added r a b in
      differs_by (has_effect s (Merge r a b v)) (merged_at s r a b v ≡ s)
      (λ h same. true≢false (sym (ap (λ w. is_same_truth w before) (sym added-at ∙ ap (λ u. u.added r a b) same) ∙ truth_itself before)
      ∙ not-true (is_same_truth (merge before v) before) h))
      (λ h. merged_at-same (same_truth (merge before v) before (not-false (is_same_truth (merge before v) before) h)))

pub effect_is_change : EffectIsChange
effect_is_change s Close there opened = absurd (true≢false opened)
effect_is_change s (AtMost o n) there opened = at_most-change s o n there
effect_is_change s (AtLeast o n) there opened = at_least-change s o n there
effect_is_change s (Keep o set) there opened = keep-change s o set there
effect_is_change s (Lose o set) there opened = lose-change s o set there
effect_is_change s (Merge r a b v) there opened = merge-change s r a b v
