-- Effects and decisions take away nothing that is settled, and decisions add to it.
use Rattle.std.proofs.Common.{◌≡◌, ◌≢◌, ℕ, zero, suc, ◌≤◌, ◌<◌, Bool, true, false, cond, not, ◌&&◌, ◌||◌, ◌==◌, nat_lt, nat_le, min, max, Option, Some, None, [], ◌∷◌, length, refl, sym, ap, ◌∙◌, subst, inl, inr, arith, true≢false}
use Rattle.std.proofs.lemmas.Bool.{and_parts, and_from, and_cases, and_left, and_right, or_cases, or_parts, or_left, or_right, cases_Bool, cases_eq, cases_lt, not-true, not-false, not_from_true, not_from_false, both_ways, false_from_ne_true, eqb-true, eqb-false, eq-eqb, ne_eqb, leb-true, leb-false, le-leb, ltb-true}
use Rattle.std.proofs.lemmas.List.{get_or-set_other, get_or-set_same, length-set}
use Rattle.std.specs.Cmp.{nat_cmp_total}
use Rattle.std.specs.FinSet.{contains, contains-difference, contains-intersection, difference, intersection}
use Rattle.rf_finite.specs.Ends.{within}
use Rattle.rf_finite.specs.Range.{all_below}
use Rattle.rf_finite.proofs.Range.{below_or_last, one-from_some_below}
use Rattle.rf_values.specs.Count.{ends_at, less_one, lesser_end, meet}
use Rattle.rf_values.specs.Truth.{merge}
use Rattle.rf_values.specs.declared.class_set.ClassSet.{ClassSet}
use Rattle.rf_values.specs.declared.count.Count.{Count}
use Rattle.rf_values.specs.declared.truth.Truth.{Truth}
use Rattle.rf_values.specs.declared.truth.Truth.TheVariants.{True, False}
use Rattle.rf_problem.specs.Asserted.{asserted}
use Rattle.rf_problem.specs.Classes.{is_below, is_concrete, may_have_class}
use Rattle.rf_problem.specs.Parts.{object_at, reference_at}
use Rattle.rf_problem.specs.declared.problem.Problem.{Problem}
use Rattle.rf_problem.specs.declared.symbol.Symbol.TheVariants.{Reference}
use Rattle.rf_state.specs.State.{IsRoot, State, all_candidates, by_classes, copied_from, fact, fresh_of, is_at, keeps_asserted, kept_to, merged_at, narrowed, no_object, object_of, some_candidate, told, told_back, with_object}
use Rattle.rf_state.specs.declared.object.Object.{Object}
use Rattle.rf_state.proofs.EditLemmas.{fresh_is}
use Rattle.rf_rules.specs.Decisions.{allowed, fits, is_open, side}
use Rattle.rf_rules.specs.Effects.{after_effect}
use Rattle.rf_rules.specs.Rules.{is_object}
use Rattle.rf_rules.specs.Words.{classes_below, hi, is_one, is_unknown, lo}
use Rattle.rf_rules.specs.declared.decision.Decision.{Decision}
use Rattle.rf_rules.specs.declared.decision.Decision.TheVariants.{Fresh, Kind, Ref}
use Rattle.rf_rules.specs.declared.effect.Effect.{Effect}
use Rattle.rf_rules.specs.declared.effect.Effect.TheVariants.{AtLeast, AtMost, Close, Keep, Lose, Merge}
use Rattle.rf_rules.proofs.ClassLemmas.{contains-classes_where}
use Rattle.rf_depth.specs.Measure.{IsKept, is_known, is_tight, settled}
use Rattle.rf_depth.proofs.Grows.{Grows, known-merge, more_ended, more_known, more_lost, more_made, settled-le}

abbrev firm : Count → Bool
firm c = nat_le 1 c.lo && not (within 2 c.hi)

abbrev over : Count → Bool
over c = not (within 1 c.hi)

-- an object in which all is settled that is settled in another
record IsFirmer (y x : Object) : Type 0 where
  origin : x.origin ≡ y.origin
  tight : firm y.count ≡ true → firm x.count ≡ true
  ends : over y.count ≡ true → over x.count ≡ true
  classes : (c : ℕ) → contains x.candidates c ≡ true → contains y.candidates c ≡ true

itself : (x : Object) → IsFirmer x x
itself x = record { origin = refl; tight = λ h. h; ends = λ h. h; classes = λ c h. h }

object_now : (s : State) (o : ℕ) (x : Object) (q : ℕ) → q < length s.objects → object_of (with_object s o x) q ≡ cond (q == o) x (object_of s q)
object_now s o x q l = elim (cases_Bool (q == o)) [
  | inl e ↦ (let same = eqb-true q o e in rw (e, same) (get_or-set_same s.objects o x no_object (omega arith)))
  | inr e ↦ (let ne : q ≢ o = eqb-false q o e in rw e (get_or-set_other s.objects o q x no_object ne))
]

firmer_at : (s : State) (o : ℕ) (x : Object) → IsFirmer (object_of s o) x → (q : ℕ) → q < length s.objects → IsFirmer (object_of s q) (object_of (with_object s o x) q)
firmer_at s o x f q l = subst (λ z. IsFirmer (object_of s q) z) (sym (object_now s o x q l)) (elim (cases_Bool (q == o)) [
  | inl e ↦ rw e (subst (λ q. IsFirmer (object_of s q) x) (sym (eqb-true q o e)) f)
  | inr e ↦ rw e (itself (object_of s q))
])

-- what an end excludes, a lesser one does
still_excluded : (k : ℕ) (u v : Option ℕ) → not (within k u) ≡ true → not (within k (lesser_end u v)) ≡ true
still_excluded k None v h = absurd (true≢false (sym h))
still_excluded k (Some e) None h = h
still_excluded k (Some e) (Some n) h = (let l = leb-false k e (not-true (nat_le k e) h) in
    not_from_false (nat_le k (min e n)) (false_from_ne_true (nat_le k (min e n)) (λ t. let m = leb-true k (min e n) t in absurd (omega arith))))

firm-meet : (c d : Count) → firm c ≡ true → firm (meet c d) ≡ true
firm-meet c d h =
    let both = and_parts (nat_le 1 c.lo) (not (within 2 c.hi)) h in
    and_from (nat_le 1 (max c.lo d.lo)) (not (within 2 (lesser_end c.hi d.hi)))
    (let k = leb-true 1 c.lo both.0 in le-leb 1 (max c.lo d.lo) (omega arith)) (still_excluded 2 c.hi d.hi both.1)

module _ (s : State) where
  with_grows : (o : ℕ) (x : Object) → IsFirmer (object_of s o) x → Grows s (with_object s o x)
  with_grows o x f = record {
    longer = let e = length-set s.objects o x in omega arith;
    origins = λ q l. (firmer_at s o x f q l).origin;
    tight = λ q l. (firmer_at s o x f q l).tight;
    ends = λ q l. (firmer_at s o x f q l).ends;
    classes = λ q c l. (firmer_at s o x f q l).classes c;
    added = λ r a b la lb h. h;
  }

  narrowed_grows : (o : ℕ) (count : Count) → Grows s (narrowed s o count)
  narrowed_grows o count = with_grows o (record (object_of s o) { count = meet (object_of s o).count count }) (record {
    origin = refl;
    tight = firm-meet (object_of s o).count count;
    ends = still_excluded 1 (object_of s o).count.hi count.hi;
    classes = λ c h. h;
  })

  kept_to_grows : (o : ℕ) (set : ClassSet) → Grows s (kept_to s o set)
  kept_to_grows o set = with_grows o (record (object_of s o) { candidates = intersection (object_of s o).candidates set }) (record {
    origin = refl;
    tight = λ h. h;
    ends = λ h. h;
    classes = λ c h. (and_parts (contains (object_of s o).candidates c) (contains set c)
        (sym (contains-intersection nat_cmp_total (object_of s o).candidates set c) ∙ h)).0;
  })

  added_grows : (c : Bool) (v w : Truth) → is_known v ≡ true → is_known (cond c (merge v w) v) ≡ true
  added_grows true v w h = known-merge v w ∙ or_left (is_known v) (is_known w) h
  added_grows false v w h = h

  pub effect_grows : (e : Effect) → Grows s (after_effect s e)
  effect_grows Close = record { longer = omega arith; origins = λ o l. refl; tight = λ o l h. h; ends = λ o l h. h; classes = λ o c l h. h; added = λ r a b la lb h. h }
  effect_grows (AtMost o n) = narrowed_grows o (record { lo = 0; hi = Some n })
  effect_grows (AtLeast o n) = narrowed_grows o (record { lo = n; hi = None })
  effect_grows (Keep o set) = kept_to_grows o set
  effect_grows (Lose o set) = kept_to_grows o (difference (object_of s o).candidates set)
  effect_grows (Merge r a b v) = record {
    longer = omega arith;
    origins = λ o l. refl;
    tight = λ o l h. h;
    ends = λ o l h. h;
    classes = λ o c l h. h;
    added = λ q x y lx ly h. added_grows (is_at r a b q x y) (s.added q x y) v h;
  }

  effect_length : (e : Effect) → length (after_effect s e).objects ≡ length s.objects
  effect_length Close = refl
  effect_length (AtMost o n) = rw length-set refl
  effect_length (AtLeast o n) = rw length-set refl
  effect_length (Keep o set) = rw length-set refl
  effect_length (Lose o set) = rw length-set refl
  effect_length (Merge r a b v) = refl

module _ (p : Problem) (s : State) (kept : IsKept p s) where
  pub effect_kept : (e : Effect) → IsKept p (after_effect s e)
  effect_kept e = let len = effect_length s e in let i = kept.inputs in record {
    inputs = omega arith;
    copies = λ o l k. (effect_grows s e).tight o (omega arith) (kept.copies o l (omega arith));
    classes = λ o c l h. kept.classes o c (omega arith) ((effect_grows s e).classes o c (omega arith) h);
  }

  pub effect_keeps : (e : Effect) → settled p s ≤ settled p (after_effect s e)
  effect_keeps e = settled-le p s (after_effect s e) (effect_grows s e) kept.inputs

  -- an object that may have a node and isn't tight
  module _ (o : ℕ) (l : o < length s.objects) (some : within 1 (hi s o) ≡ true) (loose : is_tight s o ≡ false) where
    abbrev left : Object
    left = record (object_of s o) { count = less_one (object_of s o).count }

    left-firmer : IsFirmer (object_of s o) left
    left-firmer = record {
      origin = refl;
      tight = λ h. absurd (both_ways (is_tight s o) loose h);
      ends = λ h. absurd (both_ways (within 1 (hi s o)) (not-true (within 1 (hi s o)) h) some);
      classes = λ c h. h;
    }

    old-firmer : (q : ℕ) → q < length s.objects → IsFirmer (object_of s q) (object_of (fresh_of s o) q)
    old-firmer q k = elim (cases_eq q o) [
      | inl e ↦ subst (λ q. IsFirmer (object_of s q) (object_of (fresh_of s o) q)) (sym e)
          (subst (λ x. IsFirmer (object_of s o) x) (sym (fresh_is p s o l).own) left-firmer)
      | inr ne ↦ subst (λ x. IsFirmer (object_of s q) x) (sym ((fresh_is p s o l).others q k ne)) (itself (object_of s q))
    ]

    copied_same : (a : ℕ) → a < length s.objects → copied_from o (length s.objects) a ≡ a
    copied_same a k = let e : (a == length s.objects) ≡ false = ne_eqb a (length s.objects) (λ q. absurd (omega (arith, k, q))) in rw e refl

    fresh_grows : Grows s (fresh_of s o)
    fresh_grows = record {
      longer = let n = (fresh_is p s o l).many in omega arith;
      origins = λ q k. (old-firmer q k).origin;
      tight = λ q k. (old-firmer q k).tight;
      ends = λ q k. (old-firmer q k).ends;
      classes = λ q c k. (old-firmer q k).classes c;
      added = λ r a b la lb h. rw (copied_same a la, copied_same b lb) h;
    }

    fresh_kept : IsKept p (fresh_of s o)
    fresh_kept = let n = (fresh_is p s o l).many in let i = kept.inputs in record {
      inputs = omega arith;
      copies = λ q k u. elim (below_or_last (length s.objects) q (omega arith)) [
        | inl lt ↦ (old-firmer q lt).tight (kept.copies q k lt)
        | inr e ↦ subst (λ z. firm z.count ≡ true) (sym (ap (object_of (fresh_of s o)) e ∙ (fresh_is p s o l).fresh)) refl
      ];
      classes = λ q c k h. elim (below_or_last (length s.objects) q (omega arith)) [
        | inl lt ↦ kept.classes q c lt ((old-firmer q lt).classes c h)
        | inr e ↦ kept.classes o c l (subst (λ z. contains z.candidates c ≡ true) (ap (object_of (fresh_of s o)) e ∙ (fresh_is p s o l).fresh) h)
      ];
    }

    fresh_more : settled p s < settled p (fresh_of s o)
    fresh_more = more_made p s (fresh_of s o) fresh_grows kept.inputs (let n = (fresh_is p s o l).many in omega arith)

    pub is_input : o < length p.objects
    is_input = elim (cases_lt o (length p.objects)) [
      | inl lt ↦ lt
      | inr ge ↦ absurd (both_ways (is_tight s o) loose (kept.copies o ge l))
    ]

    none_within : (u : Option ℕ) → not (within 1 (lesser_end u (Some 0))) ≡ true
    none_within None = refl
    none_within (Some e) = let z : min e 0 ≡ 0 = omega arith in rw z refl

    end_more : settled p s < settled p (after_effect s (AtMost o 0))
    end_more = more_ended p s (after_effect s (AtMost o 0)) (effect_grows s (AtMost o 0)) kept.inputs o is_input
        (not_from_true (within 1 (hi s o)) some)
        (subst (λ z. over z.count ≡ true)
        (sym (object_now s o (record (object_of s o) { count = meet (object_of s o).count (record { lo = 0; hi = Some 0 }) }) o l))
        (rw (eq-eqb o o refl) (none_within (object_of s o).count.hi)))

  -- classes that are lost make no object tight
  pub tight_before : (o : ℕ) (set : ClassSet) (q : ℕ) → q < length s.objects → is_tight (kept_to s o set) q ≡ true → is_tight s q ≡ true
  tight_before o set q l h =
      let x : Object = record (object_of s o) { candidates = intersection (object_of s o).candidates set } in
      let now = subst (λ z. firm z.count ≡ true) (object_now s o x q l) h in
      elim (cases_Bool (q == o)) [
        | inl e ↦ subst (λ q. is_tight s q ≡ true) (sym (eqb-true q o e)) (rw e at now)
        | inr e ↦ rw e at now
      ]

  -- a class that is lost
  lose_more : (o c : ℕ) (set : ClassSet) → o < length s.objects → is_tight s o ≡ true → c < length p.classes → contains (object_of s o).candidates c ≡ true
      → contains set c ≡ false → settled p s < settled p (kept_to s o set)
  lose_more o c set l tight lc held fails =
      let t = kept_to s o set in
      let x : Object = record (object_of s o) { candidates = intersection (object_of s o).candidates set } in
      let there : object_of t o ≡ x = object_now s o x o l ∙ rw (eq-eqb o o refl) refl in
      let gone : contains x.candidates c ≡ false = false_from_ne_true (contains x.candidates c) (λ h. both_ways (contains set c) fails
      (and_parts (contains (object_of s o).candidates c) (contains set c) (sym (contains-intersection nat_cmp_total (object_of s o).candidates set c) ∙ h)).1) in
      let now : contains (object_of t o).candidates c ≡ false = ap (λ z. contains z.candidates c) there ∙ gone in
      more_lost p s t (kept_to_grows s o set) kept.inputs o c l lc tight
      (and_right (is_concrete p.classes c) (not (contains (object_of s o).candidates c)) (not_from_true (contains (object_of s o).candidates c) held))
      (and_from (is_concrete p.classes c) (not (contains (object_of t o).candidates c)) (kept.classes o c l held)
      (not_from_false (contains (object_of t o).candidates c) now))

  -- an edge that is settled
  settle_more : (r a b : ℕ) (v : Truth) → r < length p.references → a < length s.objects → b < length s.objects → is_tight s a ≡ true → is_tight s b ≡ true
      → is_unknown (fact p s r a b) ≡ true → is_known v ≡ true → settled p s < settled p (merged_at s r a b v)
  settle_more r a b v lr la lb ta tb unknown some =
      let t = merged_at s r a b v in
      let g = effect_grows s (Merge r a b v) in
      let here : is_known (t.added r a b) ≡ true = rw (eq-eqb r r refl, eq-eqb a a refl, eq-eqb b b refl)
      (known-merge (s.added r a b) v ∙ or_right (is_known (s.added r a b)) (is_known v) some) in
      let says = asserted p (Reference r) ((object_of t a).origin ∷ (object_of t b).origin ∷ []) in
      let told_now : is_known (told p t r a b) ≡ true = known-merge says (t.added r a b) ∙ or_right (is_known says) (is_known (t.added r a b)) here in
      let rest = merge (told_back p t (reference_at p.references r).opposite a b) (by_classes p t r a b) in
      let now : is_known (fact p t r a b) ≡ true = known-merge (told p t r a b) rest ∙ or_left (is_known (told p t r a b)) (is_known rest) told_now in
      let was_not : is_known (fact p s r a b) ≡ false = not_from_true (is_unknown (fact p s r a b)) unknown in
      more_known p s t g kept.inputs r a b lr la lb ta
      (and_right (is_tight s b) (is_known (fact p s r a b)) was_not)
      (and_from (is_tight t b) (is_known (fact p t r a b)) (g.tight b lb tb) now)

firm-single : (l : ℕ) (u : Option ℕ) → (l == 1 && ends_at 1 u) ≡ true → (nat_le 1 l && not (within 2 u)) ≡ true
firm-single l None h = absurd (true≢false (sym h ∙ and_right (l == 1) false refl))
firm-single l (Some e) h = (let both = and_parts (l == 1) (e == 1) h in let a = eqb-true l 1 both.0 in let b = eqb-true e 1 both.1 in rw (a, b) refl)

pub one_tight : (s : State) (o : ℕ) → is_one s o ≡ true → is_tight s o ≡ true
one_tight s o h = firm-single (lo s o) (hi s o) h

one-failing : (n : ℕ) (q : ℕ → Bool) → all_below n q ≡ false → (k : ℕ) × (k < n) × (q k ≡ false)
one-failing zero q h = absurd (true≢false h)
one-failing (suc n) q h = elim (and_cases (all_below n q) (q n) h) [
  | inl e ↦ (let r = one-failing n q e in let l = r.1 in (r.0, omega arith, r.2))
  | inr e ↦ (n, omega arith, e)
]

within_one : (u : Option ℕ) → within 2 u ≡ true → within 1 u ≡ true
within_one None h = refl
within_one (Some e) h = let k = leb-true 2 e h in le-leb 1 e (omega arith)

ends_within : (u : Option ℕ) → ends_at 1 u ≡ true → within 1 u ≡ true
ends_within None h = refl
ends_within (Some e) h = let k = eqb-true e 1 h in rw k refl

loose_within : (l : ℕ) (u : Option ℕ) → (within 2 u || (l == 0 && ends_at 1 u)) ≡ true → within 1 u ≡ true
loose_within l u h = elim (or_cases (within 2 u) (l == 0 && ends_at 1 u) h) [
  | inl e ↦ within_one u e
  | inr e ↦ ends_within u (and_parts (l == 0) (ends_at 1 u) e).1
]

loose_not : (l : ℕ) (u : Option ℕ) → (within 2 u || (l == 0 && ends_at 1 u)) ≡ true → (nat_le 1 l && not (within 2 u)) ≡ false
loose_not l u h = elim (or_cases (within 2 u) (l == 0 && ends_at 1 u) h) [
  | inl e ↦ and_right (nat_le 1 l) (not (within 2 u)) (not_from_true (within 2 u) e)
  | inr e ↦ (let z = eqb-true l 0 (and_parts (l == 0) (ends_at 1 u) e).0 in
      and_left (nat_le 1 l) (not (within 2 u)) (false_from_ne_true (nat_le 1 l) (λ t. let k = leb-true 1 l t in absurd (omega arith))))
]

module _ (p : Problem) (s : State) where
  -- what an allowed decision needs
  pub fresh_parts : (o : ℕ) → allowed p s (Fresh o) ≡ true → (o < length s.objects) × (within 1 (hi s o) ≡ true) × (is_tight s o ≡ false)
  fresh_parts o a =
      let one = and_parts (nat_lt o (length s.objects)) (is_open p s (Fresh o)) a in
      (ltb-true o (length s.objects) one.0, loose_within (lo s o) (hi s o) one.1, loose_not (lo s o) (hi s o) one.1)

  pub kind_parts : (o k : ℕ) → allowed p s (Kind o k) ≡ true
      → (o < length s.objects) × (is_tight s o ≡ true) × (some_candidate p s o k ≡ true) × (all_candidates p s o k ≡ false)
  kind_parts o k a =
      let one = and_parts (fits p s (Kind o k)) (is_open p s (Kind o k)) a in
      let two = and_parts (is_one s o) (some_candidate p s o k && not (all_candidates p s o k)) one.1 in
      let three = and_parts (some_candidate p s o k) (not (all_candidates p s o k)) two.1 in
      let there = ltb-true o (length s.objects) (and_parts (nat_lt o (length s.objects)) (nat_lt k (length p.classes)) one.0).0 in
      (there, one_tight s o two.0, three.0, not-true (all_candidates p s o k) three.1)

  pub ref_parts : (r a b : ℕ) → allowed p s (Ref r a b) ≡ true
      → (r < length p.references) × (a < length s.objects) × (b < length s.objects) × (is_tight s a ≡ true) × (is_tight s b ≡ true)
      × (is_unknown (fact p s r a b) ≡ true)
  ref_parts r a b h =
      let one = and_parts (fits p s (Ref r a b)) (is_open p s (Ref r a b)) h in
      let two = and_parts (is_one s a) (is_one s b && is_unknown (fact p s r a b)) one.1 in
      let three = and_parts (is_one s b) (is_unknown (fact p s r a b)) two.1 in
      let f = and_parts (nat_lt r (length p.references)) (is_object s a && is_object s b) one.0 in
      let g = and_parts (is_object s a) (is_object s b) f.1 in
      (ltb-true r (length p.references) f.0, ltb-true a (length s.objects) g.0, ltb-true b (length s.objects) g.1, one_tight s a two.0, one_tight s b three.0, three.1)

  module _ (kept : IsKept p s) where
    pub side_kept : (d : Decision) (first : Bool) → allowed p s d ≡ true → IsKept p (side p s d first)
    side_kept (Fresh o) true a = let f = fresh_parts o a in fresh_kept p s kept o f.0 f.1 f.2
    side_kept (Fresh o) false a = effect_kept p s kept (AtMost o 0)
    side_kept (Kind o k) true a = effect_kept p s kept (Keep o (classes_below p k))
    side_kept (Kind o k) false a = effect_kept p s kept (Lose o (classes_below p k))
    side_kept (Ref r x y) true a = effect_kept p s kept (Merge r x y True)
    side_kept (Ref r x y) false a = effect_kept p s kept (Merge r x y False)

    keep_more : (o k : ℕ) → allowed p s (Kind o k) ≡ true → settled p s < settled p (side p s (Kind o k) true)
    keep_more o k a =
        let f = kind_parts o k a in
        let c = one-failing (length p.classes) (λ c. not (contains (object_of s o).candidates c) || is_below p.classes c k) f.3 in
        let both = or_parts (not (contains (object_of s o).candidates c.0)) (is_below p.classes c.0 k) c.2 in
        lose_more p s kept o c.0 (classes_below p k) f.0 f.1 c.1 (not-false (contains (object_of s o).candidates c.0) both.0)
        (contains-classes_where p (λ c. is_below p.classes c k) c.0 c.1 ∙ both.1)

    drop_more : (o k : ℕ) → allowed p s (Kind o k) ≡ true → settled p s < settled p (side p s (Kind o k) false)
    drop_more o k a =
        let f = kind_parts o k a in
        let own = (object_of s o).candidates in
        let c = one-from_some_below (length p.classes) (λ c. contains own c && is_below p.classes c k) f.2 in
        let both = and_parts (contains own c.0) (is_below p.classes c.0 k) c.2 in
        let among : contains (classes_below p k) c.0 ≡ true = contains-classes_where p (λ c. is_below p.classes c k) c.0 c.1 ∙ both.1 in
        lose_more p s kept o c.0 (difference own (classes_below p k)) f.0 f.1 c.1 both.0
        (contains-difference nat_cmp_total own (classes_below p k) c.0
        ∙ and_right (contains own c.0) (not (contains (classes_below p k) c.0)) (not_from_true (contains (classes_below p k) c.0) among))

    -- on each side of a decision more is settled
    pub side_more : (d : Decision) (first : Bool) → allowed p s d ≡ true → settled p s < settled p (side p s d first)
    side_more (Fresh o) true a = let f = fresh_parts o a in fresh_more p s kept o f.0 f.1 f.2
    side_more (Fresh o) false a = let f = fresh_parts o a in end_more p s kept o f.0 f.1 f.2
    side_more (Kind o k) true a = keep_more o k a
    side_more (Kind o k) false a = drop_more o k a
    side_more (Ref r x y) true a = let f = ref_parts r x y a in settle_more p s kept r x y True f.0 f.1 f.2 f.3 f.4 f.5 refl
    side_more (Ref r x y) false a = let f = ref_parts r x y a in settle_more p s kept r x y False f.0 f.1 f.2 f.3 f.4 f.5 refl

-- the root keeps it: no object is made yet, and its candidates are classes that nodes may have
pub root_kept : (p : Problem) (s : State) → IsRoot p s → IsKept p s
root_kept p s root = let n = root.many in record {
  inputs = omega arith;
  copies = λ o l k. absurd (omega arith);
  classes = λ o c l h. (and_parts (is_concrete p.classes c)
      (may_have_class p.classes (object_at p.objects o).name (object_at p.objects o).kind c && all_below (length p.classes) (keeps_asserted p o c))
      (sym (root.candidates o c (omega arith)) ∙ h)).0;
}

single-firm : (l : ℕ) (u : Option ℕ) → within l u ≡ true → (nat_le 1 l && not (within 2 u)) ≡ true → (l == 1 && ends_at 1 u) ≡ true
single-firm l None i h = absurd (true≢false (sym h ∙ and_right (nat_le 1 l) false refl))
single-firm l (Some e) i h =
    let both = and_parts (nat_le 1 l) (not (nat_le 2 e)) h in
    let a = leb-true 1 l both.0 in
    let b = leb-false 2 e (not-true (nat_le 2 e) both.1) in
    let c = leb-true l e i in
    and_from (l == 1) (e == 1) (eq-eqb l 1 (omega arith)) (eq-eqb e 1 (omega arith))

-- a tight object whose ends fit is single
pub tight_one : (s : State) (o : ℕ) → within (lo s o) (hi s o) ≡ true → is_tight s o ≡ true → is_one s o ≡ true
tight_one s o i h = single-firm (lo s o) (hi s o) i h

-- and stays tight
pub side_tight : (p : Problem) (s : State) → IsKept p s → (d : Decision) (first : Bool) (o : ℕ) → o < length s.objects → allowed p s d ≡ true
    → is_tight s o ≡ true → is_tight (side p s d first) o ≡ true
side_tight p s kept (Fresh q) true o l a h = let f = fresh_parts p s q a in (fresh_grows p s kept q f.0 f.1 f.2).tight o l h
side_tight p s kept (Fresh q) false o l a h = (effect_grows s (AtMost q 0)).tight o l h
side_tight p s kept (Kind q k) true o l a h = (effect_grows s (Keep q (classes_below p k))).tight o l h
side_tight p s kept (Kind q k) false o l a h = (effect_grows s (Lose q (classes_below p k))).tight o l h
side_tight p s kept (Ref r x y) true o l a h = (effect_grows s (Merge r x y True)).tight o l h
side_tight p s kept (Ref r x y) false o l a h = (effect_grows s (Merge r x y False)).tight o l h
