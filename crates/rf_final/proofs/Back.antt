-- Whatever nodes a reached state has, the root has.
use Rattle.std.proofs.Common.{◌≡◌, ◌≢◌, ℕ, suc, ◌+◌, ◌-◌, ◌<◌, Bool, true, false, min, ◌&&◌, ◌||◌, ◌==◌, Option, Some, None, length, refl, sym, ap, ◌∙◌, subst, inl, inr, arith}
use Rattle.std.specs.Prelude.{nat_le}
use Rattle.std.specs.Cmp.{nat_cmp_total}
use Rattle.std.specs.FinSet.{contains as contains_class, contains-intersection, difference, intersection}
use Rattle.std.proofs.lemmas.Bool.{and_parts, and_from, cases_Bool, cases_eq, eq-eqb, eqb-true, leb-true, le-leb, ltb-true, ne_eqb, or_cases}
use Rattle.rf_finite.specs.Ends.{within}
use Rattle.rf_finite.proofs.Range.{below_or_last, count_below-apart, count_below-cover, count_below-same}
use Rattle.rf_values.specs.Count.{contains, end_less_one, ends_at, less_one, lesser_end, meet}
use Rattle.rf_values.specs.declared.class_set.ClassSet.{ClassSet}
use Rattle.rf_values.specs.declared.count.Count.{Count}
use Rattle.rf_values.specs.declared.truth.Truth.TheVariants.{False, True}
use Rattle.rf_problem.specs.declared.problem.Problem.{Problem}
use Rattle.rf_graph.specs.Graph.{class_of, size_of}
use Rattle.rf_graph.specs.declared.graph.Graph.{Graph}
use Rattle.rf_state.specs.Laws.{IsFresh}
use Rattle.rf_state.specs.State.{IsRoot, State, copied_from, fresh_of, object_of, with_object}
use Rattle.rf_state.specs.declared.object.Object.{Object}
use Rattle.rf_state.proofs.EditLemmas.{fresh_is, own, same_but_for}
use Rattle.rf_rules.specs.Applying.{IsApplicable}
use Rattle.rf_rules.specs.Decisions.{allowed, side}
use Rattle.rf_rules.specs.Effects.{after_effect}
use Rattle.rf_rules.specs.Rules.{instance_of, is_edge, is_object}
use Rattle.rf_rules.specs.Words.{classes_below, hi, lo}
use Rattle.rf_rules.specs.declared.decision.Decision.{Decision}
use Rattle.rf_rules.specs.declared.decision.Decision.TheVariants.{Fresh, Kind, Ref}
use Rattle.rf_rules.specs.declared.effect.Effect.{Effect}
use Rattle.rf_rules.specs.declared.effect.Effect.TheVariants.{AtLeast, AtMost, Close, Keep, Lose, Merge}
use Rattle.rf_rules.proofs.ApplyLemmas.{effect_is_applicable}
use Rattle.rf_placement.specs.Placement.{Placing, nodes_at}
use Rattle.rf_placement.proofs.Satisfied.{contains_parts}
use Rattle.rf_final.specs.Reached.{IsReached, at_root, by_decision, by_rule}
use Rattle.rf_final.specs.Standing.{HasNodes, IsStocked}

-- an object that has each number of nodes and each class that another has
record IsLooser (x y : Object) : Type 0 where
  pub origin : y.origin ≡ x.origin
  pub count : (n : ℕ) → contains y.count n ≡ true → contains x.count n ≡ true
  pub candidates : (c : ℕ) → contains_class y.candidates c ≡ true → contains_class x.candidates c ≡ true

as_loose : (x : Object) → IsLooser x x
as_loose x = record { origin = refl; count = λ n k. k; candidates = λ c k. k }

-- a count that meets another contains what both do
within_first : (n : ℕ) (e f : Option ℕ) → within n (lesser_end e f) ≡ true → within n e ≡ true
within_first n None f h = refl
within_first n (Some a) None h = h
within_first n (Some a) (Some b) h = let k = leb-true n (min a b) h in le-leb n a (omega arith)

meet_first : (a b : Count) (n : ℕ) → contains (meet a b) n ≡ true → contains a n ≡ true
meet_first a b n h =
    let parts = contains_parts (meet a b) n h in let low = parts.0 in
    and_from (nat_le a.lo n) (within n a.hi) (le-leb a.lo n (omega arith)) (within_first n a.hi b.hi parts.1)

-- and one that is less by one where one more is
one_more_within : (n : ℕ) (e : Option ℕ) → within 1 e ≡ true → within n (end_less_one e) ≡ true → within (n + 1) e ≡ true
one_more_within n None some h = refl
one_more_within n (Some e) some h = let i = leb-true 1 e some in let j = leb-true n (e - 1) h in le-leb (n + 1) e (omega arith)

less_one_more : (a : Count) (n : ℕ) → within 1 a.hi ≡ true → contains (less_one a) n ≡ true → contains a (n + 1) ≡ true
less_one_more a n some h =
    let parts = contains_parts (less_one a) n h in let low = parts.0 in
    and_from (nat_le a.lo (n + 1)) (within (n + 1) a.hi) (le-leb a.lo (n + 1) (omega arith)) (one_more_within n a.hi some parts.1)

-- where each object of s is looser, s has the nodes that t has
loosened : (s t : State) (g : Graph) (h : Placing) → length t.objects ≡ length s.objects
    → ((q : ℕ) → IsLooser (object_of s q) (object_of t q)) → HasNodes t g h → HasNodes s g h
loosened s t g h many loose c = record {
  objects = λ x l. subst (λ n. h x < n) many (c.objects x l);
  origins = λ x l. sym (loose (h x)).origin ∙ c.origins x l;
  counts = λ o l. (loose o).count (nodes_at g h o) (c.counts o (subst (λ n. o < n) (sym many) l));
  classes = λ x l. (loose (h x)).candidates (class_of g x) (c.classes x l);
}

module _ (p : Problem) (s : State) (o : ℕ) (x : Object) (l : o < length s.objects) (loose : IsLooser (object_of s o) x) where
  each_looser : (q : ℕ) → IsLooser (object_of s q) (object_of (with_object s o x) q)
  each_looser q = elim (cases_eq q o) [
    | inl e ↦ subst (λ q. IsLooser (object_of s q) (object_of (with_object s o x) q)) (sym e)
        (subst (IsLooser (object_of s o)) (sym (own p s o x l loose.origin)) loose)
    | inr ne ↦ subst (IsLooser (object_of s q)) (sym ((same_but_for p s o x l loose.origin).others q ne)) (as_loose (object_of s q))
  ]

  with_back : (g : Graph) (h : Placing) → HasNodes (with_object s o x) g h → HasNodes s g h
  with_back g h c = loosened s (with_object s o x) g h (same_but_for p s o x l loose.origin).many each_looser c

  with_stocked : IsStocked p s → IsStocked p (with_object s o x)
  with_stocked c = record {
    many = let same = (same_but_for p s o x l loose.origin).many in let all = c.many in omega arith;
    numbered = λ q k. (each_looser q).origin ∙ c.numbered q k;
  }

met_looser : (x : Object) (count : Count) → IsLooser x (record x { count = meet x.count count })
met_looser x count = record {
  origin = refl;
  count = λ n k. meet_first x.count count n k;
  candidates = λ c k. k;
}

kept_looser : (x : Object) (set : ClassSet) → IsLooser x (record x { candidates = intersection x.candidates set })
kept_looser x set = record {
  origin = refl;
  count = λ n k. k;
  candidates = λ c k. (and_parts (contains_class x.candidates c) (contains_class set c)
      (sym (contains-intersection nat_cmp_total x.candidates set c) ∙ k)).0;
}

module _ (p : Problem) (s : State) where
  effect_back : (e : Effect) → IsApplicable p s e → (g : Graph) (h : Placing) → HasNodes (after_effect s e) g h → HasNodes s g h
  effect_back Close fits g h c = c
  effect_back (AtMost o n) fits g h c = with_back p s o _ fits.0 (met_looser (object_of s o) (record { lo = 0; hi = Some n })) g h c
  effect_back (AtLeast o n) fits g h c = with_back p s o _ fits.0 (met_looser (object_of s o) (record { lo = n; hi = None })) g h c
  effect_back (Keep o set) fits g h c = with_back p s o _ fits (kept_looser (object_of s o) set) g h c
  effect_back (Lose o set) fits g h c =
      with_back p s o _ fits (kept_looser (object_of s o) (difference (object_of s o).candidates set)) g h c
  effect_back (Merge r a b v) fits g h c = record { objects = c.objects; origins = c.origins; counts = c.counts; classes = c.classes }

  effect_stocked : (e : Effect) → IsApplicable p s e → IsStocked p s → IsStocked p (after_effect s e)
  effect_stocked Close fits c = c
  effect_stocked (AtMost o n) fits c = with_stocked p s o _ fits.0 (met_looser (object_of s o) (record { lo = 0; hi = Some n })) c
  effect_stocked (AtLeast o n) fits c = with_stocked p s o _ fits.0 (met_looser (object_of s o) (record { lo = n; hi = None })) c
  effect_stocked (Keep o set) fits c = with_stocked p s o _ fits (kept_looser (object_of s o) set) c
  effect_stocked (Lose o set) fits c = with_stocked p s o _ fits (kept_looser (object_of s o) (difference (object_of s o).candidates set)) c
  effect_stocked (Merge r a b v) fits c = record { many = c.many; numbered = c.numbered }

module _ (p : Problem) (s : State) (o : ℕ) (l : o < length s.objects) where
  abbrev n : ℕ
  n = length s.objects

  abbrev fresh : IsFresh p s o (fresh_of s o)
  fresh = fresh_is p s o l

  one_more : length (fresh_of s o).objects ≡ suc n
  one_more = fresh.many ∙ omega arith

  each_object : (P : ℕ → Object → Type 0) → P n (record (object_of s o) { count = record { lo = 1; hi = Some 1 } })
      → P o (record (object_of s o) { count = less_one (object_of s o).count }) → ((q : ℕ) → q < n → q ≢ o → P q (object_of s q))
      → (q : ℕ) → q < suc n → P q (object_of (fresh_of s o) q)
  each_object P new here rest q k = elim (below_or_last n q k) [
    | inl old ↦ elim (cases_eq q o) [
      | inl e ↦ subst (λ q. P q (object_of (fresh_of s o) q)) (sym e) (subst (P o) (sym fresh.own) here)
      | inr ne ↦ subst (P q) (sym (fresh.others q old ne)) (rest q old ne)
    ]
    | inr e ↦ subst (λ q. P q (object_of (fresh_of s o) q)) (sym e) (subst (P n) (sym fresh.fresh) new)
  ]

  copied_old : (q : ℕ) → q < n → copied_from o n q ≡ q
  copied_old q k = let f : (q == n) ≡ false = ne_eqb q n (λ e. absurd (omega arith)) in rw f refl

  copied_new : copied_from o n n ≡ o
  copied_new = rw (eq-eqb n n refl) refl

  fresh_stocked : IsStocked p s → IsStocked p (fresh_of s o)
  fresh_stocked c = record {
    many = let more = one_more in let all = c.many in omega arith;
    numbered = λ q k. each_object (λ q z. q < length p.objects → z.origin ≡ q) (λ l. let all = c.many in absurd (omega arith))
        (c.numbered o) (λ q old ne. c.numbered q) q
        (let all = c.many in omega arith) k;
  }

  -- what an object has in common with the one that it was
  same_was : {X : Type 0} (f : Object → X) → f (record (object_of s o) { count = record { lo = 1; hi = Some 1 } }) ≡ f (object_of s o)
      → f (record (object_of s o) { count = less_one (object_of s o).count }) ≡ f (object_of s o) → (q : ℕ) → q < suc n
      → f (object_of s (copied_from o n q)) ≡ f (object_of (fresh_of s o) q)
  same_was f new here q k = each_object (λ q z. f (object_of s (copied_from o n q)) ≡ f z)
      (ap (λ q. f (object_of s q)) copied_new ∙ sym new)
      (ap (λ q. f (object_of s q)) (copied_old o l) ∙ sym here)
      (λ q old ne. ap (λ q. f (object_of s q)) (copied_old q old)) q k

  was_there : (q : ℕ) → q < suc n → copied_from o n q < n
  was_there q k = elim (below_or_last n q k) [
    | inl old ↦ subst (λ m. m < n) (sym (copied_old q old)) old
    | inr e ↦ subst (λ q. copied_from o n q < n) (sym e) (subst (λ m. m < n) (sym copied_new) l)
  ]

  module _ (some : within 1 (hi s o) ≡ true) (g : Graph) (h : Placing) (c : HasNodes (fresh_of s o) g h) where
    abbrev to : Placing
    to x = copied_from o n (h x)

    there : (x : ℕ) → x < size_of g → h x < suc n
    there x k = subst (λ m. h x < m) one_more (c.objects x k)

    one_copy : nodes_at g h n ≡ 1
    one_copy =
        let k : contains (object_of (fresh_of s o) n).count (nodes_at g h n) ≡ true = c.counts n (let more = one_more in omega arith) in
        let parts = contains_parts (record { lo = 1; hi = Some 1 }) (nodes_at g h n)
        (subst (λ z. contains z.count (nodes_at g h n) ≡ true) fresh.fresh k) in
        let low = parts.0 in let high = leb-true (nodes_at g h n) 1 parts.1 in omega arith

    both : nodes_at g to o ≡ nodes_at g h o + 1
    both =
        let below = count_below-cover (size_of g) (λ x. h x == o) (λ x. h x == n) (λ x. to x == o) (λ x k e. elim (cases_Bool (h x == n)) [
          | inl d ↦ inr d
          | inr d ↦ inl (rw d at e)
        ]) in
        let above = count_below-apart (size_of g) (λ x. h x == o) (λ x. h x == n) (λ x. to x == o)
        (λ x k e. (let same = eqb-true (h x) o e in let d : (h x == n) ≡ false = ne_eqb (h x) n (λ q. absurd (omega arith)) in rw d e))
        (λ x k e. rw e (eq-eqb o o refl))
        (λ x d e. (let a = eqb-true (h x) o d in let b = eqb-true (h x) n e in absurd (omega arith))) in
        let one = one_copy in omega arith

    others : (q : ℕ) → q < n → q ≢ o → nodes_at g to q ≡ nodes_at g h q
    others q k ne = count_below-same (size_of g) (λ x. to x == q) (λ x. h x == q) (λ x lx. elim (cases_Bool (h x == n)) [
      | inl e ↦ (let here = eqb-true (h x) n e in let a : (o == q) ≡ false = ne_eqb o q (λ r. ne (sym r)) in
          let b : (h x == q) ≡ false = ne_eqb (h x) q (λ r. absurd (omega arith)) in rw (e, a, b) refl)
      | inr e ↦ rw e refl
    ])

    counts_before : (q : ℕ) → q < n → contains (object_of s q).count (nodes_at g to q) ≡ true
    counts_before q k = elim (cases_eq q o) [
      | inl e ↦ subst (λ q. contains (object_of s q).count (nodes_at g to q) ≡ true) (sym e)
          (subst (λ m. contains (object_of s o).count m ≡ true) (sym both)
          (less_one_more (object_of s o).count (nodes_at g h o) some
          (subst (λ z. contains z.count (nodes_at g h o) ≡ true) fresh.own (c.counts o (let more = one_more in omega arith)))))
      | inr ne ↦ subst (λ m. contains (object_of s q).count m ≡ true) (sym (others q k ne))
          (subst (λ z. contains z.count (nodes_at g h q) ≡ true) (fresh.others q k ne) (c.counts q (let more = one_more in omega arith)))
    ]

    fresh_back : HasNodes s g to
    fresh_back = record {
      objects = λ x k. was_there (h x) (there x k);
      origins = λ x k. same_was (λ z. z.origin) refl refl (h x) (there x k) ∙ c.origins x k;
      counts = counts_before;
      classes = λ x k. subst (λ set. contains_class set (class_of g x) ≡ true)
          (sym (same_was (λ z. z.candidates) refl refl (h x) (there x k))) (c.classes x k);
    }

-- what is said of each side of a decision is said of its effect, or of the fresh object
abbrev pub Has : State → Graph → Type 0
Has s g = (h : Placing) × HasNodes s g h

module _ (p : Problem) (s : State) where
  divisible : (o : ℕ) → (within 2 (hi s o) || (lo s o == 0 && ends_at 1 (hi s o))) ≡ true → within 1 (hi s o) ≡ true
  divisible o h = elim (or_cases (within 2 (hi s o)) (lo s o == 0 && ends_at 1 (hi s o)) h) [
    | inl e ↦ less (hi s o) e
    | inr e ↦ at_one (hi s o) (and_parts (lo s o == 0) (ends_at 1 (hi s o)) e).1
  ]
    where
      less : (e : Option ℕ) → within 2 e ≡ true → within 1 e ≡ true
      less None k = refl
      less (Some m) k = let two = leb-true 2 m k in le-leb 1 m (omega arith)

      at_one : (e : Option ℕ) → ends_at 1 e ≡ true → within 1 e ≡ true
      at_one None k = absurd cc
      at_one (Some m) k = let one = eqb-true m 1 k in le-leb 1 m (omega arith)

  edge_applies : (r a b : ℕ) → is_edge p s r a b ≡ true → (r < length p.references) × (a < length s.objects) × (b < length s.objects)
  edge_applies r a b h =
      let one = and_parts _ (is_object s a && is_object s b) h in let two = and_parts (is_object s a) (is_object s b) one.1 in
      (ltb-true r (length p.references) one.0, ltb-true a (length s.objects) two.0, ltb-true b (length s.objects) two.1)

  none_fits : (o : ℕ) → o < length s.objects → IsApplicable p s (AtMost o 0)
  none_fits o l = (l, record { lower = omega arith; upper = λ n e. (let same : 0 ≡ n = cc in omega arith) })

  side_back : (d : Decision) (first : Bool) → allowed p s d ≡ true → (g : Graph) → Has (side p s d first) g → Has s g
  side_back (Fresh o) true a g c =
      let one = and_parts (is_object s o) _ a in let l = ltb-true o (length s.objects) one.0 in
      (λ x. copied_from o (length s.objects) (c.0 x), fresh_back p s o l (divisible o one.1) g c.0 c.1)
  side_back (Fresh o) false a g c =
      let one = and_parts (is_object s o) _ a in let l = ltb-true o (length s.objects) one.0 in
      (c.0, effect_back p s (AtMost o 0) (none_fits o l) g c.0 c.1)
  side_back (Kind o k) true a g c =
      let one = and_parts _ _ a in let two = and_parts (is_object s o) _ one.0 in
      (c.0, effect_back p s (Keep o (classes_below p k)) (ltb-true o (length s.objects) two.0) g c.0 c.1)
  side_back (Kind o k) false a g c =
      let one = and_parts _ _ a in let two = and_parts (is_object s o) _ one.0 in
      (c.0, effect_back p s (Lose o (classes_below p k)) (ltb-true o (length s.objects) two.0) g c.0 c.1)
  side_back (Ref r x y) true a g c =
      (c.0, effect_back p s (Merge r x y True) (edge_applies r x y (and_parts (is_edge p s r x y) _ a).0) g c.0 c.1)
  side_back (Ref r x y) false a g c =
      (c.0, effect_back p s (Merge r x y False) (edge_applies r x y (and_parts (is_edge p s r x y) _ a).0) g c.0 c.1)

  side_stocked : (d : Decision) (first : Bool) → allowed p s d ≡ true → IsStocked p s → IsStocked p (side p s d first)
  side_stocked (Fresh o) true a c = fresh_stocked p s o (ltb-true o (length s.objects) (and_parts (is_object s o) _ a).0) c
  side_stocked (Fresh o) false a c =
      effect_stocked p s (AtMost o 0) (none_fits o (ltb-true o (length s.objects) (and_parts (is_object s o) _ a).0)) c
  side_stocked (Kind o k) true a c =
      let one = and_parts _ _ a in let two = and_parts (is_object s o) _ one.0 in
      effect_stocked p s (Keep o (classes_below p k)) (ltb-true o (length s.objects) two.0) c
  side_stocked (Kind o k) false a c =
      let one = and_parts _ _ a in let two = and_parts (is_object s o) _ one.0 in
      effect_stocked p s (Lose o (classes_below p k)) (ltb-true o (length s.objects) two.0) c
  side_stocked (Ref r x y) true a c = effect_stocked p s (Merge r x y True) (edge_applies r x y (and_parts (is_edge p s r x y) _ a).0) c
  side_stocked (Ref r x y) false a c = effect_stocked p s (Merge r x y False) (edge_applies r x y (and_parts (is_edge p s r x y) _ a).0) c

pub reached_stocked : (p : Problem) (s : State) → IsReached p s → IsStocked p s
reached_stocked p _ (at_root s is) = record { many = let same = is.many in omega arith; numbered = is.origins }
reached_stocked p _ (by_rule s rule r f e) =
    effect_stocked p s (instance_of p s rule).effect (effect_is_applicable p s rule f) (reached_stocked p s r)
reached_stocked p _ (by_decision s d first r a) = side_stocked p s d first a (reached_stocked p s r)

pub reached_back : (p : Problem) (s : State) → IsReached p s → (g : Graph) → Has s g → (root : State) × IsRoot p root × Has root g
reached_back p _ (at_root s is) g c = (s, is, c)
reached_back p _ (by_rule s rule r f e) g c =
    reached_back p s r g (c.0, effect_back p s (instance_of p s rule).effect (effect_is_applicable p s rule f) g c.0 c.1)
reached_back p _ (by_decision s d first r a) g c = reached_back p s r g (side_back p s d first a g c)
