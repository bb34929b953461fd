-- A graph of which an effect says what is so concretises the state after it.
use Rattle.std.proofs.Common.{◌≡◌, ◌≢◌, ℕ, ◌≤◌, ◌<◌, true, not, min, max, Option, Some, None, length, refl, sym, ◌∙◌, subst, inl, inr, arith}
use Rattle.std.specs.Prelude.{nat_le}
use Rattle.std.specs.Cmp.{nat_cmp_total}
use Rattle.std.specs.FinSet.{contains as contains_class, contains-difference, contains-intersection, difference, intersection}
use Rattle.std.proofs.lemmas.Bool.{and_from, cases_Bool, cases_eq, false_from_ne_true, leb-true, le-leb, not_from_false}
use Rattle.rf_finite.specs.Ends.{within}
use Rattle.rf_values.specs.Count.{contains, lesser_end, meet}
use Rattle.rf_values.specs.Truth.{keeps}
use Rattle.rf_values.specs.declared.class_set.ClassSet.{ClassSet}
use Rattle.rf_values.specs.declared.count.Count.{Count}
use Rattle.rf_values.specs.declared.truth.Truth.{Truth}
use Rattle.rf_values.proofs.Kept.{keeps-merge}
use Rattle.rf_problem.specs.declared.problem.Problem.{Problem}
use Rattle.rf_graph.specs.Graph.{class_of, has_edge, size_of}
use Rattle.rf_graph.specs.declared.graph.Graph.{Graph}
use Rattle.rf_state.specs.State.{State, is_at, merged_at, object_of, with_object}
use Rattle.rf_state.specs.declared.object.Object.{Object}
use Rattle.rf_state.proofs.EditLemmas.{own, same_but_for}
use Rattle.rf_state.proofs.FactLemmas.{numbers-from_is_at}
use Rattle.rf_rules.specs.Claims.{Claims}
use Rattle.rf_rules.specs.Effects.{after_effect}
use Rattle.rf_rules.specs.Laws.{FitsEffect}
use Rattle.rf_rules.specs.declared.effect.Effect.{Effect}
use Rattle.rf_rules.specs.declared.effect.Effect.TheVariants.{AtLeast, AtMost, Close, Keep, Lose, Merge}
use Rattle.rf_placement.specs.Placed.{IsPlaced}
use Rattle.rf_placement.specs.Placement.{Concretises, IsNodeOf, Placing, nodes_at}
use Rattle.rf_placement.proofs.AtObjects.{candidate}
use Rattle.rf_placement.proofs.Placed.{placed, stands}
use Rattle.rf_placement.proofs.Satisfied.{contains_parts}
use Rattle.rf_soundness.specs.Laws.{EffectsLoseNoGraph}

-- with another object in the place of o, of the same origin, of which so much is so
module _ (p : Problem) (s : State) (g : Graph) (h : Placing) (c : IsPlaced p s g h) (o : ℕ) (l : o < length s.objects) (x : Object)
    (origin : x.origin ≡ (object_of s o).origin) (count : contains x.count (nodes_at g h o) ≡ true)
    (classes : (y : ℕ) → IsNodeOf g h o y → contains_class x.candidates (class_of g y) ≡ true) where
  same_many : length (with_object s o x).objects ≡ length s.objects
  same_many = (same_but_for p s o x l origin).many

  -- what holds of the new object at o, and of each other one, holds of each
  each_object : (P : ℕ → Object → Type 0) → P o x → ((q : ℕ) → q ≢ o → P q (object_of s q)) → (q : ℕ) → P q (object_of (with_object s o x) q)
  each_object P here rest q = elim (cases_eq q o) [
    | inl e ↦ subst (λ q. P q (object_of (with_object s o x) q)) (sym e) (subst (P o) (sym (own p s o x l origin)) here)
    | inr ne ↦ subst (P q) (sym ((same_but_for p s o x l origin).others q ne)) (rest q ne)
  ]

  replaced_placed : IsPlaced p (with_object s o x) g h
  replaced_placed = record {
    many = let same = same_many in let all = c.many in omega arith;
    numbered = λ q k. each_object (λ q z. z.origin ≡ (object_of s q).origin) origin (λ q ne. refl) q ∙ c.numbered q k;
    objects = λ y k. subst (λ n. h y < n) (sym same_many) (c.objects y k);
    origins = λ y k. each_object (λ q z. z.origin ≡ (object_of s q).origin) origin (λ q ne. refl) (h y) ∙ c.origins y k;
    counts = λ q k. each_object (λ q z. q < length s.objects → contains z.count (nodes_at g h q) ≡ true) (λ k. count) (λ q ne k. c.counts q k) q
        (subst (λ n. q < n) same_many k);
    classes = λ y k. each_object (λ q z. h y ≡ q → contains_class z.candidates (class_of g y) ≡ true)
        (λ e. classes y (k, e)) (λ q ne e. subst (λ q. contains_class (object_of s q).candidates (class_of g y) ≡ true) e (c.classes y k)) (h y) refl;
    added = c.added;
  }

-- a number within both ends is within the lesser
within_lesser : (m : ℕ) (e f : Option ℕ) → within m e ≡ true → within m f ≡ true → within m (lesser_end e f) ≡ true
within_lesser m None f k l = l
within_lesser m (Some e) None k l = k
within_lesser m (Some e) (Some f) k l = let a = leb-true m e k in let b = leb-true m f l in le-leb m (min e f) (omega arith)

contains_meet : (a b : Count) (n : ℕ) → contains a n ≡ true → contains b n ≡ true → contains (meet a b) n ≡ true
contains_meet a b n k l =
    let one = contains_parts a n k in let two = contains_parts b n l in let low = one.0 in let high = two.0 in
    and_from (nat_le (max a.lo b.lo) n) (within n (lesser_end a.hi b.hi)) (le-leb (max a.lo b.lo) n (omega arith))
    (within_lesser n a.hi b.hi one.1 two.1)

contains_at_most : (n m : ℕ) → m ≤ n → contains (record { lo = 0; hi = Some n }) m ≡ true
contains_at_most n m l = and_from (nat_le 0 m) (nat_le m n) (le-leb 0 m (omega arith)) (le-leb m n l)

contains_at_least : (n m : ℕ) → n ≤ m → contains (record { lo = n; hi = None }) m ≡ true
contains_at_least n m l = and_from (nat_le n m) true (le-leb n m l) refl

module _ (p : Problem) (s : State) (g : Graph) (h : Placing) (c : Concretises p s g h) where
  -- an object whose count is met with one that contains the number of its nodes
  count_placed : (o : ℕ) (count : Count) → o < length s.objects → contains count (nodes_at g h o) ≡ true
      → IsPlaced p (with_object s o (record (object_of s o) { count = meet (object_of s o).count count })) g h
  count_placed o count l fits = replaced_placed p s g h (placed p s g h c.stands) o l (record (object_of s o) { count = meet (object_of s o).count count }) refl
      (contains_meet (object_of s o).count count (nodes_at g h o) (c.stands.counts o l) fits) (candidate p s g h c.stands o)

  -- an object that keeps candidates of which each of its nodes has one
  candidates_placed : (o : ℕ) (set : ClassSet) → o < length s.objects → ((y : ℕ) → IsNodeOf g h o y → contains_class set (class_of g y) ≡ true)
      → IsPlaced p (with_object s o (record (object_of s o) { candidates = intersection (object_of s o).candidates set })) g h
  candidates_placed o set l kept = replaced_placed p s g h (placed p s g h c.stands) o l (record (object_of s o) { candidates = intersection (object_of s o).candidates set }) refl
      (c.stands.counts o l) (λ y at. contains-intersection nat_cmp_total (object_of s o).candidates set (class_of g y)
      ∙ and_from (contains_class (object_of s o).candidates (class_of g y)) (contains_class set (class_of g y)) (candidate p s g h c.stands o y at) (kept y at))

  not_lost : (o : ℕ) (set : ClassSet) → ((y : ℕ) → IsNodeOf g h o y → contains_class set (class_of g y) ≡ true → ⊥)
      → (y : ℕ) → IsNodeOf g h o y → contains_class (difference (object_of s o).candidates set) (class_of g y) ≡ true
  not_lost o set lost y at = contains-difference nat_cmp_total (object_of s o).candidates set (class_of g y)
      ∙ and_from (contains_class (object_of s o).candidates (class_of g y)) (not (contains_class set (class_of g y))) (candidate p s g h c.stands o y at)
      (not_from_false (contains_class set (class_of g y)) (false_from_ne_true (contains_class set (class_of g y)) (lost y at)))

  -- a fact that is merged into what was added is kept
  merged_kept : (r a b : ℕ) (v : Truth) → Claims g h (Merge r a b v) → (q x y : ℕ) → x < size_of g → y < size_of g
      → keeps (s.added q (h x) (h y)) (has_edge g q x y) ≡ true → keeps ((merged_at s r a b v).added q (h x) (h y)) (has_edge g q x y) ≡ true
  merged_kept r a b v claim q x y lx ly k = elim (cases_Bool (is_at r a b q (h x) (h y))) [
    | inl e ↦ (let at = numbers-from_is_at r a b q (h x) (h y) e in
        rw e (keeps-merge (s.added q (h x) (h y)) v (has_edge g q x y)
        ∙ and_from (keeps (s.added q (h x) (h y)) (has_edge g q x y)) (keeps v (has_edge g q x y)) k
        (subst (λ r. keeps v (has_edge g r x y) ≡ true) (sym at.0) (claim x y (lx, at.1) (ly, at.2)))))
    | inr e ↦ rw e k
  ]

  effect_placed : (e : Effect) → FitsEffect s e → Claims g h e → IsPlaced p (after_effect s e) g h
  effect_placed Close fits claim = absurd claim
  effect_placed (AtMost o n) fits claim = count_placed o (record { lo = 0; hi = Some n }) fits (contains_at_most n (nodes_at g h o) claim)
  effect_placed (AtLeast o n) fits claim = count_placed o (record { lo = n; hi = None }) fits (contains_at_least n (nodes_at g h o) claim)
  effect_placed (Keep o set) fits claim = candidates_placed o set fits claim
  effect_placed (Lose o set) fits claim = candidates_placed o (difference (object_of s o).candidates set) fits (not_lost o set claim)
  effect_placed (Merge r a b v) fits claim = (let was = placed p s g h c.stands in record {
    many = was.many;
    numbered = was.numbered;
    objects = was.objects;
    origins = was.origins;
    counts = was.counts;
    classes = was.classes;
    added = λ q x y k kx ky. merged_kept r a b v claim q x y kx ky (was.added q x y k kx ky);
  })

pub effects_lose_no_graph : EffectsLoseNoGraph
effects_lose_no_graph p s g h e c fits claim =
    record { satisfies = c.satisfies; stands = stands p g c.satisfies (after_effect s e) h (effect_placed p s g h c e fits claim) }
