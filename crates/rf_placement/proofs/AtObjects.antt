-- The nodes of an object: their edges, their classes and how many there are.
use Rattle.std.proofs.Common.{◌≡◌, ℕ, ◌+◌, ◌-◌, ◌≤◌, ◌<◌, Bool, true, false, not, ◌&&◌, ◌||◌, ◌==◌, Option, Some, None, length, ◌⊎◌, refl, sym, subst, inl, inr, arith, true≢false}
use Rattle.std.specs.Prelude.{is_some, unwrap_or, nat_le, nat_lt}
use Rattle.std.specs.FinSet.{contains as contains_class}
use Rattle.std.proofs.lemmas.Bool.{and_parts, and_from, and_right, cases_Bool, cases_lt, not-true, both_ways, eqb-true, eq-eqb, leb-true, ltb-true, le-leb, or_cases}
use Rattle.rf_finite.specs.Range.{count_below, sum_below}
use Rattle.rf_finite.specs.Ends.{ends_below, within}
use Rattle.rf_finite.proofs.Range.{count_below-positive, one-from_count_below, count_below-without, count_below-none, count_below-apart, each-from_all_below, some_below-from_one, sum_below-le, sum_below-counts, same-from_count_below}
use Rattle.rf_finite.proofs.Ends.{sum_below-within, within-le}
use Rattle.rf_values.specs.Count.{ends_at}
use Rattle.rf_values.specs.Truth.{keeps}
use Rattle.rf_values.proofs.Kept.{holds-from_keeps, may-from_keeps}
use Rattle.rf_problem.specs.declared.problem.Problem.{Problem}
use Rattle.rf_graph.specs.Graph.{class_of, has_edge, size_of}
use Rattle.rf_graph.specs.declared.graph.Graph.{Graph}
use Rattle.rf_state.specs.State.{State, fact, object_of}
use Rattle.rf_rules.specs.Rules.{is_edge, is_object}
use Rattle.rf_rules.specs.Words.{any_candidate, each_candidate, hi, is_less, is_one, lo, may, must, reaches}
use Rattle.rf_placement.specs.Placement.{IsNodeOf, Placing, StandsFor, nodes_at}
use Rattle.rf_placement.proofs.Satisfied.{contains_parts}

pub known_end : (e : Option ℕ) → is_some e ≡ true → e ≡ Some (unwrap_or e 0)
known_end None h = absurd (true≢false (sym h))
known_end (Some n) h = refl

-- what is within a finite end is at most that
pub below_end : (n : ℕ) (e : Option ℕ) → is_some e ≡ true → within n e ≡ true → n ≤ unwrap_or e 0
below_end n None some fits = absurd (true≢false (sym some))
below_end n (Some m) some fits = leb-true n m fits

-- an end that is less than a number is some end
pub less_end : (e : Option ℕ) (n : ℕ) → is_less e n ≡ true → (m : ℕ) × (e ≡ Some m) × (m < n)
less_end None n h = absurd (true≢false (sym h))
less_end (Some m) n h = elim (cases_lt m n) [
  | inl l ↦ (m, refl, l)
  | inr ge ↦ absurd (both_ways (nat_le n m) (not-true (nat_le n m) h) (le-leb n m ge))
]

-- an end that a number reaches is some end
pub reached_end : (n : ℕ) (e : Option ℕ) → reaches n e ≡ true → (m : ℕ) × (e ≡ Some m) × (m ≤ n)
reached_end n None h = absurd (true≢false (sym h))
reached_end n (Some m) h = (m, refl, leb-true m n h)

ends_at_one : (e : Option ℕ) → ends_at 1 e ≡ true → within 2 e ≡ false
ends_at_one None h = absurd (true≢false (sym h))
ends_at_one (Some m) h = let e = eqb-true m 1 h in rw e refl

-- the numbers of a reference and two objects are in range
pub edge_parts : (p : Problem) (s : State) (r a b : ℕ) → is_edge p s r a b ≡ true → (r < length p.references) × (a < length s.objects) × (b < length s.objects)
edge_parts p s r a b h =
    let one = and_parts (nat_lt r (length p.references)) (is_object s a && is_object s b) h in
    let two = and_parts (is_object s a) (is_object s b) one.1 in
    (ltb-true r (length p.references) one.0, ltb-true a (length s.objects) two.0, ltb-true b (length s.objects) two.1)

module _ (p : Problem) (s : State) (g : Graph) (h : Placing) (c : StandsFor p s g h) where
  pub lowers : (o : ℕ) → o < length s.objects → lo s o ≤ nodes_at g h o
  lowers o l = (contains_parts (object_of s o).count (nodes_at g h o) (c.counts o l)).0

  pub uppers : (o : ℕ) → o < length s.objects → within (nodes_at g h o) (hi s o) ≡ true
  uppers o l = (contains_parts (object_of s o).count (nodes_at g h o) (c.counts o l)).1

  -- an object of which a node is is there
  pub object_there : (o x : ℕ) → IsNodeOf g h o x → o < length s.objects
  object_there o x at = subst (λ o. o < length s.objects) at.1 (c.objects x at.0)

  -- a node of an object whose lower end is at least 1
  pub node_at : (o : ℕ) → o < length s.objects → nat_le 1 (lo s o) ≡ true → (x : ℕ) × IsNodeOf g h o x
  node_at o l m =
      let low = leb-true 1 (lo s o) m in let count = lowers o l in
      let found = one-from_count_below (size_of g) (λ x. h x == o) (omega arith) in
      (found.0, (found.1, eqb-true (h found.0) o found.2))

  -- an object has no node, or one can be named
  pub none_or_some : (o : ℕ) → (nodes_at g h o ≡ 0) ⊎ ((x : ℕ) × IsNodeOf g h o x)
  none_or_some o = elim (cases_lt 0 (nodes_at g h o)) [
    | inl some ↦ (let found = one-from_count_below (size_of g) (λ x. h x == o) (omega arith) in inr (found.0, (found.1, eqb-true (h found.0) o found.2)))
    | inr none ↦ inl (omega arith)
  ]

  pub counted_at : (o x : ℕ) → IsNodeOf g h o x → 1 ≤ nodes_at g h o
  counted_at o x at = count_below-positive (size_of g) (λ x. h x == o) x at.0 (eq-eqb (h x) o at.1)

  -- an object of which a node is may have one
  pub may_have_node : (o x : ℕ) → IsNodeOf g h o x → within 1 (hi s o) ≡ true
  may_have_node o x at = within-le 1 (nodes_at g h o) (hi s o) (counted_at o x at) (uppers o (object_there o x at))

  pub fact_kept : (r a b x y : ℕ) → r < length p.references → IsNodeOf g h a x → IsNodeOf g h b y → keeps (fact p s r a b) (has_edge g r x y) ≡ true
  fact_kept r a b x y l atx aty = subst (λ a. keeps (fact p s r a b) (has_edge g r x y) ≡ true) atx.1 (subst (λ b. keeps (fact p s r (h x) b) (has_edge g r x y) ≡ true) aty.1 (c.facts r x y l atx.0 aty.0))

  pub must_edge : (r a b x y : ℕ) → r < length p.references → IsNodeOf g h a x → IsNodeOf g h b y → must p s r a b ≡ true → has_edge g r x y ≡ true
  must_edge r a b x y l atx aty m = holds-from_keeps (fact p s r a b) (has_edge g r x y) (fact_kept r a b x y l atx aty) m

  pub may_edge : (r a b x y : ℕ) → r < length p.references → IsNodeOf g h a x → IsNodeOf g h b y → has_edge g r x y ≡ true → may p s r a b ≡ true
  may_edge r a b x y l atx aty e = may-from_keeps (fact p s r a b) (has_edge g r x y) (fact_kept r a b x y l atx aty) e

  -- the class of a node is a candidate of its object
  pub candidate : (o x : ℕ) → IsNodeOf g h o x → contains_class (object_of s o).candidates (class_of g x) ≡ true
  candidate o x at = subst (λ o. contains_class (object_of s o).candidates (class_of g x) ≡ true) at.1 (c.classes x at.0)

  -- what each candidate passes the class of a node passes, and what that passes some candidate does
  pub class_passes : (o x : ℕ) (test : ℕ → Bool) → class_of g x < length p.classes → IsNodeOf g h o x → each_candidate p s o test ≡ true → test (class_of g x) ≡ true
  class_passes o x test l at all =
      let here = each-from_all_below (length p.classes) (λ d. not (contains_class (object_of s o).candidates d) || test d) all (class_of g x) l in
      elim (or_cases (not (contains_class (object_of s o).candidates (class_of g x))) (test (class_of g x)) here) [
        | inl e ↦ absurd (both_ways (contains_class (object_of s o).candidates (class_of g x)) (not-true (contains_class (object_of s o).candidates (class_of g x)) e) (candidate o x at))
        | inr e ↦ e
      ]

  pub candidate_passes : (o x : ℕ) (test : ℕ → Bool) → class_of g x < length p.classes → IsNodeOf g h o x → test (class_of g x) ≡ true → any_candidate p s o test ≡ true
  candidate_passes o x test l at passes = some_below-from_one (length p.classes) (λ d. contains_class (object_of s o).candidates d && test d) (class_of g x) l
      (and_from (contains_class (object_of s o).candidates (class_of g x)) (test (class_of g x)) (candidate o x at) passes)

  -- an object that has fewer than two nodes has one at most
  few_most : (n : ℕ) (e : Option ℕ) → within n e ≡ true → within 2 e ≡ false → n ≤ 1
  few_most n e w f = elim (cases_lt 1 n) [
    | inl l ↦ absurd (both_ways (within 2 e) f (within-le 2 n e l w))
    | inr g ↦ omega arith
  ]

  pub few_same : (o x y : ℕ) → within 2 (hi s o) ≡ false → IsNodeOf g h o x → IsNodeOf g h o y → x ≡ y
  few_same o x y few atx aty = same-from_count_below (size_of g) (λ x. h x == o) x y
      (few_most (nodes_at g h o) (hi s o) (uppers o (object_there o x atx)) few)
      atx.0 aty.0 (eq-eqb (h x) o atx.1) (eq-eqb (h y) o aty.1)

  -- an object whose nodes are the same has one at most
  pub same_most : (o : ℕ) → ((x y : ℕ) → IsNodeOf g h o x → IsNodeOf g h o y → x ≡ y) → nodes_at g h o ≤ 1
  same_most o same = elim (none_or_some o) [
    | inl none ↦ omega arith
    | inr x ↦ (let one = count_below-without (size_of g) (λ y. h y == o) x.0 x.1.0 (eq-eqb (h x.0) o x.1.1) in
        let rest = count_below-none (size_of g) (λ y. not (y == x.0) && h y == o) (λ y l. elim (cases_Bool (h y == o)) [
          | inl e ↦ (let here : (y == x.0) ≡ true = eq-eqb y x.0 (same y x.0 (l, eqb-true (h y) o e) x.1) in rw (e, here) refl)
          | inr e ↦ rw e (and_right (not (y == x.0)) false refl)
        ]) in
        omega arith)
  ]

  single_parts : (o : ℕ) → is_one s o ≡ true → (nat_le 1 (lo s o) ≡ true) × (within 2 (hi s o) ≡ false)
  single_parts o single =
      let parts = and_parts (lo s o == 1) (ends_at 1 (hi s o)) single in
      let low = eqb-true (lo s o) 1 parts.0 in
      (le-leb 1 (lo s o) (omega arith), ends_at_one (hi s o) parts.1)

  -- a single object has one node
  pub single_same : (o x y : ℕ) → is_one s o ≡ true → IsNodeOf g h o x → IsNodeOf g h o y → x ≡ y
  single_same o x y single atx aty = few_same o x y (single_parts o single).1 atx aty

  pub single_node : (o : ℕ) → o < length s.objects → is_one s o ≡ true → (x : ℕ) × IsNodeOf g h o x
  single_node o l single = node_at o l (single_parts o single).0

  -- the lower ends of the objects that pass are at most the number of their nodes, and their upper ends at least
  pub lows_le : (q : ℕ → Bool) → sum_below (length s.objects) q (lo s) ≤ count_below (size_of g) (λ y. q (h y))
  lows_le q =
      let lows = sum_below-le (length s.objects) q (lo s) (nodes_at g h) (λ k l e. lowers k l) in
      let total = sum_below-counts (size_of g) (length s.objects) h q c.objects in omega arith

  pub highs_le : (q : ℕ → Bool) (e : ℕ) → ends_below (length s.objects) q (hi s) ≡ Some e → count_below (size_of g) (λ y. q (h y)) ≤ e
  highs_le q e eq =
      let highs = sum_below-within (length s.objects) q (nodes_at g h) (hi s) e eq (λ k l m. uppers k l) in
      let total = sum_below-counts (size_of g) (length s.objects) h q c.objects in omega arith

  -- the nodes of an object and those of the others that pass are no more than all that pass
  pub apart_le : (q : ℕ → Bool) (b : ℕ) (r : ℕ → Bool) → ((y : ℕ) → IsNodeOf g h b y → r y ≡ true) → ((y : ℕ) → y < size_of g → q (h y) ≡ true → r y ≡ true)
      → nodes_at g h b + count_below (size_of g) (λ y. not (h y == b) && q (h y)) ≤ count_below (size_of g) r
  apart_le q b r here there = count_below-apart (size_of g) (λ y. h y == b) (λ y. not (h y == b) && q (h y)) r
      (λ y l e. here y (l, eqb-true (h y) b e))
      (λ y l e. there y l (and_parts (not (h y == b)) (q (h y)) e).1)
      (λ y e f. both_ways (h y == b) (not-true (h y == b) (and_parts (not (h y == b)) (q (h y)) f).0) e)

  -- a bound less the lower ends of the others
  pub most_beside : (q : ℕ → Bool) (b bound : ℕ) → nodes_at g h b + count_below (size_of g) (λ y. not (h y == b) && q (h y)) ≤ bound
      → nodes_at g h b ≤ bound - sum_below (length s.objects) (λ o. not (o == b) && q o) (lo s)
  most_beside q b bound fits = let lows = lows_le (λ o. not (o == b) && q o) in omega arith
