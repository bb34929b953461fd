-- The rules of containment are sound.
use Rattle.std.proofs.Common.{◌≡◌, ℕ, ◌<◌, Bool, true, not, ◌&&◌, ◌||◌, ◌==◌, length, refl, sym, ap, ◌∙◌, subst, inl, inr}
use Rattle.std.specs.Prelude.{nat_le}
use Rattle.std.proofs.lemmas.Bool.{and_parts, and_from, or_cases, not-true, not_from_false, false_from_ne_true, both_ways, eqb-true, eq-eqb}
use Rattle.rf_finite.specs.Ends.{within}
use Rattle.rf_finite.specs.Range.{all_below, some_below}
use Rattle.rf_finite.specs.Walks.{IsReachable}
use Rattle.rf_finite.proofs.Range.{each-from_all_below, one-from_some_below, some_below-from_one}
use Rattle.rf_finite.proofs.Walks.{IsReachable-along, IsReachable-from_edge, IsReachable-from_walk_below, IsReachable-trans}
use Rattle.rf_problem.specs.Contained.{is_contained_class, is_containing}
use Rattle.rf_problem.specs.declared.problem.Problem.{Problem}
use Rattle.rf_graph.specs.Graph.{class_of, has_edge, size_of}
use Rattle.rf_graph.specs.Violations.{contains_in}
use Rattle.rf_graph.specs.declared.graph.Graph.{Graph}
use Rattle.rf_state.specs.State.{State, fact}
use Rattle.rf_rules.specs.Containers.{IsPossible, is_other}
use Rattle.rf_rules.specs.Containment.{has_possible, is_contained, is_only_possible, is_possible, leads, must_hold}
use Rattle.rf_rules.specs.Rules.{is_edge}
use Rattle.rf_rules.specs.Words.{hi, is_one, is_unknown, lo, may, must}
use Rattle.rf_rules.specs.declared.rule.Rule.TheVariants.{Acyclic, Alone, ContainCount, MustContain, NoContainer, OneContainer}
use Rattle.rf_rules.proofs.ClassLemmas.{contains-classes_where}
use Rattle.rf_placement.specs.Placement.{Concretises, IsNodeOf, Placing}
use Rattle.rf_placement.proofs.Satisfied.{contains_in-edge, no_cycle, node_class_below, one_container, some_container}
use Rattle.rf_placement.proofs.AtObjects.{class_passes, counted_at, edge_parts, may_edge, may_have_node, must_edge, node_at, same_most, single_same}
use Rattle.rf_soundness.specs.SoundRules.{IsSoundRule}
use Rattle.rf_soundness.proofs.Conjunctions.{five_parts, four_parts, three_parts}

-- an edge of reference q contains node y of object b in node z, of an object that may contain b
record IsHeldBy (p : Problem) (s : State) (g : Graph) (h : Placing) (b y : ℕ) : Type 0 where
  pub q : ℕ
  pub z : ℕ
  pub node : z < size_of g
  pub edge : has_edge g q z y ≡ true
  pub possible : IsPossible p s b q (h z)

module _ (p : Problem) (s : State) (g : Graph) (h : Placing) (c : Concretises p s g h) where
  -- where an object has to contain another, the nodes of the one contain those of the other
  step_copied : (a b x y : ℕ) → IsNodeOf g h a x → IsNodeOf g h b y → must_hold p s a b ≡ true → contains_in p g x y ≡ true
  step_copied a b x y atx aty m =
      let q = one-from_some_below (length p.references) (λ q. is_containing p q && must p s q a b) m in
      let parts = and_parts (is_containing p q.0) (must p s q.0 a b) q.2 in
      contains_in-edge p g c.satisfies q.0 x y parts.0 (must_edge p s g h c.stands q.0 a b x y q.1 atx aty parts.1)

  -- where a walk of such steps leads from an object to another, through objects that have nodes, one of edges that contain leads
  -- from each node of the one to each node of the other
  pub walk_copied : (a b x y : ℕ) → IsNodeOf g h a x → IsNodeOf g h b y → leads p s a b ≡ true
      → IsReachable (contains_in p g) (λ z. true) (size_of g) x y
  walk_copied a b x y atx aty m =
      let has_node : ℕ → Bool = λ o. nat_le 1 (lo s o) in
      let w = IsReachable-from_walk_below (must_hold p s) has_node (length s.objects) a b m in
      IsReachable-along (must_hold p s) (contains_in p g) has_node (λ z. true) (length s.objects) (size_of g) (IsNodeOf g h)
      (λ i j u v atu atv k. step_copied i j u v atu atv k)
      (λ o l low. (let z = node_at p s g h c.stands o l low in (z.0, z.1, z.1.0, refl)))
      a w.0 b x y atx aty w.1

  -- a node whose class has to be contained is, by a node of an object that may contain its object
  held_by : (b y : ℕ) → IsNodeOf g h b y → is_contained_class p (class_of g y) ≡ true → IsHeldBy p s g h b y
  held_by b y aty contained =
      let r = some_container p g c.satisfies y aty.0 contained in
      let q = r.0 in let z = r.1 in let o = h z in
      let edge = may_edge p s g h c.stands q o b z y r.2 (r.3, refl) aty r.5 in
      let node = may_have_node p s g h c.stands o z (r.3, refl) in
      let can = and_from (may p s q o b) (within 1 (hi s o)) edge node in
      record {
        q = q;
        z = z;
        node = r.3;
        edge = r.5;
        possible = record {
          reference = r.2;
          object = c.stands.objects z r.3;
          possible = and_from (is_containing p q) (may p s q o b && within 1 (hi s o)) r.4 can;
        };
      }

  -- where one object alone may contain another, each node of the other is contained in a node of the one
  only_holder : (r a b y : ℕ) → is_only_possible p s r a b ≡ true → is_contained p s b ≡ true → IsNodeOf g h b y
      → (z : ℕ) × IsNodeOf g h a z × (has_edge g r z y ≡ true)
  only_holder r a b y only all aty =
      let there = node_class_below p g c.satisfies y aty.0 in
      let by = held_by b y aty (class_passes p s g h c.stands b y (is_contained_class p) there aty all) in
      let q = by.q in let o = h by.z in
      let is_that : ℕ → ℕ → Bool = λ q d. not (is_possible p s b q d) || (q == r && d == a) in
      let for_each : ℕ → Bool = λ q. all_below (length s.objects) (is_that q) in
      let others = (and_parts (is_possible p s b r a) (all_below (length p.references) for_each) only).1 in
      let those = each-from_all_below (length p.references) for_each others q by.possible.reference in
      let this = each-from_all_below (length s.objects) (is_that q) those o by.possible.object in
      elim (or_cases (not (is_possible p s b q o)) (q == r && o == a) this) [
        | inl e ↦ absurd (both_ways (is_possible p s b q o) (not-true (is_possible p s b q o) e) by.possible.possible)
        | inr e ↦ (let same = and_parts (q == r) (o == a) e in
            (by.z, (by.node, eqb-true o a same.1), subst (λ q. has_edge g q by.z y ≡ true) (eqb-true q r same.0) by.edge))
      ]

module _ (p : Problem) where
  pub one_container_sound : (r a b q d : ℕ) → IsSoundRule p (OneContainer r a b q d)
  one_container_sound r a b q d s g h c fit m z y atz aty =
      let l = edge_parts p s r a b (and_parts (is_edge p s r a b) (is_edge p s q d b) fit).0 in
      let parts = five_parts (is_containing p r) (is_containing p q) (must p s r a b) (nat_le 1 (lo s a)) (is_other p s r a b q d) m in
      let other = (and_parts (not (q == r && d == a)) (may p s q d b) parts.4).0 in
      let x = node_at p s g h c.stands a l.1 parts.3 in
      let edge = must_edge p s g h c.stands r a b x.0 y l.0 x.1 aty parts.2 in
      not_from_false (has_edge g q z y) (false_from_ne_true (has_edge g q z y) (λ e.
      let same = one_container p g c.satisfies r x.0 q z y parts.0 parts.1 edge e in
      both_ways (q == r && d == a) (not-true (q == r && d == a) other)
      (and_from (q == r) (d == a) (eq-eqb q r (sym same.0)) (eq-eqb d a (sym atz.1 ∙ (ap h (sym same.1) ∙ x.1.1))))))

  pub alone_sound : (r a b : ℕ) → IsSoundRule p (Alone r a b)
  alone_sound r a b s g h c fit m =
      let l = edge_parts p s r a b fit in
      let parts = three_parts (is_containing p r) (must p s r a b) (nat_le 1 (lo s b)) m in
      let z = node_at p s g h c.stands b l.2 parts.2 in
      let edge : (x : ℕ) → IsNodeOf g h a x → has_edge g r x z.0 ≡ true =
      λ x at. must_edge p s g h c.stands r a b x z.0 l.0 at z.1 parts.1 in
      same_most p s g h c.stands a (λ x y atx aty. (one_container p g c.satisfies r x r y z.0 parts.0 parts.0 (edge x atx) (edge y aty)).1)

  pub must_contain_sound : (r a b : ℕ) → IsSoundRule p (MustContain r a b)
  must_contain_sound r a b s g h c fit m x y atx aty =
      let unknown = is_unknown (fact p s r a b) in
      let parts = five_parts (is_containing p r) (is_contained p s b) (is_only_possible p s r a b) (is_one s a) unknown m in
      let z = only_holder p s g h c r a b y parts.2 parts.1 aty in
      subst (λ z. has_edge g r z y ≡ true) (single_same p s g h c.stands a z.0 x parts.3 z.1 atx) z.2

  pub contain_count_sound : (r a b : ℕ) → IsSoundRule p (ContainCount r a b)
  contain_count_sound r a b s g h c fit m =
      let l = edge_parts p s r a b fit in
      let parts = four_parts (is_containing p r) (is_contained p s b) (is_only_possible p s r a b) (nat_le 1 (lo s b)) m in
      let y = node_at p s g h c.stands b l.2 parts.3 in
      let z = only_holder p s g h c r a b y.0 parts.2 parts.1 y.1 in
      counted_at p s g h c.stands a z.0 z.1

  pub no_container_sound : (b : ℕ) → IsSoundRule p (NoContainer b)
  no_container_sound b s g h c fit m y aty k =
      let there = node_class_below p g c.satisfies y aty.0 in
      let by = held_by p s g h c b y aty (sym (contains-classes_where p (is_contained_class p) (class_of g y) there) ∙ k) in
      let of_reference : ℕ → Bool = λ q. some_below (length s.objects) (is_possible p s b q) in
      both_ways (has_possible p s b) (not-true (has_possible p s b) m)
      (some_below-from_one (length p.references) of_reference by.q by.possible.reference
      (some_below-from_one (length s.objects) (is_possible p s b by.q) (h by.z) by.possible.object by.possible.possible))

  pub acyclic_sound : (r a b : ℕ) → IsSoundRule p (Acyclic r a b)
  acyclic_sound r a b s g h c fit m x y atx aty =
      let parts = three_parts (is_containing p r) (may p s r a b) ((a == b && is_one s a) || leads p s b a) m in
      let step = IsReachable-from_edge (contains_in p g) (λ z. true) (size_of g) in
      not_from_false (has_edge g r x y) (false_from_ne_true (has_edge g r x y) (λ e.
      let edge = contains_in-edge p g c.satisfies r x y parts.0 e in
      elim (or_cases (a == b && is_one s a) (leads p s b a) parts.2) [
        | inl q ↦ (let here = and_parts (a == b) (is_one s a) q in
            let same = single_same p s g h c.stands a x y here.1 atx (aty.0, aty.1 ∙ sym (eqb-true a b here.0)) in
            no_cycle p g c.satisfies x atx.0 (step x x (subst (λ y. contains_in p g x y ≡ true) (sym same) edge)))
        | inr q ↦ no_cycle p g c.satisfies x atx.0 (IsReachable-trans (contains_in p g) (λ z. true) (size_of g) x y x aty.0 refl
            (step x y edge) (walk_copied p s g h c b a y x aty atx q))
      ]))
