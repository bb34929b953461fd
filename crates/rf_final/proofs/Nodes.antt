-- A final state stands for its graph.
use Rattle.std.proofs.Common.{◌≡◌, ℕ, ◌<◌, Bool, true, false, cond, ◌&&◌, ◌==◌, length, get_or, ◌⊎◌, refl, sym, ap, ◌∙◌, subst, inl, inr, arith, true≢false}
use Rattle.std.specs.Prelude.{nat_le}
use Rattle.std.specs.FinSet.{contains as contains_class}
use Rattle.std.specs.List.{list_any}
use Rattle.std.proofs.lemmas.Bool.{and_from, and_parts, or_cases, cases_Bool, false_from_ne_true, eqb-true, eq-eqb, le-leb}
use Rattle.std.proofs.lemmas.List.{get_or-map, length-map}
use Rattle.rf_finite.specs.Ends.{within}
use Rattle.rf_finite.specs.Range.{count_below}
use Rattle.rf_finite.proofs.Ends.{within-from_le}
use Rattle.rf_finite.proofs.Joined.{joined_found, joined_made}
use Rattle.rf_finite.proofs.Passing.{apart_passing, at_passing, count_only, count_passing, length_passing, place_of}
use Rattle.rf_values.specs.Count.{contains}
use Rattle.rf_values.specs.declared.truth.Truth.TheVariants.{True, False}
use Rattle.rf_problem.specs.declared.problem.Problem.{Problem}
use Rattle.rf_graph.specs.Graph.{class_of, has_edge, no_node, origin_of, size_of}
use Rattle.rf_graph.specs.declared.graph.Edge.{Edge}
use Rattle.rf_state.specs.State.{State, fact, object_of}
use Rattle.rf_rules.specs.Effects.{is_same_truth}
use Rattle.rf_rules.specs.Words.{hi, is_one, lo}
use Rattle.rf_tree.specs.Saturated.{IsFinal}
use Rattle.rf_placement.specs.Placement.{StandsFor, nodes_at}
use Rattle.rf_final.specs.GraphOf.{class_in, edge_if, graph_of, is_edge, node_of, reference_edges, row_edges, single_at, singles}
use Rattle.rf_final.specs.Reached.{IsReached}
use Rattle.rf_final.specs.Standing.{HasNodes}
use Rattle.rf_final.proofs.Back.{reached_stocked}
use Rattle.rf_final.proofs.Firsts.{first-passes}
use Rattle.rf_final.proofs.Settled.{fact_settled, lower_is, one_candidate, upper_is}
use Rattle.rf_final.proofs.Truths.{same_truth}

module _ (p : Problem) (s : State) where
  -- how many single objects there are
  abbrev pub many : ℕ
  many = count_below (length s.objects) (is_one s)

  pub size_is : size_of (graph_of p s) ≡ many
  size_is = length-map (singles s) (node_of p s) ∙ length_passing (length s.objects) (is_one s)

  -- the object of a node is a single one of the state
  pub node_single : (x : ℕ) → x < size_of (graph_of p s) → (single_at s x < length s.objects) × (is_one s (single_at s x) ≡ true)
  node_single x l = let n = size_is in let r = at_passing (length s.objects) (is_one s) x (omega arith) in (r.0, r.1)

  pub node_of_single : (o : ℕ) → o < length s.objects → is_one s o ≡ true → (x : ℕ) × (x < size_of (graph_of p s)) × (single_at s x ≡ o)
  node_of_single o l h = let n = size_is in let r = place_of (length s.objects) (is_one s) o l h in
      let m = r.0 in (count_below o (is_one s), omega arith, r.1)

  pub same_object : (x y : ℕ) → x < size_of (graph_of p s) → y < size_of (graph_of p s) → single_at s x ≡ single_at s y → x ≡ y
  same_object x y lx ly e = let n = size_is in apart_passing (length s.objects) (is_one s) x y (omega arith) (omega arith) e

  node_is : (x : ℕ) → x < size_of (graph_of p s) → get_or (graph_of p s).nodes x no_node ≡ node_of p s (single_at s x)
  node_is x l = get_or-map (node_of p s) (singles s) x 0 no_node (let n = length-map (singles s) (node_of p s) in omega arith)

  pub class_is : (x : ℕ) → x < size_of (graph_of p s) → class_of (graph_of p s) x ≡ class_in p s (single_at s x)
  class_is x l = ap (λ n. n.class) (node_is x l)

  pub origin_is : (x : ℕ) → x < size_of (graph_of p s) → origin_of (graph_of p s) x ≡ (object_of s (single_at s x)).origin
  origin_is x l = ap (λ n. n.origin) (node_is x l)

  -- how many nodes have objects that pass
  pub count_nodes : (q : ℕ → Bool) → count_below (size_of (graph_of p s)) (λ x. q (single_at s x)) ≡ count_below (length s.objects)
      (λ o. is_one s o && q o)
  count_nodes q = ap (λ n. count_below n (λ x. q (single_at s x))) size_is ∙ count_passing (length s.objects) (is_one s) q

  abbrev edge_test : ℕ → ℕ → ℕ → Edge → Bool
  edge_test r x y e = e.reference == r && (e.from == x && e.to == y)

  one_edge : (r x y q u v : ℕ) → list_any (edge_test r x y) (edge_if (is_edge p s q u v) q u v) ≡ true
      → (q ≡ r) × (u ≡ x) × (v ≡ y) × (is_edge p s q u v ≡ true)
  one_edge r x y q u v h = elim (cases_Bool (is_edge p s q u v)) [
    | inl e ↦ (let k = rw e at h in elim (or_cases (q == r && (u == x && v == y)) false k) [
      | inl t ↦ (let a = and_parts (q == r) (u == x && v == y) t in let b = and_parts (u == x) (v == y) a.1 in
          (eqb-true q r a.0, eqb-true u x b.0, eqb-true v y b.1, e))
      | inr t ↦ absurd (true≢false (sym t))
    ])
    | inr e ↦ absurd (true≢false (sym (rw e at h)))
  ]

  pub edge_found : (r x y : ℕ) → has_edge (graph_of p s) r x y ≡ true
      → (r < length p.references) × (x < size_of (graph_of p s)) × (y < size_of (graph_of p s)) ×
      (fact p s r (single_at s x) (single_at s y) ≡ True)
  edge_found r x y h =
      let n = length (singles s) in let same : n ≡ size_of (graph_of p s) = sym (length-map (singles s) (node_of p s)) in
      let one = joined_found (length p.references) (edge_test r x y) (λ q. reference_edges p s q n) h in
      let two = joined_found n (edge_test r x y) (λ u. row_edges p s one.0 u n) one.2 in
      let three = joined_found n (edge_test r x y) (λ v. edge_if (is_edge p s one.0 two.0 v) one.0 two.0 v) two.2 in
      let e = one_edge r x y one.0 two.0 three.0 three.2 in
      let lr = one.1 in let lx = two.1 in let ly = three.1 in let er = e.0 in let ex = e.1 in let ey = e.2 in (
        omega arith,
        omega arith,
        omega arith,
        same_truth (fact p s r (single_at s x) (single_at s y)) True
            (subst (λ r. is_edge p s r x y ≡ true) er (subst (λ x. is_edge p s one.0 x y ≡ true) ex
            (subst (λ y. is_edge p s one.0 two.0 y ≡ true) ey e.3))),
      )

  pub edge_made : (r x y : ℕ) → r < length p.references → x < size_of (graph_of p s) → y < size_of (graph_of p s)
      → fact p s r (single_at s x) (single_at s y) ≡ True
      → has_edge (graph_of p s) r x y ≡ true
  edge_made r x y lr lx ly t =
      let n = length (singles s) in let same : n ≡ size_of (graph_of p s) = sym (length-map (singles s) (node_of p s)) in
      let e : is_edge p s r x y ≡ true = rw t refl in
      joined_made (length p.references) (edge_test r x y) (λ q. reference_edges p s q n) r lr
      (joined_made n (edge_test r x y) (λ u. row_edges p s r u n) x (omega arith)
      (joined_made n (edge_test r x y) (λ v. edge_if (is_edge p s r x v) r x v) y (omega arith)
      (rw (e, eq-eqb r r refl, eq-eqb x x refl, eq-eqb y y refl) refl)))

module _ (p : Problem) (s : State) (f : IsFinal p s) where
  nodes_are : (o : ℕ) → o < length s.objects → nodes_at (graph_of p s) (single_at s) o ≡ cond (is_one s o) 1 0
  nodes_are o l = count_nodes p s (λ k. k == o) ∙ count_only (length s.objects) (is_one s) o l

  -- the class of a node is a candidate of its object
  class_there : (x : ℕ) → x < size_of (graph_of p s)
      → (class_in p s (single_at s x) < length p.classes) × (contains_class (object_of s (single_at s x)).candidates
      (class_in p s (single_at s x)) ≡ true)
  class_there x l =
      let a = node_single p s x l in let c = one_candidate p s f (single_at s x) a.0 a.1 in
      first-passes (length p.classes) (contains_class (object_of s (single_at s x)).candidates) c.0 c.1 c.2

  pub class_below : (x : ℕ) → x < size_of (graph_of p s) → class_of (graph_of p s) x < length p.classes
  class_below x l = subst (λ c. c < length p.classes) (sym (class_is p s x l)) (class_there x l).0

  -- what is known of an edge between two nodes is true or false
  pub settled_node : (r x y : ℕ) → r < length p.references → x < size_of (graph_of p s) → y < size_of (graph_of p s)
      → (fact p s r (single_at s x) (single_at s y) ≡ True) ⊎ (fact p s r (single_at s x) (single_at s y) ≡ False)
  settled_node r x y lr lx ly = let a = node_single p s x lx in let b = node_single p s y ly in
      fact_settled p s f r (single_at s x) (single_at s y) lr a.0 b.0 a.1 b.1

  pub no_edge : (r x y : ℕ) → fact p s r (single_at s x) (single_at s y) ≡ False → has_edge (graph_of p s) r x y ≡ false
  no_edge r x y e = false_from_ne_true (has_edge (graph_of p s) r x y) (λ h.
      let t = (edge_found p s r x y h).3 in true≢false (ap (λ v. is_same_truth v True) (sym t ∙ e)))

  pub has_nodes : HasNodes s (graph_of p s) (single_at s)
  has_nodes = record {
    objects = λ x l. (node_single p s x l).0;
    origins = λ x l. sym (origin_is p s x l);
    counts = λ o l. (let a = lower_is p s f o l in let b = upper_is p s f o l in let n = nodes_are o l in
        let m : ℕ = cond (is_one s o) 1 0 in
        subst (λ m. contains (object_of s o).count m ≡ true) (sym n)
        (and_from (nat_le (lo s o) m) (within m (hi s o)) (le-leb (lo s o) m (omega arith)) (within-from_le m m (hi s o) b (omega arith))));
    classes = λ x l. subst (λ c. contains_class (object_of s (single_at s x)).candidates c ≡ true) (sym (class_is p s x l))
        (class_there x l).1;
  }

  -- each object of the problem is there in a state that is reached
  pub stands : IsReached p s → StandsFor p s (graph_of p s) (single_at s)
  stands reached = record {
    many = (reached_stocked p s reached).many;
    numbered = (reached_stocked p s reached).numbered;
    objects = has_nodes.objects;
    origins = has_nodes.origins;
    counts = has_nodes.counts;
    classes = has_nodes.classes;
    facts = λ r x y lr lx ly. elim (settled_node r x y lr lx ly) [
      | inl e ↦ rw (e, edge_made p s r x y lr lx ly e) refl
      | inr e ↦ rw (e, no_edge r x y e) refl
    ];
  }
