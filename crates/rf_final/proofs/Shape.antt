-- The graph of a final state has the shape that the problem asks for.
use Rattle.std.proofs.Common.{◌≡◌, ℕ, ◌-◌, ◌≤◌, ◌<◌, Bool, true, false, not, ◌&&◌, ◌||◌, ◌==◌, Option, Some, None, List, [], ◌∷◌, length, map, refl, sym, ap, ◌∙◌, subst, inl, inr, arith, true≢false}
use Rattle.std.specs.Prelude.{is_some, nat_le, nat_lt, unwrap_or}
use Rattle.std.proofs.lemmas.Bool.{and_parts, and_from, or_left, or_right, cases_Bool, cases_lt, not_from_false, true_from_ne_false, both_ways, eqb-true, eq-eqb, le-leb, lt-ltb}
use Rattle.rf_finite.specs.Ends.{within}
use Rattle.rf_finite.specs.Range.{count_below, some_below}
use Rattle.rf_finite.specs.Walks.{IsReachable, IsWalk}
use Rattle.rf_finite.proofs.Lists.{list_any-from_one, one-from_list_any}
use Rattle.rf_finite.proofs.Passing.{ends_singles, sum_singles}
use Rattle.rf_finite.proofs.Range.{count_below-same, one-from_count_below, one-from_some_below, some_below-from_one}
use Rattle.rf_finite.proofs.Walks.{walk_below-from_IsWalk}
use Rattle.rf_values.specs.Truth as truth
use Rattle.rf_values.specs.Truth.{merge}
use Rattle.rf_values.specs.declared.truth.Truth.{Truth}
use Rattle.rf_values.specs.declared.truth.Truth.TheVariants.{True, False}
use Rattle.rf_problem.specs.Classes.{is_below}
use Rattle.rf_problem.specs.Contained.{is_contained_class, is_containing}
use Rattle.rf_problem.specs.Parts.{no_reference, reference_at}
use Rattle.rf_problem.specs.declared.problem.Problem.{Problem}
use Rattle.rf_graph.specs.Graph.{class_of, has_edge, size_of}
use Rattle.rf_graph.specs.Violations.{contains_in}
use Rattle.rf_graph.specs.declared.graph.Edge.{Edge}
use Rattle.rf_state.specs.State.{State, fact, some_candidate}
use Rattle.rf_state.proofs.FactLemmas.{fact-mirrored, opposite}
use Rattle.rf_rules.specs.Containment.{has_possible, is_possible, leads, must_hold}
use Rattle.rf_rules.specs.Degrees.{may_sum, must_sum_beside}
use Rattle.rf_rules.specs.Effects.{is_same_truth}
use Rattle.rf_rules.specs.Rules.{is_edge, is_object}
use Rattle.rf_rules.specs.Words.{hi, is_one, lo, max, may, min, must}
use Rattle.rf_rules.specs.declared.rule.Rule.TheVariants.{Acyclic, NoContainer, OneContainer, Room, TypeLow}
use Rattle.rf_tree.specs.Saturated.{IsFinal}
use Rattle.rf_final.specs.GraphOf.{graph_of, single_at}
use Rattle.rf_final.specs.Reached.{IsReached}
use Rattle.rf_final.proofs.Classes.{node_below, node_not_lost}
use Rattle.rf_final.proofs.Counts.{less_than, others}
use Rattle.rf_final.proofs.Nodes.{count_nodes, edge_found, edge_made, no_edge, node_of_single, node_single, same_object, settled_node}
use Rattle.rf_final.proofs.Settled.{counts, edge_there, lower_is, not_less, quiet, single_from, single_low, upper_is}
use Rattle.rf_final.proofs.Truths.{fact_parts, false_changes, fits_classes}

module _ (p : Problem) (s : State) (f : IsFinal p s) where
  -- where what is known of an edge is true, no false is merged in
  not_added : (r a b : ℕ) → fact p s r a b ≡ True → not (is_same_truth (merge (s.added r a b) False) (s.added r a b)) ≡ false → ⊥
  not_added r a b t e =
      let added = (fact_parts p s r a b true (rw t refl)).added in
      both_ways (not (is_same_truth (merge (s.added r a b) False) (s.added r a b))) e
      (not_from_false (is_same_truth (merge (s.added r a b) False) (s.added r a b)) (false_changes (s.added r a b) added))

  pub edge_ends : IsReached p s → (r x y : ℕ) → has_edge (graph_of p s) r x y ≡ true
      → (is_below p.classes (class_of (graph_of p s) x) (reference_at p.references r).source ≡ true) ×
      (is_below p.classes (class_of (graph_of p s) y) (reference_at p.references r).target ≡ true)
  edge_ends reached r x y h =
      let e = edge_found p s r x y h in let a = single_at s x in let b = single_at s y in
      let from = some_candidate p s a (reference_at p.references r).source in
      let to = some_candidate p s b (reference_at p.references r).target in
      let both = and_parts from to (fits_classes (from && to) (fact_parts p s r a b true (let t = e.3 in rw t refl)).classes) in (
        node_below p s f reached x (reference_at p.references r).source (p.references_fit.sources r no_reference e.0) e.1 both.0,
        node_below p s f reached y (reference_at p.references r).target (p.references_fit.targets r no_reference e.0) e.2 both.1,
      )

  pub edge_opposite : (r q x y : ℕ) → has_edge (graph_of p s) r x y ≡ true → (reference_at p.references r).opposite ≡ Some q
      → has_edge (graph_of p s) q y x ≡ true
  edge_opposite r q x y h o =
      let e = edge_found p s r x y h in let m = opposite p r q o in
      edge_made p s q y x m.there e.2 e.1 (sym (fact-mirrored p s r q (single_at s x) (single_at s y) o) ∙ e.3)

  -- how many edges a node has, counted over objects
  degree_is : (r x : ℕ) (test : Truth → Bool) → test True ≡ true → test False ≡ false → r < length p.references → x < size_of (graph_of p s)
      → count_below (size_of (graph_of p s)) (has_edge (graph_of p s) r x) ≡ count_below (length s.objects)
      (λ o. is_one s o && test (fact p s r (single_at s x) o))
  degree_is r x test of_true of_false lr lx =
      count_below-same (size_of (graph_of p s)) (has_edge (graph_of p s) r x) (λ y. test (fact p s r (single_at s x) (single_at s y)))
      (λ y ly. elim (settled_node p s f r x y lr lx ly) [
        | inl e ↦ edge_made p s r x y lr lx ly e ∙ sym (ap test e ∙ of_true)
        | inr e ↦ no_edge p s f r x y e ∙ sym (ap test e ∙ of_false)
      ])
      ∙ count_nodes p s (λ o. test (fact p s r (single_at s x) o))

  pub degree_low : (r x : ℕ) → r < length p.references → x < size_of (graph_of p s)
      → is_below p.classes (class_of (graph_of p s) x) (reference_at p.references r).source ≡ true
      → (reference_at p.references r).range.lo ≤ count_below (size_of (graph_of p s)) (has_edge (graph_of p s) r x)
  degree_low r x lr lx below =
      let a = single_at s x in let at = node_single p s x lx in
      let count = degree_is r x truth.may refl refl lr lx in
      let total = count_below (length s.objects) (λ o. is_one s o && may p s r a o) in
      let ends : may_sum p s r a ≡ Some total = ends_singles (length s.objects) (may p s r a) (is_one s) (hi s) (upper_is p s f) in
      elim (cases_lt total (min p r)) [
        | inl lt ↦ absurd (node_not_lost p s f x (λ c. is_below p.classes c (reference_at p.references r).source) lx below
            (quiet p s f (TypeLow r a) (and_from (nat_lt r (length p.references)) (is_object s a) (lt-ltb r (length p.references) lr)
            (lt-ltb a (length s.objects) at.0))
            (less_than (may_sum p s r a) total (min p r) ends lt)))
        | inr ge ↦ omega arith
      ]

  pub degree_high : (r x : ℕ) → r < length p.references → x < size_of (graph_of p s)
      → within (count_below (size_of (graph_of p s)) (has_edge (graph_of p s) r x)) (reference_at p.references r).range.hi ≡ true
  degree_high r x lr lx = go (max p r) refl
    where
      go : (u : Option ℕ) → max p r ≡ u → within (count_below (size_of (graph_of p s)) (has_edge (graph_of p s) r x)) u ≡ true
      go None e = refl
      go (Some m) e =
          let d = count_below (size_of (graph_of p s)) (has_edge (graph_of p s) r x) in
          elim (cases_lt m d) [
            | inl lt ↦ (let y = one-from_count_below (size_of (graph_of p s)) (has_edge (graph_of p s) r x) (omega arith) in
                let found = edge_found p s r x y.0 y.2 in let t = found.3 in
                let a = single_at s x in let b = single_at s y.0 in let ata = node_single p s x lx in let atb = node_single p s y.0 y.1 in
                let held : must p s r a b ≡ true = rw t refl in
                let fits = quiet p s f (Room r a b) (edge_there p s f r a b lr ata.0 atb.0)
                (and_from (is_some (max p r)) (must p s r a b && nat_le 1 (lo s a)) (rw e refl)
                (and_from (must p s r a b) (nat_le 1 (lo s a)) held (single_low p s f a ata.0 ata.1))) in
                let top = not_less p s f b (unwrap_or (max p r) 0 - must_sum_beside p s r a b) atb.0 atb.1 fits in
                let sum = sum_singles (length s.objects) (λ c. not (c == b) && must p s r a c) (is_one s) (lo s) (lower_is p s f) in
                let rest = others (length s.objects) (is_one s) (must p s r a) b atb.0 atb.1 held in
                let count = degree_is r x truth.must refl refl lr lx in
                let most : unwrap_or (max p r) 0 ≡ m = rw e refl in
                absurd (omega arith))
            | inr ge ↦ le-leb d m ge
          ]

  pub held_once : (r x q y z : ℕ) → is_containing p r ≡ true → is_containing p q ≡ true → has_edge (graph_of p s) r x z ≡ true
      → has_edge (graph_of p s) q y z ≡ true → (r ≡ q) × (x ≡ y)
  held_once r x q y z cr cq hr hq =
      let er = edge_found p s r x z hr in let eq = edge_found p s q y z hq in
      let a = single_at s x in let b = single_at s z in let c = single_at s y in
      let ata = node_single p s x er.1 in let atb = node_single p s z er.2 in let atc = node_single p s y eq.1 in
      let tr = er.3 in let tq = eq.3 in
      elim (cases_Bool (q == r && c == a)) [
        | inl e ↦ (let parts = and_parts (q == r) (c == a) e in (
          sym (eqb-true q r parts.0),
          same_object p s x y er.1 eq.1
              (sym (eqb-true c a parts.1)),
        ))
        | inr e ↦ absurd (not_added q c b tq (quiet p s f (OneContainer r a b q c)
            (and_from (is_edge p s r a b) (is_edge p s q c b) (edge_there p s f r a b er.0 ata.0 atb.0)
            (edge_there p s f q c b eq.0 atc.0 atb.0))
            (and_from (is_containing p r) (is_containing p q && (must p s r a b &&
            (nat_le 1 (lo s a) && (not (q == r && c == a) && may p s q c b)))) cr
            (and_from (is_containing p q) (must p s r a b && (nat_le 1 (lo s a) && (not (q == r && c == a) && may p s q c b))) cq
            (and_from (must p s r a b) (nat_le 1 (lo s a) && (not (q == r && c == a) && may p s q c b)) (rw tr refl)
            (and_from (nat_le 1 (lo s a)) (not (q == r && c == a) && may p s q c b) (single_low p s f a ata.0 ata.1)
            (and_from (not (q == r && c == a)) (may p s q c b) (not_from_false (q == r && c == a) e) (rw tq refl))))))))
      ]

  pub held_somewhere : (z : ℕ) → z < size_of (graph_of p s) → is_contained_class p (class_of (graph_of p s) z) ≡ true
      → (r : ℕ) × (x : ℕ) × (r < length p.references) × (x < size_of (graph_of p s)) × (is_containing p r ≡ true) ×
      (has_edge (graph_of p s) r x z ≡ true)
  held_somewhere z lz h =
      let b = single_at s z in let atb = node_single p s z lz in
      let some = true_from_ne_false (has_possible p s b) (λ e.
      node_not_lost p s f z (is_contained_class p) lz h (quiet p s f (NoContainer b) (lt-ltb b (length s.objects) atb.0)
      (not_from_false (has_possible p s b) e))) in
      let q = one-from_some_below (length p.references) (λ q. some_below (length s.objects) (is_possible p s b q)) some in
      let c = one-from_some_below (length s.objects) (is_possible p s b q.0) q.2 in
      let one = and_parts (is_containing p q.0) (may p s q.0 c.0 b && within 1 (hi s c.0)) c.2 in
      let two = and_parts (may p s q.0 c.0 b) (within 1 (hi s c.0)) one.1 in
      let single : is_one s c.0 ≡ true = elim (counts p s f c.0 c.1) [
        | inl e ↦ single_from s c.0 e
        | inr e ↦ absurd (true≢false (sym (let u = e.1 in rw u at two.1)))
      ] in
      let y = node_of_single p s c.0 c.1 single in
      let known : may p s q.0 (single_at s y.0) b ≡ true = subst (λ c. may p s q.0 c b ≡ true) (sym y.2) two.0 in
      let edge : has_edge (graph_of p s) q.0 y.0 z ≡ true = elim (settled_node p s f q.0 y.0 z q.1 y.1 lz) [
        | inl e ↦ edge_made p s q.0 y.0 z q.1 y.1 lz e
        | inr e ↦ absurd (true≢false (sym known ∙ ap truth.may e))
      ] in
      (q.0, y.0, q.1, y.1, one.0, edge)

  -- a step of containment: its reference, and what is known of it
  contained_by : (x y : ℕ) → contains_in p (graph_of p s) x y ≡ true
      → (r : ℕ) × (is_containing p r ≡ true) × (r < length p.references) × (x < size_of (graph_of p s)) × (y < size_of (graph_of p s)) ×
      (fact p s r (single_at s x) (single_at s y) ≡ True)
  contained_by x y h =
      let e = one-from_list_any (λ (e : Edge). is_containing p e.reference && (e.from == x && e.to == y)) (graph_of p s).edges h in
      let parts = and_parts (is_containing p e.0.reference) (e.0.from == x && e.0.to == y) e.2 in
      let edge = list_any-from_one (λ (f : Edge). f.reference == e.0.reference && (f.from == x && f.to == y)) (graph_of p s).edges e.0 e.1
      (and_from (e.0.reference == e.0.reference) (e.0.from == x && e.0.to == y) (eq-eqb e.0.reference e.0.reference refl) parts.1) in
      let k = edge_found p s e.0.reference x y edge in
      (e.0.reference, parts.0, k.0, k.1, k.2, k.3)

  contain_step : (x y : ℕ) → contains_in p (graph_of p s) x y ≡ true → must_hold p s (single_at s x) (single_at s y) ≡ true
  contain_step x y h =
      let r = contained_by x y h in let t = r.5 in
      some_below-from_one (length p.references) (λ r. is_containing p r && must p s r (single_at s x) (single_at s y)) r.0 r.2
      (and_from (is_containing p r.0) (must p s r.0 (single_at s x) (single_at s y)) r.1 (rw t refl))

  contain_walk : (x : ℕ) (cs : List ℕ) (y : ℕ) → IsWalk (contains_in p (graph_of p s)) (λ y. true) (size_of (graph_of p s)) x cs y
      → IsWalk (must_hold p s) (λ o. nat_le 1 (lo s o)) (length s.objects) (single_at s x) (map (single_at s) cs) (single_at s y)
  contain_walk x [] y w = contain_step x y w
  contain_walk x (c ∷ cs) y w =
      let at = node_single p s c w.1 in
      (contain_step x c w.0, at.0, single_low p s f (single_at s c) at.0 at.1, contain_walk c cs y w.3)

  not_closing : (r x y : ℕ) → is_containing p r ≡ true → r < length p.references → x < size_of (graph_of p s) → y < size_of (graph_of p s)
      → fact p s r (single_at s x) (single_at s y) ≡ True
      → ((single_at s x == single_at s y && is_one s (single_at s x)) || leads p s (single_at s y) (single_at s x)) ≡ true → ⊥
  not_closing r x y cr lr lx ly t h =
      let a = single_at s x in let b = single_at s y in let ata = node_single p s x lx in let atb = node_single p s y ly in
      not_added r a b t (quiet p s f (Acyclic r a b) (edge_there p s f r a b lr ata.0 atb.0)
      (and_from (is_containing p r) (may p s r a b && ((a == b && is_one s a) || leads p s b a)) cr
      (and_from (may p s r a b) ((a == b && is_one s a) || leads p s b a) (rw t refl) h)))

  no_walk : (x : ℕ) (cs : List ℕ) → IsWalk (contains_in p (graph_of p s)) (λ y. true) (size_of (graph_of p s)) x cs x → ⊥
  no_walk x [] w =
      let r = contained_by x x w in let a = single_at s x in let at = node_single p s x r.3 in
      not_closing r.0 x x r.1 r.2 r.3 r.4 r.5 (or_left (a == a && is_one s a) (leads p s a a)
      (and_from (a == a) (is_one s a) (eq-eqb a a refl) at.1))
  no_walk x (c ∷ cs) w =
      let r = contained_by x c w.0 in let a = single_at s x in let b = single_at s c in
      not_closing r.0 x c r.1 r.2 r.3 r.4 r.5 (or_right (a == b && is_one s a) (leads p s b a)
      (walk_below-from_IsWalk (must_hold p s) (λ o. nat_le 1 (lo s o)) (length s.objects) b (map (single_at s) cs) a
      (contain_walk c cs x w.3)))

  pub held_without_cycle : (x : ℕ) → IsReachable (contains_in p (graph_of p s)) (λ y. true) (size_of (graph_of p s)) x x → ⊥
  held_without_cycle x w = no_walk x w.0 w.1
