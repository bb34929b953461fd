-- What is known of predicates and literals at objects is so at the nodes of the objects.
use Rattle.std.proofs.Common.{◌≡◌, ℕ, ◌<◌, Bool, true, false, not, ◌&&◌, ◌||◌, ◌==◌, List, length, map, All, Option, refl, sym, ap, ◌∙◌, inl, inr, arith}
use Rattle.std.specs.Prelude.{nat_le}
use Rattle.std.proofs.lemmas.Bool.{and_parts, or_left, or_right, cases_eq, not-true, not_from_false, eqb-true, eqb-false, eq-eqb, ne_eqb, leb-true, lt-ltb}
use Rattle.std.proofs.lemmas.List.{get_or-map, length-map}
use Rattle.rf_finite.specs.Ends.{within}
use Rattle.rf_finite.proofs.Range.{count_below-two, one-from_count_below}
use Rattle.rf_finite.proofs.Ends.{within-le}
use Rattle.rf_values.specs.Truth.{keeps, may, must}
use Rattle.rf_values.specs.declared.truth.Truth.{Truth}
use Rattle.rf_values.specs.declared.truth.Truth.TheVariants.{True, False, Unknown, Error}
use Rattle.rf_values.proofs.Kept.{holds-from_keeps, may-from_keeps}
use Rattle.rf_problem.specs.Classes.{is_below}
use Rattle.rf_problem.specs.Follows.{AreRelated, Follows}
use Rattle.rf_problem.specs.Parts.{predicate_at}
use Rattle.rf_problem.specs.Reading.{Assignment, literal_true, predicate_true}
use Rattle.rf_problem.specs.declared.predicate.Literal.{Literal}
use Rattle.rf_problem.specs.declared.problem.Problem.{Problem}
use Rattle.rf_problem.specs.declared.symbol.Symbol.TheVariants.{Predicate}
use Rattle.rf_problem.proofs.Fitting.{IsFree, literal_fits}
use Rattle.rf_problem.proofs.Following.{predicates_carry_over}
use Rattle.rf_graph.specs.Evaluate.{graph_reading, holds}
use Rattle.rf_graph.specs.Graph.{class_of, has_edge, size_of}
use Rattle.rf_graph.specs.declared.graph.Graph.{Graph}
use Rattle.rf_evaluate.specs.Known.{side}
use Rattle.rf_evaluate.specs.Literals.{literal_known}
use Rattle.rf_evaluate.proofs.InBoth.{may-truth_of, must-truth_of}
use Rattle.rf_state.specs.State.{State, all_candidates, fact, object_of, some_candidate}
use Rattle.rf_state.specs.StateKnown.{state_known, value}
use Rattle.rf_rules.specs.Words.{hi, lo}
use Rattle.rf_placement.specs.Laws.{ValuesAreKept}
use Rattle.rf_placement.specs.Placement.{Concretises, IsNodeOf, Placing, StandsFor, nodes_at}
use Rattle.rf_placement.proofs.AtObjects.{candidate_passes, class_passes, fact_kept, few_same, lowers, may_have_node, object_there, uppers}
use Rattle.rf_problem.proofs.Following.{literal_follows}
use Rattle.rf_placement.proofs.Satisfied.{node_class_below}

-- a truth is kept by what holds where it has to and can where it holds
kept-from_pair : (v : Truth) (holds : Bool) → (must v ≡ true → holds ≡ true) → (holds ≡ true → may v ≡ true) → keeps v holds ≡ true
kept-from_pair True holds has_to can = has_to refl
kept-from_pair False true has_to can = absurd (let e = can refl in cc)
kept-from_pair False false has_to can = refl
kept-from_pair Unknown holds has_to can = refl
kept-from_pair Error true has_to can = can refl
kept-from_pair Error false has_to can = has_to refl

-- of a state that stands for a graph whose nodes have classes of the problem
module _ (p : Problem) (s : State) (g : Graph) (h : Placing) (c : StandsFor p s g h) (declared : (x : ℕ) → x < size_of g → class_of g x < length p.classes) where
  -- what is known of an edge from one object with a node to another
  edge_known : (r a b x y : ℕ) → IsNodeOf g h a x → IsNodeOf g h b y → (state_known p s).edge r a b ≡ fact p s r a b
  edge_known r a b x y atx aty =
      let la = lt-ltb a (length s.objects) (object_there p s g h c a x atx) in
      let lb = lt-ltb b (length s.objects) (object_there p s g h c b y aty) in
      rw (la, lb) refl

  -- an object with two nodes may have two
  two_within : (a x y : ℕ) → IsNodeOf g h a x → IsNodeOf g h a y → (x ≡ y → ⊥) → within 2 (hi s a) ≡ true
  two_within a x y atx aty ne = within-le 2 (nodes_at g h a) (hi s a)
      (count_below-two (size_of g) (λ x. h x == a) x y atx.0 aty.0 ne (eq-eqb (h x) a atx.1) (eq-eqb (h y) a aty.1))
      (uppers p s g h c a (object_there p s g h c a x atx))

  -- what has to hold of objects holds at nodes of them
  pub graph_follows : Follows p (side must (state_known p s)) (graph_reading p g) (IsNodeOf g h)
  graph_follows = record {
    classes = λ k o x lk at m. class_passes p s g h c o x (λ d. is_below p.classes d k) (declared x at.0) at
        (sym (must-truth_of (all_candidates p s o k) (some_candidate p s o k)) ∙ m);
    edges = λ r a b x y l atx aty m. holds-from_keeps (fact p s r a b) (has_edge g r x y)
        (fact_kept p s g h c r a b x y l atx aty) (sym (ap must (edge_known r a b x y atx aty)) ∙ m);
    sames = λ a b x y atx aty m. (
        let is : (a == b && not (within 2 (hi s a))) ≡ true = sym (must-truth_of (a == b && not (within 2 (hi s a))) (a == b)) ∙ m in
        let parts = and_parts (a == b) (not (within 2 (hi s a))) is in
        eq-eqb x y (few_same p s g h c a x y (not-true (within 2 (hi s a)) parts.1) atx (aty.0, aty.1 ∙ sym (eqb-true a b parts.0))));
    differs = λ a b x y atx aty m. (
        let is : not (a == b) ≡ true = sym (must-truth_of (not (a == b)) (not (a == b) || within 2 (hi s a))) ∙ m in
        not_from_false (x == y) (ne_eqb x y (λ e. eqb-false a b (not-true (a == b) is) (sym atx.1 ∙ (ap h e ∙ aty.1)))));
    elements = λ o l m. (
        let is : nat_le 1 (lo s o) ≡ true = sym (must-truth_of (nat_le 1 (lo s o)) (within 1 (hi s o))) ∙ m in
        let low = leb-true 1 (lo s o) is in let count = lowers p s g h c o l in
        let found = one-from_count_below (size_of g) (λ x. h x == o) (omega arith) in
        let at = eqb-true (h found.0) o found.2 in
        (found.0, (found.1, at), found.1, refl, sym (c.origins found.0 found.1) ∙ ap (λ q. (object_of s q).origin) at));
  }

  -- and what holds at nodes can hold of their objects
  pub may_follows : Follows p (graph_reading p g) (side may (state_known p s)) (λ x o. IsNodeOf g h o x)
  may_follows = record {
    classes = λ k x o lk at m. may-truth_of (all_candidates p s o k) (some_candidate p s o k)
        ∙ candidate_passes p s g h c o x (λ d. is_below p.classes d k) (declared x at.0) at m;
    edges = λ r x y a b l atx aty m. ap may (edge_known r a b x y atx aty)
        ∙ may-from_keeps (fact p s r a b) (has_edge g r x y) (fact_kept p s g h c r a b x y l atx aty) m;
    sames = λ x y a b atx aty m. may-truth_of (a == b && not (within 2 (hi s a))) (a == b)
        ∙ eq-eqb a b (sym atx.1 ∙ (ap h (eqb-true x y m) ∙ aty.1));
    differs = λ x y a b atx aty m. may-truth_of (not (a == b)) (not (a == b) || within 2 (hi s a)) ∙ elim (cases_eq a b) [
      | inl e ↦ or_right (not (a == b)) (within 2 (hi s a)) (two_within a x y atx (aty.0, aty.1 ∙ sym e) (λ same. eqb-false x y (not-true (x == y) m) same))
      | inr ne ↦ or_left (not (a == b)) (within 2 (hi s a)) (not_from_false (a == b) (ne_eqb a b ne))
    ];
    elements = λ x l m. (
      h x,
      (l, refl),
      c.objects x l,
      may-truth_of (nat_le 1 (lo s (h x))) (within 1 (hi s (h x))) ∙ may_have_node p s g h c (h x) x (l, refl),
      c.origins x l,
    );
  }

  mapped : (arity : ℕ) (t : List ℕ) → length t ≡ arity → All (λ x. x < size_of g) t → AreRelated arity (IsNodeOf g h) (map h t) t
  mapped arity t len l = record {
    left = length-map t h ∙ len;
    right = len;
    each = λ i k. (l i 0 (omega arith), sym (get_or-map h t i 0 0 (omega arith)));
  }

  pub must_sound : (q : ℕ) (t : List ℕ) → length t ≡ (predicate_at p.predicates q).arity → All (λ x. x < size_of g) t
      → must (value p s q (map h t)) ≡ true → holds p g (Predicate q) t ≡ true
  must_sound q t len l m =
      let n = length p.predicates in let k = state_known p s in
      predicates_carry_over p (IsNodeOf g h) n (side must k) (side may k) (graph_reading p g) (graph_reading p g) graph_follows may_follows
      q (map h t) t (mapped (predicate_at p.predicates q).arity t len l)
      (sym (must-truth_of (predicate_true p.predicates n (side must k) (side may k) q (map h t)) (predicate_true p.predicates n (side may k) (side must k) q (map h t))) ∙ m)

  pub may_sound : (q : ℕ) (t : List ℕ) → length t ≡ (predicate_at p.predicates q).arity → All (λ x. x < size_of g) t
      → holds p g (Predicate q) t ≡ true → may (value p s q (map h t)) ≡ true
  may_sound q t len l m =
      let n = length p.predicates in let k = state_known p s in
      let r = mapped (predicate_at p.predicates q).arity t len l in
      may-truth_of (predicate_true p.predicates n (side must k) (side may k) q (map h t)) (predicate_true p.predicates n (side may k) (side must k) q (map h t))
      ∙ predicates_carry_over p (λ x o. IsNodeOf g h o x) n (graph_reading p g) (graph_reading p g) (side may k) (side must k) may_follows graph_follows
      q t (map h t) (record { left = r.right; right = r.left; each = r.each }) m

  pub value_kept : (q : ℕ) (t : List ℕ) → length t ≡ (predicate_at p.predicates q).arity → All (λ x. x < size_of g) t
      → keeps (value p s q (map h t)) (holds p g (Predicate q) t) ≡ true
  value_kept q t len l = kept-from_pair (value p s q (map h t)) (holds p g (Predicate q) t) (must_sound q t len l) (may_sound q t len l)

module _ (p : Problem) (s : State) (g : Graph) (h : Placing) (c : Concretises p s g h) where
  must_follow : Follows p (side must (state_known p s)) (graph_reading p g) (IsNodeOf g h)
  must_follow = graph_follows p s g h c.stands (node_class_below p g c.satisfies)

  may_follow : Follows p (graph_reading p g) (side may (state_known p s)) (λ x o. IsNodeOf g h o x)
  may_follow = may_follows p s g h c.stands (node_class_below p g c.satisfies)

  -- a literal that has to hold at objects holds at nodes of them
  pub literal_must : (variables : List (Option ℕ)) (i : ℕ) (places nodes : Assignment) (l : Literal) → literal_fits p variables i l ≡ true
      → ((v : ℕ) → IsFree variables v → IsNodeOf g h (places v) (nodes v))
      → must (literal_known (state_known p s) variables i places l) ≡ true
      → literal_true (predicate_true p.predicates (length p.predicates)) (graph_reading p g) (graph_reading p g) variables i nodes l ≡ true
  literal_must variables i places nodes l fit at m =
      let n = length p.predicates in let k = state_known p s in let says = predicate_true p.predicates n in
      literal_follows p says (side must k) (side may k) (graph_reading p g) (graph_reading p g) (IsNodeOf g h) must_follow may_follow
      (λ q t u r e. predicates_carry_over p (IsNodeOf g h) n (side must k) (side may k) (graph_reading p g) (graph_reading p g) must_follow may_follow q t u r e)
      (λ q t u r e. predicates_carry_over p (λ x o. IsNodeOf g h o x) n (graph_reading p g) (graph_reading p g) (side may k) (side must k) may_follow must_follow q t u r e)
      variables i places nodes l fit at
      (sym (must-truth_of (literal_true says (side must k) (side may k) variables i places l) (literal_true says (side may k) (side must k) variables i places l)) ∙ m)

pub values_are_kept : ValuesAreKept
values_are_kept p s g h c q t len l = value_kept p s g h c.stands (node_class_below p g c.satisfies) q t len l
