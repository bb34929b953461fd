-- The graph of a final state that is reached satisfies the problem.
use Rattle.std.proofs.Common.{◌≡◌, ℕ, ◌≤◌, ◌<◌, true, List, [], ◌∷◌, length, get_or, map, sym, ◌∙◌, subst, arith, true≢false, All}
use Rattle.std.specs.Prelude.{nat_le}
use Rattle.std.proofs.lemmas.Bool.{and_from, le-leb, ltb-true}
use Rattle.std.proofs.lemmas.List.{get_or-map, length-map}
use Rattle.rf_finite.specs.Ends.{within}
use Rattle.rf_values.specs.Count.{contains}
use Rattle.rf_values.specs.Truth.{keeps}
use Rattle.rf_values.specs.declared.count.Count.{Count}
use Rattle.rf_problem.specs.Asserted.{asserted}
use Rattle.rf_problem.specs.Parts.{arity_of, reference_at, scope_at}
use Rattle.rf_problem.specs.Valid.{is_declared}
use Rattle.rf_problem.specs.declared.problem.Problem.{Problem}
use Rattle.rf_problem.specs.declared.symbol.Symbol.{Symbol}
use Rattle.rf_problem.specs.declared.symbol.Symbol.TheVariants.{Class, Equals, Exists, Predicate, Reference}
use Rattle.rf_problem.proofs.Below.{IsBelow-from_is_below, is_below-from_IsBelow}
use Rattle.rf_graph.specs.Evaluate.{holds}
use Rattle.rf_graph.specs.Graph.{Fits, FitsEdge, FitsNode, class_of, has_edge, no_node, origin_of, size_of}
use Rattle.rf_graph.specs.Satisfied.{FitsEnds, IsContained, Satisfies}
use Rattle.rf_graph.specs.Violations.{degree_of}
use Rattle.rf_graph.specs.declared.graph.Graph.{Graph}
use Rattle.rf_graph.proofs.Edges.{HasEdge-from_has_edge, has_edge-from_HasEdge}
use Rattle.rf_graph.proofs.Satisfying.{Sat-from_Satisfies}
use Rattle.rf_state.specs.State.{IsRoot, State}
use Rattle.rf_tree.specs.Saturated.{IsFinal}
use Rattle.rf_final.specs.GraphOf.{graph_of, node_of, single_at, singles}
use Rattle.rf_final.specs.Laws.{FinalIsConcretised, FinalSatisfies}
use Rattle.rf_final.specs.Reached.{IsReached}
use Rattle.rf_final.proofs.Back.{Has, reached_back}
use Rattle.rf_final.proofs.Edges.{edges_distinct, edges_fit}
use Rattle.rf_final.proofs.Inputs.{class_kept, class_known, object_satisfied, origin_there}
use Rattle.rf_final.proofs.Nodes.{has_nodes, origin_is, stands}
use Rattle.rf_final.proofs.Scopes.{counted, scope_high, scope_low}
use Rattle.rf_final.proofs.Shape.{degree_high, degree_low, edge_ends, edge_opposite, held_once, held_somewhere, held_without_cycle}
use Rattle.rf_final.proofs.Truths.{fact_parts}
use Rattle.rf_final.proofs.Values.{predicate_kept}

is_within : (range : Count) (n : ℕ) → range.lo ≤ n → within n range.hi ≡ true → contains range n ≡ true
is_within range n low high = and_from (nat_le range.lo n) (within n range.hi) (le-leb range.lo n low) high

module _ (p : Problem) (s : State) (reached : IsReached p s) (f : IsFinal p s) (root : State) (is : IsRoot p root)
    (c : Has root (graph_of p s)) where
  abbrev g : Graph
  g = graph_of p s

  node_fits : (x : ℕ) → x < size_of g → FitsNode p (get_or g.nodes x no_node)
  node_fits x l = record { class = (class_known p root is g c.0 c.1 x l).0; origin = origin_there p root is g c.0 c.1 x l }

  fits : Fits p g
  fits = record {
    nodes = λ i d l. (let k : i < size_of g = l in let n = length-map (singles s) (node_of p s) in
        let same : get_or g.nodes i d ≡ get_or g.nodes i no_node = get_or-map (node_of p s) (singles s) i 0 d (omega arith) ∙ sym
        (get_or-map (node_of p s) (singles s) i 0 no_node (omega arith)) in
        subst (FitsNode p) (sym same) (node_fits i k));
    edges = subst (λ n. All (FitsEdge p n) g.edges) (sym (length-map (singles s) (node_of p s))) (edges_fit p s (length (singles s)));
    distinct = edges_distinct p s (length (singles s));
  }

  -- what is asserted at nodes is kept
  symbol_kept : (symbol : Symbol) (t : List ℕ) → is_declared (length p.classes) (length p.references) (length p.predicates) symbol ≡ true
      → length t ≡ arity_of p.predicates symbol → All (λ x. x < size_of g) t
      → keeps (asserted p symbol (map (origin_of g) t)) (holds p g symbol t) ≡ true
  symbol_kept (Class k) [] d e l = absurd (omega arith)
  symbol_kept (Class k) (x ∷ []) d e l = class_kept p root is g c.0 c.1 x k (l 0 0 (omega arith)) (ltb-true k (length p.classes) d)
  symbol_kept (Class k) (x ∷ y ∷ t) d e l = absurd (omega arith)
  symbol_kept (Reference r) [] d e l = absurd (omega arith)
  symbol_kept (Reference r) (x ∷ []) d e l = absurd (omega arith)
  symbol_kept (Reference r) (x ∷ y ∷ []) d e l =
      let lx = l 0 0 (omega arith) in let ly = l 1 0 (omega arith) in
      let kept = (stands p s f reached).facts r x y (ltb-true r (length p.references) d) lx ly in
      rw (origin_is p s x lx, origin_is p s y ly) (fact_parts p s r (single_at s x) (single_at s y) (has_edge g r x y) kept).said
  symbol_kept (Reference r) (x ∷ y ∷ z ∷ t) d e l = absurd (omega arith)
  symbol_kept (Predicate q) t d e l = predicate_kept p s f reached q t (ltb-true q (length p.predicates) d) e l
  symbol_kept Exists t d e l = absurd (true≢false (sym d))
  symbol_kept Equals t d e l = absurd (true≢false (sym d))

  ends_fit : (r x y : ℕ) → has_edge g r x y ≡ true → FitsEnds p g r x y
  ends_fit r x y h =
      let ends = edge_ends p s f reached r x y h in record {
        source = IsBelow-from_is_below p.classes (class_of g x) (reference_at p.references r).source ends.0;
        target = IsBelow-from_is_below p.classes (class_of g y) (reference_at p.references r).target ends.1;
      }

  contained : (z : ℕ) → z < size_of g → IsContained p g z
  contained z l = record {
    once = λ q r x y cq cr hq hr. held_once p s f q x r y z cq cr (has_edge-from_HasEdge g q x z hq) (has_edge-from_HasEdge g r y z hr);
    somewhere = λ h. (let held = held_somewhere p s f z l h in record {
      r = held.0;
      x = held.1;
      containing = held.4;
      edge = HasEdge-from_has_edge g held.0 held.1 z held.5;
    });
  }

  satisfies : Satisfies p g
  satisfies = record {
    classes = λ x l. (class_known p root is g c.0 c.1 x l).1;
    edges = λ r x y h. ends_fit r x y (has_edge-from_HasEdge g r x y h);
    opposites = λ r q x y h o. HasEdge-from_has_edge g q y x (edge_opposite p s f r q x y (has_edge-from_HasEdge g r x y h) o);
    degrees = λ r x lr lx below. is_within (reference_at p.references r).range (degree_of g r x)
        (degree_low p s f r x lr lx (is_below-from_IsBelow p.classes (class_of g x) (reference_at p.references r).source below))
        (degree_high p s f r x lr lx);
    containers = contained;
    no_cycle = λ x l w. held_without_cycle p s f x w;
    objects = object_satisfied p root is g c.0 c.1;
    asserts = symbol_kept;
    scopes = λ z l. is_within (scope_at p.scopes z).range (counted p s f reached z l) (scope_low p s f reached z l)
        (scope_high p s f reached z l);
  }

pub final_satisfies : FinalSatisfies
final_satisfies p s reached f =
    let back = reached_back p s reached (graph_of p s) (single_at s, has_nodes p s f) in
    Sat-from_Satisfies p (graph_of p s) (fits p s reached f back.0 back.1 back.2) (satisfies p s reached f back.0 back.1 back.2)

pub final_is_concretised : FinalIsConcretised
final_is_concretised p s reached f = record { satisfies = final_satisfies p s reached f; stands = stands p s f reached }
