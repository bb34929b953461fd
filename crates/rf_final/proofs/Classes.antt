-- The classes of the nodes of a final state.
use Rattle.std.proofs.Common.{◌≡◌, ℕ, ◌<◌, Bool, true, false, not, ◌||◌, Option, None, Some, length, refl}
use Rattle.std.specs.Option.{ForSome}
use Rattle.std.specs.FinSet.{contains as contains_class, difference}
use Rattle.std.proofs.lemmas.Bool.{both_ways, or_right}
use Rattle.rf_finite.proofs.Range.{all_below-from_each}
use Rattle.rf_values.specs.ClassSet.{is_same_set}
use Rattle.rf_problem.specs.Classes.{is_below}
use Rattle.rf_problem.specs.Counted.{has_scope_class}
use Rattle.rf_problem.specs.declared.problem.Problem.{Problem}
use Rattle.rf_problem.proofs.BelowLemmas.{same_tests}
use Rattle.rf_graph.specs.Graph.{class_of, size_of}
use Rattle.rf_state.specs.State.{State, object_of, some_candidate}
use Rattle.rf_rules.specs.Words.{any_candidate, classes_where, each_candidate, is_one}
use Rattle.rf_tree.specs.Saturated.{IsFinal}
use Rattle.rf_placement.specs.Placement.{IsNodeOf}
use Rattle.rf_placement.proofs.AtObjects.{candidate_passes, class_passes}
use Rattle.rf_final.specs.GraphOf.{graph_of, single_at}
use Rattle.rf_final.specs.Reached.{IsReached}
use Rattle.rf_final.proofs.Nodes.{class_below, has_nodes, node_single, stands}
use Rattle.rf_final.proofs.Settled.{not_lost, some_each}

module _ (p : Problem) (s : State) (f : IsFinal p s) where
  -- a class of a node isn't lost
  pub node_not_lost : (x : ℕ) (test : ℕ → Bool) → x < size_of (graph_of p s) → test (class_of (graph_of p s) x) ≡ true
      → not (is_same_set (difference (object_of s (single_at s x)).candidates (classes_where p test))
      (object_of s (single_at s x)).candidates) ≡ false → ⊥
  node_not_lost x test l passes same = both_ways (test (class_of (graph_of p s) x))
      (not_lost p s f (single_at s x) (class_of (graph_of p s) x) test same (class_below p s f x l) ((has_nodes p s f).classes x l)) passes

  -- the candidates of a single object are all of a scope's class, or none is
  scope_settled : (o : ℕ) (k : Option ℕ) → ForSome k (λ c. c < length p.classes) → o < length s.objects → is_one s o ≡ true
      → any_candidate p s o (has_scope_class p k) ≡ true → each_candidate p s o (has_scope_class p k) ≡ true
  scope_settled o None declared l single some =
      all_below-from_each (length p.classes) (λ c. not (contains_class (object_of s o).candidates c) || true)
      (λ c lc. or_right (not (contains_class (object_of s o).candidates c)) true refl)
  scope_settled o (Some k) declared l single some = some_each p s f o k (declared k refl) l single some

  module _ (reached : IsReached p s) where
    own : (x : ℕ) → x < size_of (graph_of p s) → IsNodeOf (graph_of p s) (single_at s) (single_at s x) x
    own x l = (l, refl)

    node_passes : (x : ℕ) (test : ℕ → Bool) → x < size_of (graph_of p s) → each_candidate p s (single_at s x) test ≡ true
        → test (class_of (graph_of p s) x) ≡ true
    node_passes x test l all =
        class_passes p s (graph_of p s) (single_at s) (stands p s f reached) (single_at s x) x test (class_below p s f x l) (own x l) all

    some_passes : (x : ℕ) (test : ℕ → Bool) → x < size_of (graph_of p s) → test (class_of (graph_of p s) x) ≡ true
        → any_candidate p s (single_at s x) test ≡ true
    some_passes x test l h =
        candidate_passes p s (graph_of p s) (single_at s) (stands p s f reached) (single_at s x) x test (class_below p s f x l) (own x l) h

    -- the class of a node is below what some candidate of its object is below
    pub node_below : (x k : ℕ) → k < length p.classes → x < size_of (graph_of p s) → some_candidate p s (single_at s x) k ≡ true
        → is_below p.classes (class_of (graph_of p s) x) k ≡ true
    node_below x k lk l h = let a = node_single p s x l in
        node_passes x (λ c. is_below p.classes c k) l (some_each p s f (single_at s x) k lk a.0 a.1 h)

    -- a node is of a scope's class exactly where some candidate of its object is, and exactly where each is
    pub may_be_of : (x : ℕ) (k : Option ℕ) → ForSome k (λ c. c < length p.classes) → x < size_of (graph_of p s)
        → has_scope_class p k (class_of (graph_of p s) x) ≡ any_candidate p s (single_at s x) (has_scope_class p k)
    may_be_of x k declared l = let a = node_single p s x l in
        same_tests (has_scope_class p k (class_of (graph_of p s) x)) (any_candidate p s (single_at s x) (has_scope_class p k))
        (some_passes x (has_scope_class p k) l)
        (λ h. node_passes x (has_scope_class p k) l (scope_settled (single_at s x) k declared a.0 a.1 h))

    pub surely_of : (x : ℕ) (k : Option ℕ) → ForSome k (λ c. c < length p.classes) → x < size_of (graph_of p s)
        → has_scope_class p k (class_of (graph_of p s) x) ≡ each_candidate p s (single_at s x) (has_scope_class p k)
    surely_of x k declared l = let a = node_single p s x l in
        same_tests (has_scope_class p k (class_of (graph_of p s) x)) (each_candidate p s (single_at s x) (has_scope_class p k))
        (λ h. scope_settled (single_at s x) k declared a.0 a.1 (some_passes x (has_scope_class p k) l h))
        (node_passes x (has_scope_class p k) l)
