-- How many nodes come from each object, and which objects have nodes of classes that they may not have.
use Rattle.std.specs.Prelude.{◌≡◌, ◌<◌, ◌==◌, ◌&&◌, not, ℕ, Bool, false, List, length, slice_index, slice_index_or}
use Rattle.rf_finite.specs.Range.{count_below, some_below}
use Rattle.rf_problem.specs.declared.problem.Problem.{Problem}
use Rattle.rf_graph.specs.First.{may_come_from}
use Rattle.rf_graph.specs.Graph.{origin_of}
use Rattle.rf_graph.specs.declared.graph.Graph.{Graph}

-- whether the class of node x is one that its object may have
abbrev pub is_native : Problem → Graph → ℕ → Bool
is_native p g x = may_come_from p g (origin_of g x) x

-- what was counted of each object among so many nodes
pub record CountsNodes (p : Problem) (g : Graph) (nodes : ℕ) (counts : List ℕ) (strange : List Bool) : Type 0 where
  pub counted : (o : ℕ) → o < length counts → slice_index counts o ≡ count_below nodes (λ x. origin_of g x == o)
  pub strangers : (o : ℕ) → o < length strange → slice_index_or strange o false ≡ some_below nodes (λ x. origin_of g x == o && not (is_native p g x))
