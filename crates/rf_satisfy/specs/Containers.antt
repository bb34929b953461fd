-- Which edges contain nodes, and when no node is contained twice.
use Rattle.std.specs.Prelude.{◌<◌, ◌≤◌, ◌==◌, ◌&&◌, ℕ, Bool}
use Rattle.rf_graph.specs.Graph.{size_of}
use Rattle.rf_problem.specs.Contained.{is_containing}
use Rattle.rf_graph.specs.Violations.{container_count}
use Rattle.rf_graph.specs.declared.graph.Edge.{Edge}
use Rattle.rf_graph.specs.declared.graph.Graph.{Graph}
use Rattle.rf_problem.specs.declared.problem.Problem.{Problem}

-- whether an edge contains node z
abbrev pub contains_node : Problem → ℕ → Edge → Bool
contains_node p z e = is_containing p e.reference && e.to == z

-- each node is in at most one pair of a reference that contains and a node from which an edge of it leads to this one
abbrev pub AreContainedOnce : Problem → Graph → Type 0
AreContainedOnce p g = (z : ℕ) → z < size_of g → container_count p g z ≤ 1
