-- What holds of final states and their graphs.
use Rattle.std.specs.Prelude.{◌≡◌, ℕ, length}
use Rattle.rf_finite.specs.Range.{count_below}
use Rattle.rf_problem.specs.declared.problem.Problem.{Problem}
use Rattle.rf_graph.specs.Graph.{size_of}
use Rattle.rf_graph.specs.Violations.{Sat}
use Rattle.rf_state.specs.State.{State}
use Rattle.rf_rules.specs.Words.{is_one}
use Rattle.rf_tree.specs.Saturated.{IsFinal}
use Rattle.rf_placement.specs.Placement.{Concretises}
use Rattle.rf_final.specs.GraphOf.{graph_of, single_at}
use Rattle.rf_final.specs.Reached.{IsReached}

-- the graph of a final state that is reached satisfies the problem
abbrev pub FinalSatisfies : Type 0
FinalSatisfies = (p : Problem) (s : State) → IsReached p s → IsFinal p s → Sat p (graph_of p s)

-- and concretises the state, where each node is placed at the object that it is
abbrev pub FinalIsConcretised : Type 0
FinalIsConcretised = (p : Problem) (s : State) → IsReached p s → IsFinal p s → Concretises p s (graph_of p s) (single_at s)

-- the graph of a state has as many nodes as there are objects that are one node
abbrev pub NodesAreSingles : Type 0
NodesAreSingles = (p : Problem) (s : State) → size_of (graph_of p s) ≡ count_below (length s.objects) (is_one s)
