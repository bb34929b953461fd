-- What is evaluated in.
use Rattle.rf_problem.specs.declared.problem.Problem.{Problem}
use Rattle.rf_graph.specs.declared.graph.Graph.{Graph}

-- a problem and a graph
pub record Indexed : Type 0 where
  pub problem : Problem
  pub graph : Graph
