-- Which bytes are accepted as a problem, and as a graph of it.
use Rattle.std.specs.Prelude.{◌≤◌, ℕ, List, length}
use Rattle.rf_problem.specs.declared.problem.Problem.{Problem}
use Rattle.rf_graph.specs.Document.{IsDocument}
use Rattle.rf_graph.specs.declared.graph.Graph.{Graph}
use Rattle.rf_source.specs.Source.{IsSource}
use Rattle.rf_run.specs.declared.refusal.TheConstants.{GRAPH_LIMIT, PROBLEM_LIMIT}

-- the bytes of a problem file are accepted as this problem
pub record IsAccepted (bytes : List ℕ) (p : Problem) : Type 0 where
  pub short : length bytes ≤ PROBLEM_LIMIT
  pub source : IsSource bytes p

-- the bytes of a graph file are a document of this graph of the problem
pub record IsDrawn (bytes : List ℕ) (p : Problem) (g : Graph) : Type 0 where
  pub short : length bytes ≤ GRAPH_LIMIT
  pub document : IsDocument p g bytes
