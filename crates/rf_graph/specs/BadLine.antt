-- Where bytes stop being what a graph document of a problem begins with.
use Rattle.std.specs.Prelude.{◌≡◌, ◌<◌, ◌-◌, ℕ, List, ◌++◌, length}
use Rattle.rf_text.specs.Line.{joined_lines}
use Rattle.rf_problem.specs.declared.problem.Problem.{Problem}
use Rattle.rf_graph.specs.declared.graph.Graph.{Graph}
use Rattle.rf_graph.specs.Document.{IsDocument, graph_lines}
use Rattle.rf_graph.specs.Graph.{Fits}

-- the bytes have so many lines at least, and some graph document of the problem begins with them
pub record Begins (p : Problem) (bytes : List ℕ) (lines : ℕ) : Type 0 where
  pub prefix : List (List ℕ)
  pub rest : List ℕ
  pub graph : Graph
  pub more : List (List ℕ)
  pub fits : Fits p graph
  pub many : length prefix ≡ lines
  pub begun : bytes ≡ joined_lines prefix ++ rest
  pub continued : graph_lines p graph ≡ prefix ++ more

-- the first line, counted from 1, of which no graph document of the problem begins with the lines so
-- far; a line that is missing counts
pub record IsBadLine (p : Problem) (bytes : List ℕ) (line : ℕ) : Type 0 where
  pub none : (g : Graph) → IsDocument p g bytes → ⊥
  pub positive : 0 < line
  pub before : Begins p bytes (line - 1)
  pub here : Begins p bytes line → ⊥
