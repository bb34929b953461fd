-- The nodes of a graph by the objects that they come from.
use Rattle.std.specs.Prelude.{◌≡◌, ◌<◌, ℕ, Option, None, Some, List, [], length, slice_get, Vec}
use Rattle.std.specs.declared.alloc.Global.{Global}
use Rattle.rf_problem.specs.Asserted.{matches}
use Rattle.rf_problem.specs.declared.problem.Problem.{Problem}
use Rattle.rf_graph.specs.Graph.{Fits, origin_of, size_of}
use Rattle.rf_graph.specs.declared.graph.Graph.{Graph}
use Rattle.rf_satisfy.specs.Tuples.{ArePassing}

-- the items of a row, none where there is none
abbrev pub items_of : Option (Vec ℕ Global) → List ℕ
items_of None = []
items_of (Some v) = v.items

-- the items of row o
abbrev pub row_of : List (Vec ℕ Global) → ℕ → List ℕ
row_of rows o = items_of (slice_get rows o)

-- of the first n nodes the list of all, and of each of so many objects the row of those that come from it
pub record AreLists (n : ℕ) (g : Graph) (objects : ℕ) (whole : List ℕ) (rows : List (Vec ℕ Global)) : Type 0 where
  pub len : length rows ≡ objects
  pub all : ArePassing n (λ x. matches None (origin_of g x)) whole
  pub each : (o : ℕ) → o < objects → ArePassing n (λ x. matches (Some o) (origin_of g x)) (row_of rows o)

-- the graph fits the problem, and the lists are those of its nodes
pub record IsListed (p : Problem) (g : Graph) (whole : List ℕ) (rows : List (Vec ℕ Global)) : Type 0 where
  pub fits : Fits p g
  pub lists : AreLists (size_of g) g (length p.objects) whole rows
