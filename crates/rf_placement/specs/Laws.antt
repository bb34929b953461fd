-- What holds of graphs and the states that stand for them.
use Rattle.std.specs.Prelude.{◌≡◌, ◌↔◌, ℕ, ◌<◌, true, List, length, map, All}
use Rattle.rf_values.specs.Truth.{keeps}
use Rattle.rf_problem.specs.Parts.{predicate_at}
use Rattle.rf_problem.specs.declared.problem.Problem.{Problem}
use Rattle.rf_problem.specs.declared.symbol.Symbol.TheVariants.{Predicate}
use Rattle.rf_graph.specs.Evaluate.{holds}
use Rattle.rf_graph.specs.Graph.{origin_of, size_of}
use Rattle.rf_graph.specs.Violations.{Sat}
use Rattle.rf_graph.specs.declared.graph.Graph.{Graph}
use Rattle.rf_state.specs.State.{IsRoot, State}
use Rattle.rf_state.specs.StateKnown.{value}
use Rattle.rf_placement.specs.Placed.{IsPlaced}
use Rattle.rf_placement.specs.Placement.{Concretises, Placing, StandsFor}

-- the root of a problem is concretised by each graph that satisfies the problem: each node has its origin as its object
abbrev pub RootIsConcretised : Type 0
RootIsConcretised = (p : Problem) (s : State) (g : Graph) → IsRoot p s → Sat p g → Concretises p s g (origin_of g)

-- a predicate's value at some objects is so at nodes of them, whichever these are: it holds there where it has to, and where it
-- holds there it can
abbrev pub ValuesAreKept : Type 0
ValuesAreKept =
    (p : Problem) (s : State) (g : Graph) (placing : Placing) → Concretises p s g placing
    → (q : ℕ) (t : List ℕ) → length t ≡ (predicate_at p.predicates q).arity → All (λ x. x < size_of g) t
    → keeps (value p s q (map placing t)) (holds p g (Predicate q) t) ≡ true

-- of a graph that satisfies the problem a state knows nothing wrong but by what was added to it
abbrev pub AddedIsEnough : Type 0
AddedIsEnough =
    (p : Problem) (s : State) (g : Graph) (placing : Placing) → Sat p g → StandsFor p s g placing ↔ IsPlaced p s g placing
