-- What holds of the definitions.
use Rattle.std.specs.Prelude.{◌≡◌, ◌↔◌, ℕ, true, None, Some, List, length}
use Rattle.rf_problem.specs.Parts.{arity_of, predicate_at}
use Rattle.rf_problem.specs.declared.problem.Problem.{Problem}
use Rattle.rf_problem.specs.declared.symbol.Symbol.{Symbol}
use Rattle.rf_graph.specs.Evaluate.{holds}
use Rattle.rf_graph.specs.First.{first_violation}
use Rattle.rf_graph.specs.Graph.{Fits}
use Rattle.rf_problem.specs.Holds.{Meaning}
use Rattle.rf_graph.specs.Holds.{Holds, IsMeaning}
use Rattle.rf_graph.specs.Satisfied.{Satisfies}
use Rattle.rf_graph.specs.Violations.{FirstViolation, Sat}
use Rattle.rf_graph.specs.declared.graph.Graph.{Graph}
use Rattle.rf_graph.specs.declared.verdict.Violation.{Violation}

-- the computed test finds what holds
abbrev pub HoldsIsComputed : Type 0
HoldsIsComputed =
    (p : Problem) (g : Graph) (symbol : Symbol) (t : List ℕ)
    → length t ≡ arity_of p.predicates symbol → Holds p g symbol t ↔ (holds p g symbol t ≡ true)

-- the predicates of a problem have a meaning in each graph
abbrev pub MeaningExists : Type 0
MeaningExists = (p : Problem) (g : Graph) → (says : Meaning) × IsMeaning p g says

-- and no two
abbrev pub MeaningIsUnique : Type 0
MeaningIsUnique =
    (p : Problem) (g : Graph) (says tells : Meaning) → IsMeaning p g says → IsMeaning p g tells
    → (q : ℕ) (t : List ℕ) → length t ≡ (predicate_at p.predicates q).arity → says q t ≡ tells q t

-- a violation is computed first exactly where it is the first
abbrev pub FirstViolationIsComputed : Type 0
FirstViolationIsComputed =
    (p : Problem) (g : Graph) (v : Violation) → Fits p g → (first_violation p g ≡ Some v) ↔ FirstViolation p g v

-- and none is exactly where the graph satisfies the problem
abbrev pub NoneIsComputedWhereSat : Type 0
NoneIsComputedWhereSat = (p : Problem) (g : Graph) → Fits p g → (first_violation p g ≡ None) ↔ Sat p g

-- a graph that fits satisfies the problem exactly where what is to hold of each kind does
abbrev pub SatIsSatisfies : Type 0
SatIsSatisfies = (p : Problem) (g : Graph) → Fits p g → Sat p g ↔ Satisfies p g
