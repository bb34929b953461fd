-- What holds of the definitions.
use Rattle.std.specs.Prelude.{◌≡◌, ◌<◌, ◌≤◌, ◌↔◌, ℕ, suc, true, List, length}
use Rattle.rf_problem.specs.Holds.{AreMeanings, HoldsIn, Meaning}
use Rattle.rf_problem.specs.Parts.{arity_of, predicate_at}
use Rattle.rf_problem.specs.Classes.{IsBelow, is_below}
use Rattle.rf_problem.specs.Reading.{Reading, predicate_true, symbol_true}
use Rattle.rf_problem.specs.Valid.{calls}
use Rattle.rf_problem.specs.declared.class.Class.{Class}
use Rattle.rf_problem.specs.declared.problem.Problem.{Problem}
use Rattle.rf_problem.specs.declared.symbol.Symbol.{Symbol}

-- the computed test finds which classes are below which
abbrev pub BelowIsComputed : Type 0
BelowIsComputed = (classes : List Class) (c d : ℕ) → (is_below classes c d ≡ true) ↔ IsBelow classes c d

-- where a rank falls along each call, calls that go deeper than a predicate's rank say the same of it
abbrev pub DepthPastRankIsEnough : Type 0
DepthPastRankIsEnough =
    (p : Problem) (rank : ℕ → ℕ) → ((q s : ℕ) → calls p.predicates q s ≡ true → rank s < rank q)
    → (depth : ℕ) (here inside : Reading) (q : ℕ) (t : List ℕ) → rank q < depth
    → predicate_true p.predicates depth here inside q t ≡ predicate_true p.predicates (suc (rank q)) here inside q t

-- as deep as there are predicates is deep enough
abbrev pub DepthOfAllIsEnough : Type 0
DepthOfAllIsEnough =
    (p : Problem) (depth : ℕ) (here inside : Reading) (q : ℕ) (t : List ℕ) → length p.predicates ≤ depth
    → predicate_true p.predicates depth here inside q t ≡ predicate_true p.predicates (length p.predicates) here inside q t

-- a problem is what its lists are
abbrev pub ProblemIsItsLists : Type 0
ProblemIsItsLists =
    (p q : Problem) → p.classes ≡ q.classes → p.references ≡ q.references → p.predicates ≡ q.predicates
    → p.objects ≡ q.objects → p.assertions ≡ q.assertions → p.scopes ≡ q.scopes → p ≡ q

-- the computed test finds what holds in a pair of readings
abbrev pub HoldsInIsComputed : Type 0
HoldsInIsComputed =
    (p : Problem) (here inside : Reading) (symbol : Symbol) (t : List ℕ) → length t ≡ arity_of p.predicates symbol
    → HoldsIn p here inside symbol t ↔ (symbol_true (predicate_true p.predicates (length p.predicates)) here inside symbol t ≡ true)

-- predicates have meanings in each pair of readings
abbrev pub MeaningsExist : Type 0
MeaningsExist = (p : Problem) (here inside : Reading) → (says : Meaning) × (tells : Meaning) × AreMeanings p here inside says tells

-- and no others
abbrev pub MeaningsAreUnique : Type 0
MeaningsAreUnique =
    (p : Problem) (here inside : Reading) (says tells says' tells' : Meaning)
    → AreMeanings p here inside says tells → AreMeanings p here inside says' tells'
    → (q : ℕ) (t : List ℕ) → length t ≡ (predicate_at p.predicates q).arity → says q t ≡ says' q t
