-- The values of a problem's predicates in its root, as a document.
use Rattle.std.specs.Prelude.{◌≡◌, ℕ, zero, suc, List, [], ◌∷◌, ◌++◌, codes, length}
use Rattle.rf_values.specs.declared.truth.Truth.{Truth}
use Rattle.rf_values.specs.declared.truth.Truth.TheVariants.{True, False, Unknown, Error}
use Rattle.rf_problem.specs.declared.problem.Problem.{Problem}
use Rattle.rf_graph.specs.Document.{object_name, predicate_name}
use Rattle.rf_state.specs.State.{State}
use Rattle.rf_state.specs.StateKnown.{value}
use Rattle.rf_state.specs.Values.{AreNotFalse}

-- the names of objects, a comma and a space between each two
abbrev pub object_names : Problem → List ℕ → List ℕ
object_names p [] = []
object_names p (o ∷ []) = object_name p o
object_names p (o ∷ q ∷ t) = object_name p o ++ codes ", " ++ object_names p (q ∷ t)

-- the line of a predicate at a tuple that has this word for its value
abbrev pub value_line : Problem → ℕ → List ℕ → List ℕ → List ℕ
value_line p q t word = predicate_name p q ++ codes "(" ++ object_names p t ++ codes "): " ++ word ++ codes "\n"

-- the line of a value, none where it is false
abbrev pub line_of : Problem → ℕ → List ℕ → Truth → List ℕ
line_of p q t True = value_line p q t (codes "true")
line_of p q t Unknown = value_line p q t (codes "unknown")
line_of p q t Error = value_line p q t (codes "error")
line_of p q t False = []

-- the lines of a predicate at tuples of objects, one after another
abbrev pub lines_of : Problem → State → ℕ → List (List ℕ) → List ℕ
lines_of p s q [] = []
lines_of p s q (t ∷ ts) = line_of p q t (value p s q t) ++ lines_of p s q ts

-- the lines of the predicates below n, one after another: of each those at the tuples of objects that may have nodes at which it
-- isn't false, in lexicographic order
abbrev pub AreLinesBelow : Problem → State → ℕ → List ℕ → Type 0
AreLinesBelow p s zero text = text ≡ []
AreLinesBelow p s (suc q) text =
    (before : List ℕ) × (tuples : List (List ℕ)) × AreLinesBelow p s q before × AreNotFalse p s q tuples × (text ≡ before ++ lines_of p s q tuples)

-- the lines of all predicates, in their order
abbrev pub IsValuation : Problem → State → List ℕ → Type 0
IsValuation p s text = AreLinesBelow p s (length p.predicates) text
