-- What is known of elements: of each fact about them whether it has to hold and whether it can.
use Rattle.std.specs.Prelude.{ℕ, Bool, true, List, [], ◌∷◌, length}
use Rattle.rf_values.specs.Truth.{may, must, truth_of}
use Rattle.rf_values.specs.declared.truth.Truth.{Truth}
use Rattle.rf_problem.specs.Reading.{Reading, atom_true, predicate_true, symbol_true}
use Rattle.rf_problem.specs.Valid.{is_declared}
use Rattle.rf_problem.specs.declared.problem.Problem.{Problem}
use Rattle.rf_problem.specs.declared.symbol.Symbol.{Symbol}

-- of a problem, elements, which are the numbers below size, and what is known of them: which of them are present, the object
-- that each comes from, its classes, the edges between them, and which are the same and which different
pub record Known : Type 0 where
  pub problem : Problem
  pub size : ℕ
  pub origin : ℕ → ℕ
  pub presence : ℕ → Truth
  pub class : ℕ → ℕ → Truth
  pub edge : ℕ → ℕ → ℕ → Truth
  pub same : ℕ → ℕ → Truth
  pub different : ℕ → ℕ → Truth

-- one side of it: what has to hold, or what can
abbrev pub side : (Truth → Bool) → Known → Reading
side column k = record {
  size = k.size;
  present = λ x. column (k.presence x);
  has_class = λ c x. column (k.class c x);
  has_edge = λ r x y. column (k.edge r x y);
  is_same = λ x y. column (k.same x y);
  is_different = λ x y. column (k.different x y);
  origin = k.origin;
}

-- what is said by a reading and that inside negations, as a truth: it has to be so where it is so read by what has to hold, and
-- can be so where it is so read by what can; inside negations the two are exchanged
abbrev pub in_both : Known → (Reading → Reading → Bool) → Truth
in_both k says = truth_of (says (side must k) (side may k)) (says (side may k) (side must k))

-- what is known of a symbol at a tuple
abbrev pub value_of : Known → Symbol → List ℕ → Truth
value_of k symbol t =
    in_both k (λ here inside. symbol_true (predicate_true k.problem.predicates (length k.problem.predicates)) here inside symbol t)

-- what is known of a walk of one or more steps of a symbol from one element to another
abbrev pub walk_of : Known → Symbol → ℕ → ℕ → Truth
walk_of k symbol x y =
    in_both k (λ here inside. atom_true (predicate_true k.problem.predicates (length k.problem.predicates)) here inside true symbol (x ∷ y ∷ []))

-- whether a symbol stands for a class, a reference or a predicate of the problem
abbrev pub declares : Problem → Symbol → Bool
declares p symbol = is_declared (length p.classes) (length p.references) (length p.predicates) symbol
