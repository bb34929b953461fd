-- Private: no public contract cites this.
-- How far the search for tuples has come.
use Rattle.std.specs.Prelude.{◌≡◌, ◌<◌, ◌++◌, if◌then◌else◌, nat_lt, ℕ, Bool, true, false, Some, List, length, map, drop, slice_get, slice_index, slice_index_or}
use Rattle.rf_finite.specs.Tuples.{IsTuple}
use Rattle.rf_values.specs.Truth.{conjunction}
use Rattle.rf_values.specs.declared.truth.Truth.{Truth}
use Rattle.rf_problem.specs.Parts.{predicate_at}
use Rattle.rf_problem.specs.declared.predicate.Clause.{Clause}
use Rattle.rf_problem.specs.declared.symbol.Symbol.TheVariants.{Predicate as Defined}
use Rattle.rf_evaluate.specs.Elements.{element_at}
use Rattle.rf_evaluate.specs.Evaluating.{clause_value, completed_value, with_element}
use Rattle.rf_evaluate.specs.Gathering.{Column, tells}
use Rattle.rf_evaluate.specs.Known.{Known, value_of}
use Rattle.rf_evaluate.specs.Terms.{AreElements}
use Rattle.rf_evaluate.specs.declared.elements.Elements.{Elements}
use Rattle.rf_evaluate.specs.declared.stage.Body.{Body}
use Rattle.rf_evaluate.specs.declared.stage.Stage.{Stage}

-- a stage with a tuple's elements for the variables that come first
abbrev pub with_tuple : Stage → List ℕ → Stage
with_tuple s t = record {
  elements = t ++ drop (length t) s.elements;
  unassigned = map (λ x. false) t ++ drop (length t) s.unassigned;
  pending = s.pending;
}

-- a tuple has the elements of those among them that are assigned
abbrev pub GoesOn : Stage → List ℕ → Type 0
GoesOn s t = (v : ℕ) → v < length t → slice_index_or s.unassigned v false ≡ false → slice_index t v ≡ slice_index s.elements v

-- a tuple goes on from a stage and passes, and this is told of the body with its elements together with what was evaluated so far
pub record IsReached (k : Known) (b : Body) (passes : List ℕ → Bool) (arity : ℕ) (s : Stage) (value : Truth) (t : List ℕ) (c : Column) : Type 0 where
  pub tuple : IsTuple k.size arity t
  pub passed : passes t ≡ true
  pub goes_on : GoesOn s t
  pub told : tells c (conjunction value (completed_value k b (with_tuple s t))) ≡ true

-- what was evaluated so far with element x for variable v: that another variable than a parameter has it says that it is present
abbrev pub value_with : Known → ℕ → ℕ → Truth → ℕ → Truth
value_with k arity v value x = if nat_lt v arity then value else conjunction value (k.presence x)

-- it is reached with one of the first n of some elements for a variable
pub record IsReachedWith (k : Known) (b : Body) (passes : List ℕ → Bool) (arity : ℕ) (s : Stage) (value : Truth) (v : ℕ) (elements : Elements) (n : ℕ)
    (t : List ℕ) (c : Column) : Type 0 where
  pub number : ℕ
  pub before : number < n
  pub reached : IsReached k b passes arity (with_element s v (element_at elements number)) (value_with k arity v value (element_at elements number)) t c

-- the elements are such, and those of parameters are below size
pub record IsPlaced (k : Known) (arity : ℕ) (s : Stage) : Type 0 where
  pub elements : AreElements k.size s.elements
  pub parameters : (v : ℕ) → v < arity → slice_index_or s.unassigned v false ≡ false → slice_index s.elements v < k.size

-- no parameter is unassigned
abbrev pub AreClosed : ℕ → Stage → Type 0
AreClosed arity s = (v : ℕ) → v < arity → slice_index_or s.unassigned v false ≡ false

-- a tuple passes, and this is told of a clause there
pub record IsFoundAt (k : Known) (passes : List ℕ → Bool) (arity : ℕ) (d : Clause) (t : List ℕ) (c : Column) : Type 0 where
  pub tuple : IsTuple k.size arity t
  pub passed : passes t ≡ true
  pub told : tells c (clause_value k arity t d) ≡ true

-- the same of one of the first n clauses
pub record IsFoundAmong (k : Known) (passes : List ℕ → Bool) (arity : ℕ) (clauses : List Clause) (n : ℕ) (t : List ℕ) (c : Column) : Type 0 where
  pub place : ℕ
  pub clause : Clause
  pub before : place < n
  pub there : slice_get clauses place ≡ Some clause
  pub found : IsFoundAt k passes arity clause t c

-- the same of a predicate
pub record IsMet (k : Known) (q : ℕ) (passes : List ℕ → Bool) (t : List ℕ) (c : Column) : Type 0 where
  pub tuple : IsTuple k.size (predicate_at k.problem.predicates q).arity t
  pub passed : passes t ≡ true
  pub told : tells c (value_of k (Defined q) t) ≡ true
