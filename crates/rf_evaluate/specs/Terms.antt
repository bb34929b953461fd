-- Private: no public contract cites this.
-- The terms of literals.
use Rattle.std.specs.Prelude.{◌≡◌, ◌<◌, ◌==◌, ◌||◌, max, ℕ, Bool, false, List, map, slice_index, slice_index_or}
use Rattle.std.specs.List.{list_any}
use Rattle.rf_problem.specs.Reading.{Assignment, Choice, element_of}
use Rattle.rf_problem.specs.declared.predicate.Literal.{Literal}
use Rattle.rf_problem.specs.declared.predicate.Literal.TheVariants.{Call, Same, Differ}
use Rattle.rf_problem.specs.declared.predicate.Term.{Term}
use Rattle.rf_problem.specs.declared.predicate.Term.TheVariants.{Var, Atom}

-- whether a term is this atom
abbrev pub is_atom : ℕ → Term → Bool
is_atom o (Var v) = false
is_atom o (Atom a) = a == o

-- whether a term is an unassigned variable
abbrev pub is_unassigned : List Bool → Term → Bool
is_unassigned unassigned (Var v) = slice_index_or unassigned v false
is_unassigned unassigned (Atom o) = false

-- whether a literal names an unassigned variable
abbrev pub names_unassigned : List Bool → Literal → Bool
names_unassigned unassigned (Call negated closure symbol args) = list_any (is_unassigned unassigned) args
names_unassigned unassigned (Same a b) = is_unassigned unassigned a || is_unassigned unassigned b
names_unassigned unassigned (Differ a b) = is_unassigned unassigned a || is_unassigned unassigned b

-- each of some cells has one of n elements, or 0 where there are none
abbrev pub AreElements : ℕ → List ℕ → Type 0
AreElements n cells = (i : ℕ) → slice_index cells i < max 1 n

-- the cells have the elements that the terms stand for
abbrev pub StandFor : List ℕ → List Term → Assignment → Choice → Type 0
StandFor cells terms assignment choice = slice_index cells ≡ slice_index (map (element_of assignment choice) terms)
