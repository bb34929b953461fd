-- Private: no public contract cites this.
-- The objects of the root.
use Rattle.std.specs.Prelude.{◌≡◌, ◌<◌, ◌&&◌, not, ℕ, Bool, List, length, slice_index_or}
use Rattle.std.specs.FinSet.{FinSet, contains}
use Rattle.std.specs.Ordering.{nat_cmp}
use Rattle.rf_problem.specs.Asserted.{admitted}
use Rattle.rf_problem.specs.Classes.{class_at, is_concrete}
use Rattle.rf_problem.specs.Valid.{IsSmall}
use Rattle.rf_problem.specs.declared.problem.Problem.{Problem}
use Rattle.rf_state.specs.State.{AreDeclared, is_candidate, no_object}
use Rattle.rf_state.specs.declared.object.Object.{Object}

-- whether c is a class that nodes may have, and no enum
abbrev pub is_ordinary : Problem → ℕ → Bool
is_ordinary p c = is_concrete p.classes c && not (class_at p.classes c).is_enum

-- the set has the classes that nodes may have and that are no enums
abbrev pub AreOrdinary : Problem → FinSet nat_cmp → Type 0
AreOrdinary p set = (c : ℕ) → contains set c ≡ is_ordinary p c

-- what every object of a state keeps
pub record FitsObject (p : Problem) (x : Object) : Type 0 where
  pub small : IsSmall x.count
  pub declared : AreDeclared p x.candidates

-- what stands for object o of the problem in the root
pub record IsRootObject (p : Problem) (o : ℕ) (x : Object) : Type 0 where
  pub origin : x.origin ≡ o
  pub count : x.count ≡ admitted p o
  pub candidates : (c : ℕ) → contains x.candidates c ≡ is_candidate p o c

-- these stand for the first n objects of the problem
pub record AreRootObjects (p : Problem) (n : ℕ) (objects : List Object) : Type 0 where
  pub many : length objects ≡ n
  pub each : (o : ℕ) → o < n → IsRootObject p o (slice_index_or objects o no_object)
