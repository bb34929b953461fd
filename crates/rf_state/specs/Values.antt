-- The tuples of objects at which a predicate isn't known to be false.
use Rattle.std.specs.Prelude.{◌≡◌, ◌≢◌, ◌↔◌, ℕ, Bool, true, List, All, length, map}
use Rattle.std.specs.Cmp.Lexicographic.{slice_cmp}
use Rattle.std.specs.List.{Contains}
use Rattle.std.specs.List.Sorted.{IsStrictlySortedBy}
use Rattle.std.specs.Ordering.{nat_cmp}
use Rattle.rf_finite.specs.Ends.{within}
use Rattle.rf_finite.specs.Tuples.{IsTuple}
use Rattle.rf_values.specs.declared.truth.Truth.{Truth}
use Rattle.rf_values.specs.declared.truth.Truth.TheVariants.{False}
use Rattle.rf_problem.specs.Parts.{predicate_at}
use Rattle.rf_problem.specs.declared.problem.Problem.{Problem}
use Rattle.rf_state.specs.State.{State, object_of}
use Rattle.rf_state.specs.StateKnown.{value}

-- whether an object may have a node
abbrev pub may_have_node : State → ℕ → Bool
may_have_node s o = within 1 (object_of s o).count.hi

-- a tuple of objects that may have nodes, as many as the predicate has parameters, at which its value isn't false
pub record IsNotFalseAt (p : Problem) (s : State) (q : ℕ) (t : List ℕ) : Type 0 where
  pub tuple : IsTuple (length s.objects) (predicate_at p.predicates q).arity t
  pub nodes : All (λ o. may_have_node s o ≡ true) t
  pub value : value p s q t ≢ False

-- these are all such tuples, in lexicographic order, each once
pub record AreNotFalse (p : Problem) (s : State) (q : ℕ) (tuples : List (List ℕ)) : Type 0 where
  pub ordered : IsStrictlySortedBy (slice_cmp nat_cmp) tuples
  pub members : (t : List ℕ) → Contains tuples t ↔ IsNotFalseAt p s q t

-- these are all such tuples in this order, each with the predicate's value there
pub record AreValues (p : Problem) (s : State) (q : ℕ) (values : List (List ℕ × Truth)) : Type 0 where
  pub tuples : AreNotFalse p s q (map (λ (e : List ℕ × Truth). e.0) values)
  pub each : All (λ (e : List ℕ × Truth). e.1 ≡ value p s q e.0) values
