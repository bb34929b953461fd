-- A state as what is known of its objects.
use Rattle.std.specs.Prelude.{ℕ, ◌==◌, ◌&&◌, ◌||◌, not, nat_le, nat_lt, if◌then◌else◌, List, length}
use Rattle.rf_finite.specs.Ends.{within}
use Rattle.rf_values.specs.Truth.{truth_of}
use Rattle.rf_values.specs.declared.truth.Truth.{Truth}
use Rattle.rf_values.specs.declared.truth.Truth.TheVariants.{False}
use Rattle.rf_problem.specs.declared.problem.Problem.{Problem}
use Rattle.rf_problem.specs.declared.symbol.Symbol.TheVariants.{Predicate}
use Rattle.rf_evaluate.specs.Known.{Known, value_of}
use Rattle.rf_state.specs.State.{State, all_candidates, fact, object_of, some_candidate}

-- each object is an element. It has to be present where it has a node at least, and can be where it may have one. It has to have a
-- class where each candidate is below it, and can where some is. An object is the same as itself, for certain where it has one
-- node at most; and different from each other object, and perhaps from itself where it may have two nodes
abbrev pub state_known : Problem → State → Known
state_known p s = record {
  problem = p;
  size = length s.objects;
  origin = λ o. (object_of s o).origin;
  presence = λ o. truth_of (nat_le 1 (object_of s o).count.lo) (within 1 (object_of s o).count.hi);
  class = λ k o. truth_of (all_candidates p s o k) (some_candidate p s o k);
  edge = λ r a b. if nat_lt a (length s.objects) && nat_lt b (length s.objects) then fact p s r a b else False;
  same = λ a b. truth_of (a == b && not (within 2 (object_of s a).count.hi)) (a == b);
  different = λ a b. truth_of (not (a == b)) (not (a == b) || within 2 (object_of s a).count.hi);
}

-- the value of a predicate at a tuple of objects
abbrev pub value : Problem → State → ℕ → List ℕ → Truth
value p s q t = value_of (state_known p s) (Predicate q) t
