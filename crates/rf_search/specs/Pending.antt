-- Which rules of all families may fire.
use Rattle.rf_problem.specs.declared.problem.Problem.{Problem}
use Rattle.rf_state.specs.State.{State}
use Rattle.rf_prop_type.specs.Pending.{Covers as CoversTypes}
use Rattle.rf_prop_mult.specs.Pending.{Covers as CoversDegrees}
use Rattle.rf_prop_contain.specs.Pending.{Covers as CoversContainment}
use Rattle.rf_prop_scope.specs.Pending.{Covers as CoversScopes}
use Rattle.rf_prop_broken.specs.Pending.{Covers as CoversPredicates}
use Rattle.rf_search.specs.declared.pending.Pending.{Pending}

-- each rule that fires is among those that may
pub record Covers (p : Problem) (s : State) (pending : Pending) : Type 0 where
  pub types : CoversTypes p s pending.types
  pub degrees : CoversDegrees p s pending.degrees
  pub containment : CoversContainment p s pending.containment
  pub scopes : CoversScopes p s pending.scopes
  pub predicates : CoversPredicates p s pending.predicates
