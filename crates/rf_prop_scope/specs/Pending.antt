-- Which rules of scopes may fire: those of the marked scopes.
use Rattle.std.specs.Prelude.{length}
use Rattle.rf_problem.specs.declared.problem.Problem.{Problem}
use Rattle.rf_state.specs.State.{State}
use Rattle.rf_rules.specs.declared.rule.Rule.TheVariants.{ScopeBottom, ScopeIn, ScopeOut, ScopeTop, Under}
use Rattle.rf_pending.specs.Rows.{Covers as CoversRows, firing, least_of_row}
use Rattle.rf_prop_scope.specs.declared.pending.Pending.{Pending}

-- each rule of scopes that fires is in a marked row, which is its scope
pub record Covers (p : Problem) (s : State) (pending : Pending) : Type 0 where
  pub under : CoversRows (length p.scopes) (λ z. firing p s (Under z)) pending.under
  pub top : CoversRows (length p.scopes) (λ z. least_of_row p s (ScopeTop z)) pending.top
  pub bottom : CoversRows (length p.scopes) (λ z. least_of_row p s (ScopeBottom z)) pending.bottom
  pub outside : CoversRows (length p.scopes) (λ z. least_of_row p s (ScopeOut z)) pending.outside
  pub inside : CoversRows (length p.scopes) (λ z. least_of_row p s (ScopeIn z)) pending.inside
