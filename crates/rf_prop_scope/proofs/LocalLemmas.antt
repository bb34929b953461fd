-- What a change leaves of the scopes.
use Rattle.std.proofs.Common.{◌≡◌, ℕ, subst, sym}
use Rattle.rf_values.specs.declared.truth.Truth.{Truth}
use Rattle.rf_problem.specs.declared.problem.Problem.{Problem}
use Rattle.rf_state.specs.State.{State, merged_at}
use Rattle.rf_prop_scope.specs.Pending.{Covers}
use Rattle.rf_prop_scope.specs.declared.pending.Pending.{Pending}

-- no rule of scopes asks for a fact
pub merged : (p : Problem) (s t : State) (r a b : ℕ) (v : Truth) (pending : Pending) → t ≡ merged_at s r a b v → Covers p s pending → Covers p t pending
merged p s t r a b v pending e covers = subst (λ (u : State). Covers p u pending) (sym e) (record {
  under = record { size = covers.under.size; rows = covers.under.rows };
  top = record { size = covers.top.size; rows = covers.top.rows };
  bottom = record { size = covers.bottom.size; rows = covers.bottom.rows };
  outside = record { size = covers.outside.size; rows = covers.outside.rows };
  inside = record { size = covers.inside.size; rows = covers.inside.rows };
})
