-- Private: no public contract cites this.
-- The calls that may be forced.
use Rattle.std.specs.Prelude.{◌≡◌, ◌<◌, ℕ, Bool, false, Option, List, length}
use Rattle.rf_values.specs.declared.truth.Truth.TheVariants.{Unknown}
use Rattle.rf_problem.specs.Reading.{Assignment}
use Rattle.rf_problem.specs.declared.predicate.Literal.{Literal}
use Rattle.rf_problem.specs.declared.predicate.Literal.TheVariants.{Call}
use Rattle.rf_problem.specs.declared.predicate.Term.{Term}
use Rattle.rf_problem.specs.declared.problem.Problem.{Problem}
use Rattle.rf_problem.specs.declared.symbol.Symbol.TheVariants.{Reference}
use Rattle.rf_state.specs.State.{State}
use Rattle.rf_rules.specs.Predicates.{forced_effect, is_open}
use Rattle.rf_rules.specs.declared.effect.Effect.TheVariants.{Merge}

-- a literal is no call of a reference without closure, and nothing is forced by it
pub record IsNoEdgeCall (l : Literal) : Type 0 where
  pub closed : (p : Problem) (s : State) (variables : List (Option ℕ)) (places : Assignment) → is_open p s variables places l ≡ false
  pub nothing : (places : Assignment) → forced_effect places l ≡ Merge 0 0 0 Unknown

-- where a literal calls a reference, it is one of the problem
abbrev pub HasReference : Problem → Literal → Type 0
HasReference p l =
    (negated closure : Bool) (r : ℕ) (args : List Term) → l ≡ Call negated closure (Reference r) args → r < length p.references
