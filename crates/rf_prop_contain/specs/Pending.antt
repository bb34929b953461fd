-- Which rules of containment may fire: those of the marked rows.
use Rattle.std.specs.Prelude.{ℕ, Option, length}
use Rattle.std.specs.Option.{option_map}
use Rattle.rf_problem.specs.declared.problem.Problem.{Problem}
use Rattle.rf_state.specs.State.{State}
use Rattle.rf_rules.specs.Containers.{least_excluded}
use Rattle.rf_rules.specs.declared.rule.Rule.{Rule}
use Rattle.rf_rules.specs.declared.rule.Rule.TheVariants.{Acyclic, Alone, ContainCount, MustContain, NoContainer, OneContainer}
use Rattle.rf_pending.specs.Rows.{Covers as CoversRows, CoversEdges, firing, least_of_row}
use Rattle.rf_prop_contain.specs.declared.pending.Pending.{Pending}

-- the first container that the edges of reference r from object a exclude
abbrev pub first_excluded : Problem → State → ℕ → ℕ → Option Rule
first_excluded p s r a = option_map (λ at. OneContainer r a at.0 at.1 at.2) (least_excluded p s r a)

-- each rule of containment that fires is in a marked row: for `no-container` a row is an object, for the others a reference and the
-- object at which its edge begins
pub record Covers (p : Problem) (s : State) (pending : Pending) : Type 0 where
  pub one_container : CoversEdges (length p.references) (length s.objects) (first_excluded p s) pending.one_container
  pub alone : CoversEdges (length p.references) (length s.objects) (λ r a. least_of_row p s (Alone r a)) pending.alone
  pub must_contain : CoversEdges (length p.references) (length s.objects) (λ r a. least_of_row p s (MustContain r a)) pending.must_contain
  pub contain_count : CoversEdges (length p.references) (length s.objects) (λ r a. least_of_row p s (ContainCount r a)) pending.contain_count
  pub no_container : CoversRows (length s.objects) (λ b. firing p s (NoContainer b)) pending.no_container
  pub acyclic : CoversEdges (length p.references) (length s.objects) (λ r a. least_of_row p s (Acyclic r a)) pending.acyclic
