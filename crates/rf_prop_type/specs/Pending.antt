-- Which rules of counts and types may fire: those of the marked rows.
use Rattle.std.specs.Prelude.{ℕ, Option, length}
use Rattle.std.specs.Option.{option_map}
use Rattle.rf_problem.specs.declared.problem.Problem.{Problem}
use Rattle.rf_state.specs.State.{State}
use Rattle.rf_rules.specs.Rows.{least_clash}
use Rattle.rf_rules.specs.declared.rule.Rule.{Rule}
use Rattle.rf_rules.specs.declared.rule.Rule.TheVariants.{Clash, Empty, NoClass, Src, Tgt}
use Rattle.rf_pending.specs.Rows.{Covers as CoversRows, CoversEdges, firing, least_of_row}
use Rattle.rf_prop_type.specs.declared.pending.Pending.{Pending}

-- the first clash of a row
abbrev pub first_clash : Problem → State → ℕ → ℕ → Option Rule
first_clash p s r a = option_map (λ at. Clash r a at.0 at.1) (least_clash p s r a)

-- each rule of counts and types that fires is in a marked row: for `empty` and `no-class` a row is an object, for the others a
-- reference and the object at which its edge begins
pub record Covers (p : Problem) (s : State) (pending : Pending) : Type 0 where
  pub empty : CoversRows (length s.objects) (λ o. firing p s (Empty o)) pending.empty
  pub no_class : CoversRows (length s.objects) (λ o. firing p s (NoClass o)) pending.no_class
  pub src : CoversEdges (length p.references) (length s.objects) (λ r a. least_of_row p s (Src r a)) pending.src
  pub tgt : CoversEdges (length p.references) (length s.objects) (λ r a. least_of_row p s (Tgt r a)) pending.tgt
  pub clash : CoversEdges (length p.references) (length s.objects) (first_clash p s) pending.clash
