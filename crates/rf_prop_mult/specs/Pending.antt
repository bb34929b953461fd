-- Which rules of numbers of edges may fire: those of the marked rows.
use Rattle.std.specs.Prelude.{length}
use Rattle.rf_problem.specs.declared.problem.Problem.{Problem}
use Rattle.rf_state.specs.State.{State}
use Rattle.rf_rules.specs.declared.rule.Rule.TheVariants.{Full, Need, NeedCount, Room, TypeLow}
use Rattle.rf_pending.specs.Rows.{CoversEdges, firing, least_of_row}
use Rattle.rf_prop_mult.specs.declared.pending.Pending.{Pending}

-- each rule of numbers of edges that fires is in a marked row: a reference and the object at which its edges begin
pub record Covers (p : Problem) (s : State) (pending : Pending) : Type 0 where
  pub full : CoversEdges (length p.references) (length s.objects) (λ r a. least_of_row p s (Full r a)) pending.full
  pub room : CoversEdges (length p.references) (length s.objects) (λ r a. least_of_row p s (Room r a)) pending.room
  pub need : CoversEdges (length p.references) (length s.objects) (λ r a. least_of_row p s (Need r a)) pending.need
  pub need_count : CoversEdges (length p.references) (length s.objects) (λ r a. least_of_row p s (NeedCount r a)) pending.need_count
  pub type_low : CoversEdges (length p.references) (length s.objects) (λ r a. firing p s (TypeLow r a)) pending.type_low
