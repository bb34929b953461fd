-- How many decisions are allowed in each row of a state, as far as it is known.
use Rattle.std.specs.Prelude.{◌≡◌, ◌<◌, ◌≤◌, ◌*◌, ◌/◌, ◌%◌, ℕ, false, List, length, slice_index}
use Rattle.rf_problem.specs.declared.problem.Problem.{Problem}
use Rattle.rf_state.specs.State.{State}
use Rattle.rf_rules.specs.declared.decision.Decision.{Decision}
use Rattle.rf_pending.specs.Rows.{is_marked}
use Rattle.rf_decide.specs.Choice.{edges_from, kinds_of}
use Rattle.rf_decide.specs.declared.counted.Counted.{Counted}
use Rattle.rf_decide.specs.declared.limit.TheConstants.{MOST_OBJECTS}
use Rattle.rf_decide.specs.declared.sizes.Sizes.{Sizes}

-- there is a number for each of so many lists, none of them more than that; the number of a list that isn't marked as uncounted is how
-- many decisions the list has
pub record AreSizes (many most : ℕ) (list : ℕ → List Decision) (sizes : Sizes) : Type 0 where
  pub numbers : length sizes.numbers.items ≡ many
  pub marks : length sizes.uncounted.rows.items ≡ many
  pub few : (k : ℕ) → k < many → slice_index sizes.numbers.items k ≤ most
  pub counted : (k : ℕ) → k < many → is_marked sizes.uncounted k ≡ false → slice_index sizes.numbers.items k ≡ length (list k)

-- the decisions on the edges of a reference from an object, by the number of the two: they are numbered reference by reference
abbrev pub edge_row : Problem → State → ℕ → List Decision
edge_row p s k = edges_from p s (k / length s.objects) (k % length s.objects)

-- each count that is known is right, of the decisions on the class of each object and of those on the edges of each reference from it
pub record IsCounted (p : Problem) (s : State) (counted : Counted) : Type 0 where
  pub kinds : AreSizes (length s.objects) 256 (kinds_of p s) counted.kinds
  pub edges : AreSizes (length p.references * length s.objects) MOST_OBJECTS (edge_row p s) counted.edges
