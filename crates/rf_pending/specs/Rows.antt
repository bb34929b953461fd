-- Rows of rules: in a row stand the rules of one kind that are looked for together.
use Rattle.std.specs.Prelude.{◌≡◌, ◌<◌, ◌*◌, ◌/◌, ◌%◌, ℕ, Bool, false, ◌&&◌, nat_le, Option, None, length, slice_index_or}
use Rattle.std.specs.Bool.{then_some}
use Rattle.std.specs.Option.{option_map}
use Rattle.rf_finite.specs.Range.{first_below}
use Rattle.rf_problem.specs.declared.problem.Problem.{Problem}
use Rattle.rf_state.specs.State.{State}
use Rattle.rf_rules.specs.Rules.{fires, least_object}
use Rattle.rf_rules.specs.declared.rule.Rule.{Rule}
use Rattle.rf_pending.specs.declared.marks.Marks.{Marks}

-- a rule, where it fires
abbrev pub firing : Problem → State → Rule → Option Rule
firing p s rule = then_some (fires p s rule) rule

-- the least rule of a row that fires, where the row has a rule for each object
abbrev pub least_of_row : Problem → State → (ℕ → Rule) → Option Rule
least_of_row p s rule_at = option_map rule_at (least_object p s rule_at)

-- the least of rules that there are one for each object
abbrev pub least_of_objects : Problem → State → (ℕ → Rule) → Option Rule
least_of_objects p s rule_at = first_below (length s.objects) (λ o. firing p s (rule_at o))

-- the least of rules that have a row for each reference and object, where `found` is what is found in each row
abbrev pub least_of_edges : Problem → State → (ℕ → ℕ → Option Rule) → Option Rule
least_of_edges p s found = first_below (length p.references) (λ r. first_below (length s.objects) (found r))

-- whether a row is marked
abbrev pub is_marked : Marks → ℕ → Bool
is_marked marks k = nat_le marks.start k && slice_index_or marks.rows.items k false

-- there are so many rows, and each in which a rule fires is marked
pub record Covers (many : ℕ) (found : ℕ → Option Rule) (marks : Marks) : Type 0 where
  pub size : length marks.rows.items ≡ many
  pub rows : (k : ℕ) → k < many → is_marked marks k ≡ false → found k ≡ None

-- the same where there is a row for each of so many references and objects: they are numbered reference by reference
abbrev pub CoversEdges : ℕ → ℕ → (ℕ → ℕ → Option Rule) → Marks → Type 0
CoversEdges references objects found marks = Covers (references * objects) (λ k. found (k / objects) (k % objects)) marks
