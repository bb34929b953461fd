-- Private: no public contract cites this.
-- The kinds of these rules, and the least rule kind by kind.
use Rattle.std.specs.Prelude.{ℕ, Option}
use Rattle.std.specs.Option.{option_or}
use Rattle.rf_problem.specs.declared.problem.Problem.{Problem}
use Rattle.rf_state.specs.State.{State}
use Rattle.rf_rules.specs.declared.rule.Rule.{Rule}
use Rattle.rf_rules.specs.declared.rule.Rule.TheVariants as rule
use Rattle.rf_pending.specs.Rows.{least_of_edges, least_of_objects, least_of_row}
use Rattle.rf_prop_contain.specs.Pending.{first_excluded}
use Rattle.rf_prop_contain.specs.declared.kinds.EdgeKind.{EdgeKind}
use Rattle.rf_prop_contain.specs.declared.kinds.EdgeKind.TheVariants.{Acyclic, Alone, ContainCount, MustContain, OneContainer}

-- the first rule of a row of a reference and an object
abbrev pub first_in_row : Problem → State → EdgeKind → ℕ → ℕ → Option Rule
first_in_row p s OneContainer r a = first_excluded p s r a
first_in_row p s Alone r a = least_of_row p s (rule.Alone r a)
first_in_row p s MustContain r a = least_of_row p s (rule.MustContain r a)
first_in_row p s ContainCount r a = least_of_row p s (rule.ContainCount r a)
first_in_row p s Acyclic r a = least_of_row p s (rule.Acyclic r a)

-- the first rule of all, one kind after the other
abbrev pub first_of_all : Problem → State → Option Rule
first_of_all p s =
    option_or (least_of_edges p s (first_in_row p s OneContainer))
    (option_or (least_of_edges p s (first_in_row p s Alone))
    (option_or (least_of_edges p s (first_in_row p s MustContain))
    (option_or (least_of_edges p s (first_in_row p s ContainCount))
    (option_or (least_of_objects p s rule.NoContainer) (least_of_edges p s (first_in_row p s Acyclic))))))
