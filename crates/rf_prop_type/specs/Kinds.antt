-- Private: no public contract cites this.
-- The kinds of these rules, and the least rule kind by kind.
use Rattle.std.specs.Prelude.{ℕ, Option}
use Rattle.std.specs.Option.{option_or}
use Rattle.rf_problem.specs.declared.problem.Problem.{Problem}
use Rattle.rf_state.specs.State.{State}
use Rattle.rf_rules.specs.declared.rule.Rule.{Rule}
use Rattle.rf_rules.specs.declared.rule.Rule.TheVariants as rule
use Rattle.rf_pending.specs.Rows.{least_of_edges, least_of_objects, least_of_row}
use Rattle.rf_prop_type.specs.Pending.{first_clash}
use Rattle.rf_prop_type.specs.declared.kinds.EdgeKind.{EdgeKind}
use Rattle.rf_prop_type.specs.declared.kinds.EdgeKind.TheVariants.{Clash, Src, Tgt}
use Rattle.rf_prop_type.specs.declared.kinds.ObjectKind.{ObjectKind}
use Rattle.rf_prop_type.specs.declared.kinds.ObjectKind.TheVariants.{Empty, NoClass}

-- the rule of an object
abbrev pub object_rule : ObjectKind → ℕ → Rule
object_rule Empty o = rule.Empty o
object_rule NoClass o = rule.NoClass o

-- the first rule of a row of a reference and an object
abbrev pub first_in_row : Problem → State → EdgeKind → ℕ → ℕ → Option Rule
first_in_row p s Src r a = least_of_row p s (rule.Src r a)
first_in_row p s Tgt r a = least_of_row p s (rule.Tgt r a)
first_in_row p s Clash r a = first_clash p s r a

-- the first rule of all, one kind after the other
abbrev pub first_of_all : Problem → State → Option Rule
first_of_all p s =
    option_or (least_of_objects p s (object_rule Empty))
    (option_or (least_of_objects p s (object_rule NoClass))
    (option_or (least_of_edges p s (first_in_row p s Src))
    (option_or (least_of_edges p s (first_in_row p s Tgt)) (least_of_edges p s (first_in_row p s Clash)))))
