-- The rules that a reference and an object have at each other object.
use Rattle.std.specs.Prelude.{ℕ}
use Rattle.rf_rules.specs.declared.degrees.rows.DegreeRule.{DegreeRule}
use Rattle.rf_rules.specs.declared.degrees.rows.DegreeRule.TheVariants as kind
use Rattle.rf_rules.specs.declared.rule.Rule.{Rule}
use Rattle.rf_rules.specs.declared.rule.Rule.TheVariants as rule

abbrev pub degree_rule : DegreeRule → ℕ → ℕ → ℕ → Rule
degree_rule kind.Full r a b = rule.Full r a b
degree_rule kind.Room r a b = rule.Room r a b
degree_rule kind.Need r a b = rule.Need r a b
degree_rule kind.NeedCount r a b = rule.NeedCount r a b
