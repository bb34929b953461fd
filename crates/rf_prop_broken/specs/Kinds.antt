-- Private: no public contract cites this.
-- The kinds of these rules, and the least rule kind by kind.
use Rattle.std.specs.Prelude.{ℕ, Option, List, length}
use Rattle.std.specs.Option.{option_or}
use Rattle.rf_finite.specs.Range.{first_below}
use Rattle.rf_problem.specs.declared.problem.Problem.{Problem}
use Rattle.rf_state.specs.State.{State}
use Rattle.rf_rules.specs.declared.rule.Rule.{Rule}
use Rattle.rf_rules.specs.declared.rule.Rule.TheVariants.{Broken as BrokenRule, Forced as ForcedRule}
use Rattle.rf_prop_broken.specs.Pending.{first_broken, first_forced}
use Rattle.rf_prop_broken.specs.declared.instances.Instances.{Instances}
use Rattle.rf_prop_broken.specs.declared.instances.Instances.TheVariants as instances
use Rattle.rf_prop_broken.specs.declared.kinds.Kind.{Kind}
use Rattle.rf_prop_broken.specs.declared.kinds.Kind.TheVariants.{Broken, Forced}

-- the rule at a list of objects, and how many objects it has at most
abbrev pub rule_of : Instances → List ℕ → Rule
rule_of (instances.Broken q) t = BrokenRule q t
rule_of (instances.Forced q k j) t = ForcedRule q k j t

abbrev pub most_of : Instances → ℕ
most_of (instances.Broken q) = 4
most_of (instances.Forced q k j) = 8

-- the first rule of a predicate
abbrev pub first_of_predicate : Problem → State → Kind → ℕ → Option Rule
first_of_predicate p s Broken q = first_broken p s q
first_of_predicate p s Forced q = first_forced p s q

-- the least rule of a kind
abbrev pub least_of_predicates : Problem → State → Kind → Option Rule
least_of_predicates p s kind = first_below (length p.predicates) (first_of_predicate p s kind)

-- the first rule of all, one kind after the other
abbrev pub first_of_all : Problem → State → Option Rule
first_of_all p s = option_or (least_of_predicates p s Broken) (least_of_predicates p s Forced)
