use Rattle.rf_rules.proofs.ApplyLemmas.{effect_is_applicable}
use Rattle.rf_rules.proofs.RuleLemmas.{closing_closes, effect_fits, fires_is_in_words, rules_are_ordered}
use Rattle.rf_rules.proofs.laws.rule_law.Goals as goal

pub returns-clause-words : goal.returns-clause-words
returns-clause-words _ = fires_is_in_words

pub returns-clause-there : goal.returns-clause-there
returns-clause-there _ = effect_fits

pub returns-clause-closings : goal.returns-clause-closings
returns-clause-closings _ = closing_closes

pub returns-clause-ordered : goal.returns-clause-ordered
returns-clause-ordered _ = rules_are_ordered

pub returns-clause-applicable : goal.returns-clause-applicable
returns-clause-applicable _ = effect_is_applicable
