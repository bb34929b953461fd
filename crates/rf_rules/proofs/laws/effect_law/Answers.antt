use Rattle.rf_rules.proofs.EffectLemmas.{effect_changes_one, effect_is_change}
use Rattle.rf_rules.proofs.laws.effect_law.Goals as goal

pub returns-clause-change : goal.returns-clause-change
returns-clause-change _ = effect_is_change

pub returns-clause-one : goal.returns-clause-one
returns-clause-one _ = effect_changes_one
