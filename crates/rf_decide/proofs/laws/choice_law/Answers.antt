use Rattle.rf_decide.proofs.Chosen.{chosen_allowed, members_allowed, none_chosen}
use Rattle.rf_decide.proofs.laws.choice_law.Goals as goal

pub returns-clause-members : goal.returns-clause-members
returns-clause-members c = members_allowed

pub returns-clause-allowed : goal.returns-clause-allowed
returns-clause-allowed c = chosen_allowed

pub returns-clause-none : goal.returns-clause-none
returns-clause-none c = none_chosen
