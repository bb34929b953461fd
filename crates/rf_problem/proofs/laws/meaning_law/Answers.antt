use Rattle.rf_problem.proofs.Meanings.{HoldsIn-from_symbol_true, computed, computed-AreMeanings, meanings-unique, symbol_true-from_HoldsIn}
use Rattle.rf_problem.proofs.laws.meaning_law.Goals as goal

pub returns-clause-computed : goal.returns-clause-computed
returns-clause-computed _ = λ p here inside symbol t e. (symbol_true-from_HoldsIn p here inside symbol t e, HoldsIn-from_symbol_true p here inside symbol t e)

pub returns-clause-exists : goal.returns-clause-exists
returns-clause-exists _ = λ p here inside. (computed p here inside, computed p inside here, computed-AreMeanings p here inside)

pub returns-clause-unique : goal.returns-clause-unique
returns-clause-unique _ = λ p here inside says tells says' tells' first second q t e.
    meanings-unique p here inside says tells says' tells' first second q t e
