use Rattle.rf_renewal.proofs.Comparing.{facts_cover_nothing_done, predicate_is_covered, symbol_is_covered}
use Rattle.rf_renewal.proofs.laws.compare_law.Goals as goal

pub returns-clause-first : goal.returns-clause-first
returns-clause-first c = facts_cover_nothing_done

pub returns-clause-predicate : goal.returns-clause-predicate
returns-clause-predicate c = predicate_is_covered

pub returns-clause-symbol : goal.returns-clause-symbol
returns-clause-symbol c = symbol_is_covered
