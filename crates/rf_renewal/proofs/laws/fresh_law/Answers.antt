use Rattle.rf_renewal.proofs.Freshness.{fresh_is_covered, renewed_over_fresh_is_right}
use Rattle.rf_renewal.proofs.Growing.{grown_leads_the_same, grown_says_the_same}
use Rattle.rf_renewal.proofs.laws.fresh_law.Goals as goal

pub returns-clause-values : goal.returns-clause-values
returns-clause-values c = grown_says_the_same

pub returns-clause-walks : goal.returns-clause-walks
returns-clause-walks c = grown_leads_the_same

pub returns-clause-covered : goal.returns-clause-covered
returns-clause-covered c = fresh_is_covered

pub returns-clause-table : goal.returns-clause-table
returns-clause-table c = renewed_over_fresh_is_right
