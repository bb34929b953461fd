use Rattle.rf_search.proofs.CourseLaws.{course_stands, courses_are_prefixes}
use Rattle.rf_search.proofs.OnceLemmas.{course_once}
use Rattle.rf_search.proofs.laws.course_law.Goals as goal

pub returns-clause-stand : goal.returns-clause-stand
returns-clause-stand c = course_stands

pub returns-clause-unique : goal.returns-clause-unique
returns-clause-unique c = course_once

pub returns-clause-prefix : goal.returns-clause-prefix
returns-clause-prefix c = courses_are_prefixes
