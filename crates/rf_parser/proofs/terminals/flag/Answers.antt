use Rattle.rf_parser.proofs.Singles.{flag_is_set, flag_is_not_set}
use Rattle.rf_parser.proofs.terminals.flag.Goals as goal

pub returns-in-Some : goal.returns-in-Some
returns-in-Some c = flag_is_set _ c.in-Some.ensures.found

pub returns-in-None : goal.returns-in-None
returns-in-None c = flag_is_not_set _ c.in-None.ensures.none
