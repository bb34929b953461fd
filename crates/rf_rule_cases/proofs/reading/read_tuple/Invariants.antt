use Rattle.std.proofs.Common.{◌<◌, All, length}
use Rattle.rf_rule_cases.proofs.reading.read_tuple.Given as goal

abbrev pub invariant-loop-word : goal.invariant-loop-word
invariant-loop-word g l = All (λ o. o < length (g.F.Facts.state l.view).objects) l.tuple
