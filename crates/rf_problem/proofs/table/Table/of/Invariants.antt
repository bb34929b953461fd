use Rattle.std.proofs.Common.{take}
use Rattle.rf_problem.specs.Table.{IsTable}
use Rattle.rf_problem.proofs.table.Table.of.Given as goal

abbrev pub invariant-loop-assertion : goal.invariant-loop-assertion
invariant-loop-assertion l = IsTable (take l.assertion-index l.assertions) l.heard l.stars
