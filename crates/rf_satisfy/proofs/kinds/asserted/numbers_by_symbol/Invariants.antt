use Rattle.rf_satisfy.specs.SymbolKinds.{AreNumbered}
use Rattle.rf_satisfy.proofs.kinds.asserted.numbers_by_symbol.Given as goal

abbrev pub invariant-loop-i : goal.invariant-loop-i
invariant-loop-i l = AreNumbered l.problem l.kind l.i l.rows.items
