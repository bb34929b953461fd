use Rattle.std.proofs.Common.{◌≡◌, map, take}
use Rattle.rf_names.specs.LookUp.{sensed}
use Rattle.rf_names.proofs.symbol_tables.SymbolTables.sensed_assertions.Given as goal

abbrev pub invariant-loop-form : goal.invariant-loop-form
invariant-loop-form l = l.assertions.items ≡ map (sensed l.self.declared.now) (take l.form-index l.form-items)
