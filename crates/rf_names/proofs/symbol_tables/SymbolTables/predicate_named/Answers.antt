use Rattle.std.proofs.Common.{None, Some}
use Rattle.rf_names.proofs.NamedLemmas.{predicate_found}
use Rattle.rf_names.proofs.symbol_tables.SymbolTables.predicate_named.Goals as goal

pub returns-in-None : goal.returns-in-None
returns-in-None c = predicate_found c.args.self.now.declared.now _ c.args.text.now None c.args.self.now.of_predicates c.in-None.ensures

pub returns-in-Some : goal.returns-in-Some
returns-in-Some c = predicate_found c.args.self.now.declared.now _ c.args.text.now (Some c.in-Some.number) c.args.self.now.of_predicates c.in-Some.ensures
