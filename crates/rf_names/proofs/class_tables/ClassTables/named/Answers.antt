use Rattle.std.proofs.Common.{None, Some}
use Rattle.rf_names.proofs.NamedLemmas.{class_found}
use Rattle.rf_names.proofs.class_tables.ClassTables.named.Goals as goal

pub returns-in-None : goal.returns-in-None
returns-in-None c = class_found c.args.self.now.declared.now _ c.args.text.now None c.args.self.now.of_names c.in-None.ensures

pub returns-in-Some : goal.returns-in-Some
returns-in-Some c = class_found c.args.self.now.declared.now _ c.args.text.now (Some c.in-Some.number) c.args.self.now.of_names c.in-Some.ensures
