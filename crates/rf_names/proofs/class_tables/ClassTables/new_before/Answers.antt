use Rattle.std.proofs.Common.{arith}
use Rattle.std.proofs.lemmas.Grind.{common_steps}
use Rattle.rf_names.proofs.NamedLemmas.{counts_below}
use Rattle.rf_names.proofs.class_tables.ClassTables.new_before.Goals as goal

pub returns-clause-few : goal.returns-clause-few
returns-clause-few c =
    let few = counts_below c.args.self.now.declared.now.classes c.args.self.now.new_before.items c.args.class c.args.self.now.counted c.requires c.args.self.now.few in
    grind (arith, common_steps, few)
