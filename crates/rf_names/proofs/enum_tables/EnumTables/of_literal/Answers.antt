use Rattle.std.proofs.Common.{None, Some, arith, refl}
use Rattle.rf_names.proofs.OwnerLemmas.{enum_found, enum_missing, owner_there}
use Rattle.rf_names.proofs.enum_tables.EnumTables.of_literal.Goals as goal

pub index-requires : goal.index-requires
index-requires c =
    let there = owner_there c.args.self.now.declared.now _ c.args.self.now.owners.items c.args.text.now (Some c.in-Some.number) c.in-Some.number
    c.args.self.now.of_literals c.args.self.now.of_owners c.in-Some.ensures refl in
    omega (arith, there)

pub returns-in-Some : goal.returns-in-Some
returns-in-Some c =
    enum_found c.args.self.now.declared.now _ c.args.self.now.owners.items c.args.text.now (Some c.in-Some.number) c.in-Some.number c.index.result.now
    c.args.self.now.of_literals c.args.self.now.of_owners c.in-Some.ensures refl c.index.ensures

pub returns-in-None : goal.returns-in-None
returns-in-None c = enum_missing c.args.self.now.declared.now _ c.args.text.now None c.args.self.now.of_literals c.in-None.ensures refl
