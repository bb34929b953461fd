use Rattle.std.proofs.Common.{None, Some, refl, sym, ap}
use Rattle.rf_names.proofs.NamedLemmas.{item_missing, item_position, item_read}
use Rattle.rf_names.proofs.object_tables.ObjectTables.item_named.Goals as goal

pub returns-in-None : goal.returns-in-None
returns-in-None c = sym (item_missing c.args.self.now.declared.now _ c.args.text.now None c.args.self.now.of_items c.in-None.ensures refl)

pub returns-in-Some : goal.returns-in-Some
returns-in-Some c =
    let d = c.args.self.now.declared.now in
    let place = item_position d _ c.args.text.now (Some c.in-Some.number) c.in-Some.number c.args.self.now.of_items c.in-Some.ensures refl in
    item_read c.declared.inside.items.items d.items c.in-Some.number c.index.result.now _ (ap (λ x. x.items) c.declared.view_is) place.0 c.index.ensures place.1
