use Rattle.std.proofs.Common.{◌∙◌, ap, map, sym}
use Rattle.rf_names.specs.LookUp.{is_literal_of}
use Rattle.rf_names.proofs.OwnerLemmas.{literal_passes}
use Rattle.rf_names.proofs.enum_tables.EnumTables.has_literal.Goals as goal

pub returns-in-Some : goal.returns-in-Some
returns-in-Some c =
    let d = c.args.self.now.declared.now in
    (rw c.as_slice.ensures.value at c.is_listed.ensures)
    ∙ literal_passes d (λ own. map (λ n. n.now) own.names.items) c.args.self.now.by_class.items c.in-Some.class c.args.text.now c.args.self.now.of_classes
    ∙ ap (λ k. is_literal_of d k c.args.text.now) (sym c.in-Some.is)
