use Rattle.std.proofs.Common.{◌∙◌, sym}
use Rattle.std.proofs.lemmas.List.Quantifiers.{position-Some}
use Rattle.rf_names.specs.LookUp.{no_class_decl}
use Rattle.rf_names.specs.Texts.{reads}
use Rattle.rf_build.proofs.assertions.new_object_number.Goals as goal

pub new_object_of-requires : goal.new_object_of-requires
new_object_of-requires c =
    (position-Some (λ k. reads c.args.class.now k.name) c.args.names.now.declared.now.classes _ no_class_decl
    (sym c.class_named.ensures ∙ c.in-Some.is)).0
