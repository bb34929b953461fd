use Rattle.std.proofs.Common.{◌∙◌, false, length}
use Rattle.std.specs.List.{flat_map}
use Rattle.rf_names.specs.Offsets.{offsets_in_literals}
use Rattle.rf_names.proofs.LeastOffsets.{least_join, least_of_sensed}
use Rattle.rf_structure_rules.specs.StructureOffsets.{assertion_arity, bad_arity, literal_arity}
use Rattle.rf_structure_rules.proofs.arities.arity.Goals as goal

pub returns : goal.returns
returns c =
    let d = c.args.names.now.declared.now in
    c.lesser.ensures
    ∙ least_join (offsets_in_literals (λ n. literal_arity d) d.predicates) (flat_map (assertion_arity d) d.assertions)
    c.in_ok-literals.literals c.in_ok-assertions.assertions c.in_ok-literals.ensures
    (least_of_sensed d (λ a. bad_arity d a.sense false (length a.form.atom.args) a.form.atom.symbol.name.at)
    c.assertions.result.now c.in_ok-assertions.assertions c.in_ok-assertions.ensures c.assertions.ensures)
