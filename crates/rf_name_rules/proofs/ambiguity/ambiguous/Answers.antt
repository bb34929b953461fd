use Rattle.std.proofs.Common.{◌∙◌, ◌++◌, List, ap}
use Rattle.std.specs.List.{flat_map}
use Rattle.rf_names.specs.Declarations.{AssertDecl, Declared, PredicateDecl, ReferenceDecl}
use Rattle.rf_names.specs.Offsets.{least_of, offsets_in_literals}
use Rattle.rf_names.specs.LookUp.{assertion_symbols, sense_of}
use Rattle.rf_name_rules.specs.NameOffsets.{ambiguous_literal, ambiguous_opposite, ambiguous_symbol}
use Rattle.rf_names.proofs.LeastOffsets.{least_join, least_of_sensed}
use Rattle.rf_name_rules.proofs.ambiguity.ambiguous.Goals as goal

pub returns : goal.returns
returns c =
    let d = c.args.names.now.declared.now in
    let references = λ (rs : List ReferenceDecl). flat_map (λ r. ambiguous_opposite d r r.feature.opposite) rs in
    let literals = λ (ps : List PredicateDecl). offsets_in_literals (λ n. ambiguous_literal d) ps in
    let assertions = λ (xs : List AssertDecl). flat_map (λ a. ambiguous_symbol (sense_of (assertion_symbols d a.atom.symbol)) a.atom.symbol) xs in
    let viewed = c.declared.view_is in
    c.lesser-2.ensures
    ∙ least_join (references d.references ++ literals d.predicates) (assertions d.assertions)
    c.lesser.result c.in_ok-assertions.assertions
    (c.lesser.ensures
    ∙ least_join (references d.references) (literals d.predicates) c.in_ok-references.references c.in_ok-literals.literals
    (c.in_ok-references.ensures ∙ ap (λ rs. least_of (references rs)) (c.as_slice.ensures.value ∙ ap (λ (k : Declared). k.references) viewed))
    c.in_ok-literals.ensures)
    (least_of_sensed d (λ a. ambiguous_symbol a.sense a.form.atom.symbol) c.assertions.result.now c.in_ok-assertions.assertions c.in_ok-assertions.ensures c.assertions.ensures)
