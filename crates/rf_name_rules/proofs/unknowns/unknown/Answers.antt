use Rattle.std.proofs.Common.{◌∙◌, ◌++◌, Bor, List, ap, map}
use Rattle.std.specs.List.{flat_map}
use Rattle.rf_names.specs.Declarations.{AssertDecl, ClassDecl, Declared, PredicateDecl, ReferenceDecl}
use Rattle.rf_syntax.specs.declared.statement.Bound.{Bound}
use Rattle.rf_names.specs.Offsets.{least_of, offsets_in_literals}
use Rattle.rf_name_rules.specs.NameOffsets.{unknown_arg, unknown_assertion, unknown_bound, unknown_literal, unknown_param_class, unknown_reference, unknown_super, unknown_symbol}
use Rattle.rf_names.proofs.LeastOffsets.{least_join, least_of_sensed}
use Rattle.rf_name_rules.proofs.unknowns.unknown.Goals as goal

pub returns : goal.returns
returns c =
    let d = c.args.names.now.declared.now in
    let supers = λ (cs : List ClassDecl). flat_map (λ k. flat_map (unknown_super d) k.supers) cs in
    let references = λ (rs : List ReferenceDecl). flat_map (unknown_reference d) rs in
    let params = λ (ps : List PredicateDecl). flat_map (λ p. flat_map (λ param. unknown_param_class d param.class) p.params) ps in
    let bounds = λ (bs : List Bound). flat_map (λ b. unknown_bound d b.name) bs in
    let literals = λ (ps : List PredicateDecl). offsets_in_literals (λ n. unknown_literal d) ps in
    let assertions = λ (xs : List AssertDecl). flat_map (unknown_assertion d) xs in
    let viewed = c.declared.view_is in
    c.lesser-4.ensures
    ∙ least_join (supers d.classes ++ references d.references ++ params d.predicates ++ bounds d.bounds ++ literals d.predicates) (assertions d.assertions)
    c.lesser-3.result c.in_ok-assertions.assertions
    (c.lesser-3.ensures
    ∙ least_join (supers d.classes ++ references d.references ++ params d.predicates ++ bounds d.bounds) (literals d.predicates)
    c.lesser-earlier.result c.in_ok-literals.literals
    (c.lesser-earlier.ensures
    ∙ least_join (supers d.classes ++ references d.references ++ params d.predicates) (bounds d.bounds)
    c.lesser-2.result c.in_ok-bounds.bounds
    (c.lesser-2.ensures
    ∙ least_join (supers d.classes ++ references d.references) (params d.predicates)
    c.lesser.result c.in_ok-predicates.predicates
    (c.lesser.ensures
    ∙ least_join (supers d.classes) (references d.references)
    c.in_ok-classes.classes c.in_ok-references.references
    (c.in_ok-classes.ensures ∙ ap (λ cs. least_of (supers cs)) (c.as_slice.ensures.value ∙ ap (λ (k : Declared). k.classes) viewed))
    (c.in_ok-references.ensures ∙ ap (λ rs. least_of (references rs)) (c.as_slice-2.ensures.value ∙ ap (λ (k : Declared). k.references) viewed)))
    (c.in_ok-predicates.ensures ∙ ap (λ ps. least_of (params ps)) (c.as_slice-3.ensures.value ∙ ap (λ (k : Declared). k.predicates) viewed)))
    (c.in_ok-bounds.ensures ∙ ap (λ bs. least_of (bounds bs)) (ap (map (λ (b : Bor Bound). b.now)) c.as_slice-4.ensures.value ∙ ap (λ (k : Declared). k.bounds) viewed)))
    c.in_ok-literals.ensures)
    (least_of_sensed d (λ a. unknown_symbol d a.sense a.form.atom.symbol.name a.form.atom.symbol.member ++ flat_map (unknown_arg d) a.form.atom.args)
    c.assertions.result.now c.in_ok-assertions.assertions c.in_ok-assertions.ensures c.assertions.ensures)
