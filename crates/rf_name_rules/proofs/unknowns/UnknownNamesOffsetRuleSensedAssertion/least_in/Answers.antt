use Rattle.std.proofs.Common.{◌≡◌, ◌∙◌, ◌++◌, ap, subst}
use Rattle.std.specs.List.{flat_map}
use Rattle.rf_names.specs.Declarations.{AssertDecl}
use Rattle.rf_names.specs.LookUp.{SensedDecl}
use Rattle.rf_names.specs.Offsets.{least_of}
use Rattle.rf_names.proofs.LeastOffsets.{least_join}
use Rattle.rf_name_rules.specs.NameOffsets.{unknown_arg, unknown_symbol}
use Rattle.rf_name_rules.proofs.unknowns.UnknownNamesOffsetRuleSensedAssertion.least_in.Goals as goal

pub returns : goal.returns
returns c =
    let d = c.args.self.now.names.now.declared.now in
    let sense = c.assertion.inside.sense in
    let atom = c.form.inside.atom.now in
    subst (λ (a : SensedDecl). c.lesser.result ≡ least_of (unknown_symbol d a.sense a.form.atom.symbol.name a.form.atom.symbol.member ++ flat_map (unknown_arg d) a.form.atom.args))
    c.assertion.view_is
    (subst (λ (k : AssertDecl). c.lesser.result ≡ least_of (unknown_symbol d sense k.atom.symbol.name k.atom.symbol.member ++ flat_map (unknown_arg d) k.atom.args))
    c.form.view_is
    (c.lesser.ensures
    ∙ least_join (unknown_symbol d sense atom.symbol.name atom.symbol.member) (flat_map (unknown_arg d) atom.args)
    c.unknown_symbol-symbol.result c.in_ok-args.args c.unknown_symbol-symbol.ensures
    (c.in_ok-args.ensures ∙ ap (λ args. least_of (flat_map (unknown_arg d) args)) c.as_slice.ensures)))
