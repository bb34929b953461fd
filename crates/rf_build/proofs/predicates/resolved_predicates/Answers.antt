use Rattle.std.proofs.Common.{◌≡◌, ◌∙◌, ap}
use Rattle.rf_names.specs.Declarations.{Declared}
use Rattle.rf_build.proofs.predicates.resolved_predicates.Goals as goal

pub predicates_of-requires : goal.predicates_of-requires
predicates_of-requires c =
    let same : c.as_slice.result.now ≡ c.args.names.now.declared.now.predicates =
    c.as_slice.ensures.value ∙ ap (λ (d : Declared). d.predicates) c.declared.view_is in
    rw same c.requires
