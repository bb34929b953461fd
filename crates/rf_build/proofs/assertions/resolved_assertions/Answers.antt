use Rattle.std.proofs.Common.{◌≡◌, ◌∙◌, ap, arith, map}
use Rattle.std.proofs.lemmas.Grind.{common_steps}
use Rattle.std.proofs.lemmas.Simd.{map-map}
use Rattle.rf_names.specs.LookUp.{sensed}
use Rattle.rf_build.specs.Resolved.{resolved_sensed}
use Rattle.rf_build.proofs.assertions.resolved_assertions.Goals as goal

pub returns : goal.returns
returns c =
    let d = c.args.names.now.declared.now in
    let all : c.loop-assertion.assertions.items ≡ map (resolved_sensed d) c.assertions-assertion-items.result.now = grind (arith, common_steps) in
    all ∙ ap (map (resolved_sensed d)) c.assertions-assertion-items.ensures ∙ map-map (resolved_sensed d) (sensed d) d.assertions
