use Rattle.std.proofs.Common.{◌∙◌, sym, ap}
use Rattle.rf_state.proofs.FactLemmas.{opposite}
use Rattle.rf_prop_contain.proofs.concerns.contains_back.Goals as goal

pub reference-requires-in-Some : goal.reference-requires-in-Some
reference-requires-in-Some c =
    (opposite c.args.problem.now c.args.r c.in-Some.q (ap (λ x. x.opposite) (sym c.reference.ensures) ∙ c.in-Some.is)).there
