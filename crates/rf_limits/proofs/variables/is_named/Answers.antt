use Rattle.std.proofs.Common.{◌≡◌, true, arith, sym}
use Rattle.std.proofs.lemmas.Grind.{common_steps}
use Rattle.rf_names.specs.Texts.{reads}
use Rattle.rf_limits.proofs.VariablesPast.{any_lent_at}
use Rattle.rf_limits.proofs.variables.is_named.Goals as goal

pub returns-then-eq : goal.returns-then-eq
returns-then-eq c =
    let holds : reads c.args.name.now.text c.other-item.result.now ≡ true = grind (arith, common_steps) in
    sym (any_lent_at (reads c.args.name.now.text) c.args.known.now c.loop-other.other-index c.other-item.result (omega arith) c.other-item.is holds)
