use Rattle.std.proofs.Common.{◌∙◌}
use Rattle.rf_satisfy.proofs.KnownLemmas.{must-value}
use Rattle.rf_satisfy.proofs.kinds.suspects.holds.Goals as goal

pub returns-clause-value : goal.returns-clause-value
returns-clause-value c = c.must.ensures ∙ must-value c.args.index.now.problem c.args.index.now.graph c.args.symbol c.args.tuple.now c.in_ok-value.field-0 c.in_ok-value.ensures.value
