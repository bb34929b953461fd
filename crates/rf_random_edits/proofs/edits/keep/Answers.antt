use Rattle.std.proofs.Common.{rules}
use Rattle.rf_random_edits.proofs.edits.keep.Goals as goal

pub returns-clause-made : goal.returns-clause-made
returns-clause-made g c = ((c.some_set-set.result, c.in_ok-keep.ensures.narrowed), search rules)
