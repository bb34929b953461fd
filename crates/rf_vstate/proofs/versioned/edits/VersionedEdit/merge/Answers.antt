use Rattle.std.proofs.Common.{◌∙◌, ap}
use Rattle.std.proofs.lemmas.Result.{on_ok_weaker}
use Rattle.rf_values.specs.Truth.{merge}
use Rattle.rf_vstate.specs.Meaning.{current}
use Rattle.rf_vstate.proofs.MergeLemmas.{merged-is}
use Rattle.rf_vstate.proofs.versioned.edits.VersionedEdit.merge.Goals as goal

pub returns-clause-merged : goal.returns-clause-merged
returns-clause-merged c =
    on_ok_weaker c.put_fact.result
    (λ put. put ∙ merged-is (current c.args.self.now) c.args.r c.args.a c.args.b c.args.v c.merge-after.result
    (c.merge-after.ensures ∙ ap (λ t. merge t c.args.v) c.added_at-before.ensures)) c.put_fact.ensures.put
