use Rattle.std.proofs.Common.{refl}
use Rattle.rf_vstate.proofs.CopyLemmas.{HasFacts-same, into-none}
use Rattle.rf_vstate.proofs.copies.copy_into.Goals as goal

pub loop-a-init : goal.loop-a-init
loop-a-init c = (HasFacts-same c.args.store.now.current _ c.requires.own (into-none c.args.store.now.current c.args.r c.args.fresh.of c.args.fresh.number), refl)
