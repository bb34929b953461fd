use Rattle.std.proofs.Common.{refl}
use Rattle.rf_vstate.proofs.CopyLemmas.{HasFacts-same, from-none}
use Rattle.rf_vstate.proofs.copies.copy_from.Goals as goal

pub loop-b-init : goal.loop-b-init
loop-b-init c = (HasFacts-same c.args.store.now.current _ c.requires.own (from-none c.args.store.now.current c.args.r c.args.fresh.of c.args.fresh.number), refl)
