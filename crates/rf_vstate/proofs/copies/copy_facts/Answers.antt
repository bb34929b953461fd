use Rattle.std.proofs.Common.{refl}
use Rattle.rf_vstate.proofs.CopyLemmas.{HasFacts-same, below-none}
use Rattle.rf_vstate.proofs.copies.copy_facts.Goals as goal

pub loop-r-init : goal.loop-r-init
loop-r-init c = (HasFacts-same c.args.store.now.current _ c.requires.own (below-none c.args.store.now.current c.args.fresh.of c.args.fresh.number), refl)
