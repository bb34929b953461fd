use Rattle.std.proofs.Common.{sym, ◌∙◌}
use Rattle.rf_satisfy.proofs.SuspectEdgeLemmas.{ends-kept, ends-other, ends-suspect}
use Rattle.rf_satisfy.proofs.kinds.excess.denied_ends.Goals as goal
use Rattle.rf_satisfy.proofs.kinds.excess.denied_ends.Goals.{else-edge-reference-via-then-edge-reference+else-is_denied_at, else-edge-reference-via-else-edge-reference}

pub returns-then-is_denied_at : goal.returns-then-is_denied_at
returns-then-is_denied_at c =
    rw c.of.ensures
    (ends-suspect c.args.index.now.problem c.args.index.now.graph c.args.reference c.args.edge c.requires.fits c.if-edge-reference.true
    (sym c.is_denied_at.ensures ∙ c.if-is_denied_at.true))

pub returns : goal.returns
returns c = elim c.else-edge-reference.branch [
  | else-edge-reference-via-then-edge-reference+else-is_denied_at w ↦
      ends-kept c.args.index.now.problem c.args.index.now.graph c.args.reference c.args.edge (sym w.is_denied_at.ensures ∙ w.if-is_denied_at.false)
  | else-edge-reference-via-else-edge-reference w ↦
      ends-other c.args.index.now.problem c.args.index.now.graph c.args.reference c.args.edge w.if-edge-reference.false
]
