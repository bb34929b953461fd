use Rattle.std.proofs.Common.{refl}
use Rattle.std.proofs.lemmas.Option.{slice_get_read}
use Rattle.rf_evaluate.proofs.Narrowing.{AreCandidates-found, declares_called-from_IsSoundBody}
use Rattle.rf_evaluate.proofs.next.listed_below.Goals as goal

pub along_literal-next-requires : goal.along_literal-next-requires
along_literal-next-requires g c =
    declares_called-from_IsSoundBody (g.K.Knowledge.known c.args.known.now) c.args.body.now c.requires c.loop-i.i c.literal-item.result
    (slice_get_read c.args.body.now.literals.now _ c.loop-i.i c.literal-item.result refl c.loop-i-test.true c.literal-item.is)

pub returns-then-is_some : goal.returns-then-is_some
returns-then-is_some g c =
    AreCandidates-found (g.K.Knowledge.known c.args.known.now) c.args.body.now c.args.stage.now c.loop-i.i c.literal-item.result c.along_literal-next.result
    (slice_get_read c.args.body.now.literals.now _ c.loop-i.i c.literal-item.result refl c.loop-i-test.true c.literal-item.is)
    c.if-stage-i.true c.along_literal-next.ensures
