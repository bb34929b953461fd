use Rattle.std.proofs.Common.{refl, replicate, false}
use Rattle.rf_evaluate.proofs.Cells.{marked-alone}
use Rattle.rf_evaluate.proofs.stage.Stage.inside.Goals as goal

pub returns-clause-pending : goal.returns-clause-pending
returns-clause-pending c = marked-alone (replicate 36 false) c.args.i refl c.requires.literal
