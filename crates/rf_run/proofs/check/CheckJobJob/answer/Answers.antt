use Rattle.std.proofs.Common.{ap, Err}
use Rattle.rf_run.proofs.BadLines.{bad_line_decides}
use Rattle.rf_run.proofs.check.CheckJobJob.answer.Goals as goal

pub returns-in-Err-BadLine-clause-decides : goal.returns-in-Err-BadLine-clause-decides
returns-in-Err-BadLine-clause-decides c =
    rw c.in-Err-BadLine.line-is
    (bad_line_decides c.args.self.now.file c.args.self.now.graph c.args.problem.now c.args.second.now c.in-Err-BadLine.line _
    (ap Err c.in-Err-BadLine.field-0-is) c.requires c.in-Err-BadLine.ensures.found
    (c.in-Err-BadLine.ensures.bad_line c.in-Err-BadLine.line (ap Err c.in-Err-BadLine.field-0-is)) c.in-Err-BadLine.ensures.stuck)
