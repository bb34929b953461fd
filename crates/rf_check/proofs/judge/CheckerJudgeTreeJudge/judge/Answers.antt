use Rattle.std.proofs.Common.{[]}
use Rattle.std.proofs.lemmas.Result.{IfOk-weaker}
use Rattle.rf_check.proofs.judge.CheckerJudgeTreeJudge.judge.Goals as goal

pub returns-clause-checked : goal.returns-clause-checked
returns-clause-checked c = IfOk-weaker c.finish.result _ _
    (λ checked is. is c.args.problem.now c.args.lines.now (c.in_ok-feed.ensures.checked c.args.problem.now [] c.in_ok-checker.ensures.checked))
    c.finish.ensures.checked

pub returns-clause-sound : goal.returns-clause-sound
returns-clause-sound c = IfOk-weaker c.finish.result _ _
    (λ checked means. means c.args.problem.now c.args.lines.now (c.in_ok-feed.ensures.checked c.args.problem.now [] c.in_ok-checker.ensures.checked))
    c.finish.ensures.sound
