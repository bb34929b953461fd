use Rattle.std.proofs.Common.{ap, Err}
use Rattle.rf_run.proofs.TreeFacts.{tree_laws}
use Rattle.rf_run.proofs.Verified.{IsPrinted, IsUnjudged, unjudged_complete, unjudged_ended, unjudged_missing, verdict_complete, verdict_right}
use Rattle.rf_run.specs.Stages.{IsJudgedFile}
use Rattle.rf_run.proofs.verify.over_tree.Goals as goal

pub returns-in-Ok-reply_to-clause-right : goal.returns-in-Ok-reply_to-clause-right
returns-in-Ok-reply_to-clause-right g c =
    let judged : IsJudgedFile (g.F.Folder.state c.args.folder.now) c.args.job.now.tree c.args.problem.now c.in-Ok.verdict = rw (← c.as_str.ensures.bytes) c.in-Ok.ensures.judged in
    let printed : IsPrinted c.in-Ok-reply_to.reply c.in-Ok.verdict = record { text = c.in-Ok-reply_to.ensures.text; sign = c.in-Ok-reply_to.ensures.sign } in
    verdict_right _ c.args.job.now.file c.args.job.now.tree c.args.problem.now c.in-Ok.verdict c.in-Ok-reply_to.reply (tree_laws c.args.problem.now) judged printed

pub returns-in-Ok-reply_to-clause-complete : goal.returns-in-Ok-reply_to-clause-complete
returns-in-Ok-reply_to-clause-complete g c = λ second end ends stored unfailed.
    let judged : IsJudgedFile (g.F.Folder.state c.args.folder.now) c.args.job.now.tree c.args.problem.now c.in-Ok.verdict = rw (← c.as_str.ensures.bytes) c.in-Ok.ensures.judged in
    let printed : IsPrinted c.in-Ok-reply_to.reply c.in-Ok.verdict = record { text = c.in-Ok-reply_to.ensures.text; sign = c.in-Ok-reply_to.ensures.sign } in
    verdict_complete _ c.args.job.now.file c.args.job.now.tree c.args.problem.now c.in-Ok.verdict c.in-Ok-reply_to.reply (tree_laws c.args.problem.now) judged printed second end ends stored

pub returns-in-Err-clause-ended : goal.returns-in-Err-clause-ended
returns-in-Err-clause-ended g c =
    let known : IsUnjudged (g.F.Folder.state c.args.folder.now) c.args.job.now.file c.args.job.now.tree c.args.problem.now (g.F.Folder.state c.judge_file.new.folder) c.in-Err.stop = record {
      refused = λ r e. rw (← c.as_str.ensures.bytes) (c.in-Err.ensures.refused r e);
      fault = λ e. rw (← c.as_str.ensures.bytes) (c.in-Err.ensures.fault (ap Err e));
    } in
    rw c.end.ensures (unjudged_ended _ c.args.job.now.file c.args.job.now.tree c.args.problem.now _ c.in-Err.stop known)

pub returns-in-Err-clause-missing : goal.returns-in-Err-clause-missing
returns-in-Err-clause-missing g c = λ name named missing.
    let known : IsUnjudged (g.F.Folder.state c.args.folder.now) c.args.job.now.file c.args.job.now.tree c.args.problem.now (g.F.Folder.state c.judge_file.new.folder) c.in-Err.stop = record {
      refused = λ r e. rw (← c.as_str.ensures.bytes) (c.in-Err.ensures.refused r e);
      fault = λ e. rw (← c.as_str.ensures.bytes) (c.in-Err.ensures.fault (ap Err e));
    } in
    rw c.end.ensures (unjudged_missing _ c.args.job.now.file c.args.job.now.tree c.args.problem.now _ c.in-Err.stop known name named missing)

pub returns-in-Err-clause-complete : goal.returns-in-Err-clause-complete
returns-in-Err-clause-complete g c = λ second end ends stored unfailed.
    let known : IsUnjudged (g.F.Folder.state c.args.folder.now) c.args.job.now.file c.args.job.now.tree c.args.problem.now (g.F.Folder.state c.judge_file.new.folder) c.in-Err.stop = record {
      refused = λ r e. rw (← c.as_str.ensures.bytes) (c.in-Err.ensures.refused r e);
      fault = λ e. rw (← c.as_str.ensures.bytes) (c.in-Err.ensures.fault (ap Err e));
    } in
    rw c.end.ensures (unjudged_complete _ c.args.job.now.file c.args.job.now.tree c.args.problem.now _ c.in-Err.stop known second end ends stored unfailed)
