use Rattle.std.proofs.Common.{◌∙◌, ap, Err, sym}
use Rattle.rf_run.specs.Commands.{second_file}
use Rattle.rf_run.specs.Stages.{IsSecond}
use Rattle.rf_run.proofs.Replies.{answer_complete, refusal_ended, reply_ended, reply_right, second_had}
use Rattle.rf_run.proofs.Seconds.{IsUnread, unread_complete, unread_ended, unread_fault, unread_missing, unread_right}
use Rattle.rf_run.proofs.files.over_second.Goals as goal

pub returns-in-Err-clause-ended : goal.returns-in-Err-clause-ended
returns-in-Err-clause-ended g c =
    let known : IsUnread (g.F.Folder.state c.args.folder.now) (g.F.Folder.state c.read_second.new.folder) (g.J.Job.command c.args.job.now) c.in-Err.stop = record {
      whole = c.second_file.ensures.whole;
      refused = λ r e. rw c.second_file.ensures.file (c.in-Err.ensures.refused r e);
      fault = λ e. rw c.second_file.ensures.file (c.in-Err.ensures.fault (ap Err e));
    } in
    rw c.end.ensures (unread_ended _ _ _ c.args.problem.now c.in-Err.stop known)

pub returns-in-Err-clause-fault : goal.returns-in-Err-clause-fault
returns-in-Err-clause-fault g c = λ is.
    let known : IsUnread (g.F.Folder.state c.args.folder.now) (g.F.Folder.state c.read_second.new.folder) (g.J.Job.command c.args.job.now) c.in-Err.stop = record {
      whole = c.second_file.ensures.whole;
      refused = λ r e. rw c.second_file.ensures.file (c.in-Err.ensures.refused r e);
      fault = λ e. rw c.second_file.ensures.file (c.in-Err.ensures.fault (ap Err e));
    } in
    unread_fault _ _ _ c.in-Err.stop known (sym c.end.ensures ∙ is)

pub returns-in-Err-clause-right : goal.returns-in-Err-clause-right
returns-in-Err-clause-right g c = λ second stored. rw c.end.ensures (unread_right (g.J.Job.command c.args.job.now) c.args.problem.now second c.in-Err.stop)

pub returns-in-Err-clause-missing : goal.returns-in-Err-clause-missing
returns-in-Err-clause-missing g c = λ name named missing.
    let known : IsUnread (g.F.Folder.state c.args.folder.now) (g.F.Folder.state c.read_second.new.folder) (g.J.Job.command c.args.job.now) c.in-Err.stop = record {
      whole = c.second_file.ensures.whole;
      refused = λ r e. rw c.second_file.ensures.file (c.in-Err.ensures.refused r e);
      fault = λ e. rw c.second_file.ensures.file (c.in-Err.ensures.fault (ap Err e));
    } in
    rw c.end.ensures (unread_missing _ _ _ c.in-Err.stop known name named missing)

pub returns-in-Err-clause-complete : goal.returns-in-Err-clause-complete
returns-in-Err-clause-complete g c = λ second end ends stored unfailed.
    let known : IsUnread (g.F.Folder.state c.args.folder.now) (g.F.Folder.state c.read_second.new.folder) (g.J.Job.command c.args.job.now) c.in-Err.stop = record {
      whole = c.second_file.ensures.whole;
      refused = λ r e. rw c.second_file.ensures.file (c.in-Err.ensures.refused r e);
      fault = λ e. rw c.second_file.ensures.file (c.in-Err.ensures.fault (ap Err e));
    } in
    rw c.end.ensures (unread_complete _ _ _ c.args.problem.now c.in-Err.stop known second end ends stored unfailed)
