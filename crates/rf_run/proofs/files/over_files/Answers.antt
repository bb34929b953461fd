use Rattle.std.proofs.Common.{ap, Err}
use Rattle.rf_run.specs.Jobs.{file_command}
use Rattle.rf_run.proofs.Opened.{IsOpened, IsRest, IsUnopened, opened_answered, opened_complete, opened_ended, opened_fault, opened_missing, opened_right, unopened_answered, unopened_complete, unopened_ended, unopened_missing}
use Rattle.rf_run.proofs.files.over_files.Goals as goal

pub returns-in-Err-clause-ended : goal.returns-in-Err-clause-ended
returns-in-Err-clause-ended g c =
    let known : IsUnopened (g.F.Folder.state c.args.folder.now) (g.F.Folder.state c.open_problem.new.folder) (file_command c.args.job.now) c.problem_file.result.now c.in-Err.stop = record {
      named = c.problem_file.ensures;
      refused = c.in-Err.ensures.refused;
      fault = λ e. c.in-Err.ensures.fault (ap Err e);
      accepted = c.in-Err.ensures.accepted;
      refuses = c.in-Err.ensures.refuses;
    } in
    rw c.end.ensures (unopened_ended _ _ _ _ c.in-Err.stop known)

pub returns-in-Err-clause-missing : goal.returns-in-Err-clause-missing
returns-in-Err-clause-missing g c = λ misses.
    let known : IsUnopened (g.F.Folder.state c.args.folder.now) (g.F.Folder.state c.open_problem.new.folder) (file_command c.args.job.now) c.problem_file.result.now c.in-Err.stop = record {
      named = c.problem_file.ensures;
      refused = c.in-Err.ensures.refused;
      fault = λ e. c.in-Err.ensures.fault (ap Err e);
      accepted = c.in-Err.ensures.accepted;
      refuses = c.in-Err.ensures.refuses;
    } in
    rw c.end.ensures (unopened_missing _ _ _ _ c.in-Err.stop known misses)

pub returns-in-Err-clause-complete : goal.returns-in-Err-clause-complete
returns-in-Err-clause-complete g c = λ i end ends was.
    let known : IsUnopened (g.F.Folder.state c.args.folder.now) (g.F.Folder.state c.open_problem.new.folder) (file_command c.args.job.now) c.problem_file.result.now c.in-Err.stop = record {
      named = c.problem_file.ensures;
      refused = c.in-Err.ensures.refused;
      fault = λ e. c.in-Err.ensures.fault (ap Err e);
      accepted = c.in-Err.ensures.accepted;
      refuses = c.in-Err.ensures.refuses;
    } in
    rw c.end.ensures (unopened_complete _ _ _ _ c.in-Err.stop known i end ends was)

pub returns-in-Err-clause-answered : goal.returns-in-Err-clause-answered
returns-in-Err-clause-answered g c = λ can.
    let known : IsUnopened (g.F.Folder.state c.args.folder.now) (g.F.Folder.state c.open_problem.new.folder) (file_command c.args.job.now) c.problem_file.result.now c.in-Err.stop = record {
      named = c.problem_file.ensures;
      refused = c.in-Err.ensures.refused;
      fault = λ e. c.in-Err.ensures.fault (ap Err e);
      accepted = c.in-Err.ensures.accepted;
      refuses = c.in-Err.ensures.refuses;
    } in
    rw c.end.ensures (unopened_answered _ _ _ _ c.in-Err.stop known can)

pub returns-in-Ok-clause-ended : goal.returns-in-Ok-clause-ended
returns-in-Ok-clause-ended g c =
    let opened : IsOpened (g.F.Folder.state c.args.folder.now) (file_command c.args.job.now) c.problem_file.result.now c.in-Ok.problem = record {
      named = c.problem_file.ensures;
      ok = c.in-Ok.ensures.ok;
      accepted = c.in-Ok.ensures.accepted;
      refuses = c.in-Ok.ensures.refuses;
    } in
    let rest : IsRest (g.F.Folder.state c.open_problem.new.folder) (g.F.Folder.state c.after_problem.new.folder) (file_command c.args.job.now) c.in-Ok.problem c.after_problem.result = record {
      ended = c.after_problem.ensures.ended;
      right = c.after_problem.ensures.right;
      fault = c.after_problem.ensures.fault;
      missing = c.after_problem.ensures.missing;
      complete = c.after_problem.ensures.complete;
    } in
    opened_ended _ _ _ _ _ _ c.after_problem.result opened c.in-Ok.ensures.same rest

pub returns-in-Ok-clause-right : goal.returns-in-Ok-clause-right
returns-in-Ok-clause-right g c =
    let opened : IsOpened (g.F.Folder.state c.args.folder.now) (file_command c.args.job.now) c.problem_file.result.now c.in-Ok.problem = record {
      named = c.problem_file.ensures;
      ok = c.in-Ok.ensures.ok;
      accepted = c.in-Ok.ensures.accepted;
      refuses = c.in-Ok.ensures.refuses;
    } in
    let rest : IsRest (g.F.Folder.state c.open_problem.new.folder) (g.F.Folder.state c.after_problem.new.folder) (file_command c.args.job.now) c.in-Ok.problem c.after_problem.result = record {
      ended = c.after_problem.ensures.ended;
      right = c.after_problem.ensures.right;
      fault = c.after_problem.ensures.fault;
      missing = c.after_problem.ensures.missing;
      complete = c.after_problem.ensures.complete;
    } in
    opened_right _ _ _ _ _ _ c.after_problem.result opened c.in-Ok.ensures.same rest

pub returns-in-Ok-clause-fault : goal.returns-in-Ok-clause-fault
returns-in-Ok-clause-fault g c =
    let rest : IsRest (g.F.Folder.state c.open_problem.new.folder) (g.F.Folder.state c.after_problem.new.folder) (file_command c.args.job.now) c.in-Ok.problem c.after_problem.result = record {
      ended = c.after_problem.ensures.ended;
      right = c.after_problem.ensures.right;
      fault = c.after_problem.ensures.fault;
      missing = c.after_problem.ensures.missing;
      complete = c.after_problem.ensures.complete;
    } in
    opened_fault (g.F.Folder.state c.args.folder.now) (g.F.Folder.state c.open_problem.new.folder) (g.F.Folder.state c.after_problem.new.folder) _ _ c.after_problem.result c.in-Ok.ensures.later rest

pub returns-in-Ok-clause-missing : goal.returns-in-Ok-clause-missing
returns-in-Ok-clause-missing g c =
    let opened : IsOpened (g.F.Folder.state c.args.folder.now) (file_command c.args.job.now) c.problem_file.result.now c.in-Ok.problem = record {
      named = c.problem_file.ensures;
      ok = c.in-Ok.ensures.ok;
      accepted = c.in-Ok.ensures.accepted;
      refuses = c.in-Ok.ensures.refuses;
    } in
    let rest : IsRest (g.F.Folder.state c.open_problem.new.folder) (g.F.Folder.state c.after_problem.new.folder) (file_command c.args.job.now) c.in-Ok.problem c.after_problem.result = record {
      ended = c.after_problem.ensures.ended;
      right = c.after_problem.ensures.right;
      fault = c.after_problem.ensures.fault;
      missing = c.after_problem.ensures.missing;
      complete = c.after_problem.ensures.complete;
    } in
    opened_missing _ _ _ _ _ _ c.after_problem.result opened c.in-Ok.ensures.same rest

pub returns-in-Ok-clause-complete : goal.returns-in-Ok-clause-complete
returns-in-Ok-clause-complete g c =
    let opened : IsOpened (g.F.Folder.state c.args.folder.now) (file_command c.args.job.now) c.problem_file.result.now c.in-Ok.problem = record {
      named = c.problem_file.ensures;
      ok = c.in-Ok.ensures.ok;
      accepted = c.in-Ok.ensures.accepted;
      refuses = c.in-Ok.ensures.refuses;
    } in
    let rest : IsRest (g.F.Folder.state c.open_problem.new.folder) (g.F.Folder.state c.after_problem.new.folder) (file_command c.args.job.now) c.in-Ok.problem c.after_problem.result = record {
      ended = c.after_problem.ensures.ended;
      right = c.after_problem.ensures.right;
      fault = c.after_problem.ensures.fault;
      missing = c.after_problem.ensures.missing;
      complete = c.after_problem.ensures.complete;
    } in
    opened_complete _ _ _ _ _ _ c.after_problem.result opened c.in-Ok.ensures.same c.in-Ok.ensures.later rest

pub returns-in-Ok-clause-answered : goal.returns-in-Ok-clause-answered
returns-in-Ok-clause-answered g c =
    let opened : IsOpened (g.F.Folder.state c.args.folder.now) (file_command c.args.job.now) c.problem_file.result.now c.in-Ok.problem = record {
      named = c.problem_file.ensures;
      ok = c.in-Ok.ensures.ok;
      accepted = c.in-Ok.ensures.accepted;
      refuses = c.in-Ok.ensures.refuses;
    } in
    let rest : IsRest (g.F.Folder.state c.open_problem.new.folder) (g.F.Folder.state c.after_problem.new.folder) (file_command c.args.job.now) c.in-Ok.problem c.after_problem.result = record {
      ended = c.after_problem.ensures.ended;
      right = c.after_problem.ensures.right;
      fault = c.after_problem.ensures.fault;
      missing = c.after_problem.ensures.missing;
      complete = c.after_problem.ensures.complete;
    } in
    opened_answered _ _ _ _ _ _ c.after_problem.result opened c.in-Ok.ensures.same c.in-Ok.ensures.later rest
