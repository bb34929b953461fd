use Rattle.std.proofs.Common.{◌≡◌, ◌∙◌, ap, refl, sym, subst}
use Rattle.rf_words.specs.Meaning.{IsCommand}
use Rattle.rf_run.specs.Commands.{IsBuilt}
use Rattle.rf_run.specs.Ends.{IsUsage}
use Rattle.rf_run.specs.Jobs.{command_of, file_command}
use Rattle.rf_words.specs.declared.request.Command.TheVariants.{Grow}
use Rattle.rf_run.proofs.Grown.{growth_ended}
use Rattle.rf_run.proofs.Limits.{fits_limits}
use Rattle.rf_run.proofs.OneCommand.{IsOnly, only_answered, only_complete, only_ended, only_right, usage_ended}
use Rattle.rf_run.proofs.ends.end_of.Goals as goal

pub returns-in-Some-OverFile-clause-ended : goal.returns-in-Some-OverFile-clause-ended
returns-in-Some-OverFile-clause-ended g c =
    let job : command_of c.in-Some-OverFile.field-0 ≡ file_command c.in-Some-OverFile.job = ap command_of c.in-Some-OverFile.field-0-is in
    let only : IsOnly c.args.words.now (file_command c.in-Some-OverFile.job) = record {
      built = subst IsBuilt job c.in-Some-OverFile.ensures.built;
      is = subst (IsCommand c.args.words.now) (c.in-Some-OverFile.ensures.some ∙ job) c.in-Ok.ensures.ok;
      one = λ d is. sym (c.in-Some-OverFile.ensures.some ∙ job) ∙ c.in-Ok.ensures.found d is;
    } in
    only_ended c.args.words.now (g.F.Folder.state c.args.folder.now) _ c.over_files.result only c.over_files.ensures.ended

pub returns-in-Some-OverFile-clause-right : goal.returns-in-Some-OverFile-clause-right
returns-in-Some-OverFile-clause-right g c =
    let job : command_of c.in-Some-OverFile.field-0 ≡ file_command c.in-Some-OverFile.job = ap command_of c.in-Some-OverFile.field-0-is in
    let only : IsOnly c.args.words.now (file_command c.in-Some-OverFile.job) = record {
      built = subst IsBuilt job c.in-Some-OverFile.ensures.built;
      is = subst (IsCommand c.args.words.now) (c.in-Some-OverFile.ensures.some ∙ job) c.in-Ok.ensures.ok;
      one = λ d is. sym (c.in-Some-OverFile.ensures.some ∙ job) ∙ c.in-Ok.ensures.found d is;
    } in
    only_right c.args.words.now (g.F.Folder.state c.args.folder.now) _ c.over_files.result only c.over_files.ensures.right

pub returns-in-Some-OverFile-clause-complete : goal.returns-in-Some-OverFile-clause-complete
returns-in-Some-OverFile-clause-complete g c =
    let job : command_of c.in-Some-OverFile.field-0 ≡ file_command c.in-Some-OverFile.job = ap command_of c.in-Some-OverFile.field-0-is in
    let only : IsOnly c.args.words.now (file_command c.in-Some-OverFile.job) = record {
      built = subst IsBuilt job c.in-Some-OverFile.ensures.built;
      is = subst (IsCommand c.args.words.now) (c.in-Some-OverFile.ensures.some ∙ job) c.in-Ok.ensures.ok;
      one = λ d is. sym (c.in-Some-OverFile.ensures.some ∙ job) ∙ c.in-Ok.ensures.found d is;
    } in
    only_complete c.args.words.now (g.F.Folder.state c.args.folder.now) (g.F.Folder.state c.over_files.new.folder) _ c.over_files.result only
    c.over_files.ensures.complete

pub returns-in-Some-OverFile-clause-answered : goal.returns-in-Some-OverFile-clause-answered
returns-in-Some-OverFile-clause-answered g c =
    let job : command_of c.in-Some-OverFile.field-0 ≡ file_command c.in-Some-OverFile.job = ap command_of c.in-Some-OverFile.field-0-is in
    let only : IsOnly c.args.words.now (file_command c.in-Some-OverFile.job) = record {
      built = subst IsBuilt job c.in-Some-OverFile.ensures.built;
      is = subst (IsCommand c.args.words.now) (c.in-Some-OverFile.ensures.some ∙ job) c.in-Ok.ensures.ok;
      one = λ d is. sym (c.in-Some-OverFile.ensures.some ∙ job) ∙ c.in-Ok.ensures.found d is;
    } in
    only_answered c.args.words.now (g.F.Folder.state c.args.folder.now) (g.F.Folder.state c.over_files.new.folder) _ c.over_files.result only
    c.over_files.ensures.answered

pub returns-in-Some-Grow-clause-ended : goal.returns-in-Some-Grow-clause-ended
returns-in-Some-Grow-clause-ended g c =
    let job : command_of c.in-Some-Grow.field-0 ≡ Grow c.in-Some-Grow.job.n = ap command_of c.in-Some-Grow.field-0-is in
    let only : IsOnly c.args.words.now (Grow c.in-Some-Grow.job.n) = record {
      built = subst IsBuilt job c.in-Some-Grow.ensures.built;
      is = subst (IsCommand c.args.words.now) (c.in-Some-Grow.ensures.some ∙ job) c.in-Ok.ensures.ok;
      one = λ d is. sym (c.in-Some-Grow.ensures.some ∙ job) ∙ c.in-Ok.ensures.found d is;
    } in
    let folder = g.F.Folder.state c.args.folder.now in
    only_ended c.args.words.now folder _ c.over_number.result only (growth_ended folder c.in-Some-Grow.job.n c.over_number.result c.over_number.ensures.ended)

pub returns-in-Some-Grow-clause-right : goal.returns-in-Some-Grow-clause-right
returns-in-Some-Grow-clause-right g c =
    let job : command_of c.in-Some-Grow.field-0 ≡ Grow c.in-Some-Grow.job.n = ap command_of c.in-Some-Grow.field-0-is in
    let only : IsOnly c.args.words.now (Grow c.in-Some-Grow.job.n) = record {
      built = subst IsBuilt job c.in-Some-Grow.ensures.built;
      is = subst (IsCommand c.args.words.now) (c.in-Some-Grow.ensures.some ∙ job) c.in-Ok.ensures.ok;
      one = λ d is. sym (c.in-Some-Grow.ensures.some ∙ job) ∙ c.in-Ok.ensures.found d is;
    } in
    only_right c.args.words.now (g.F.Folder.state c.args.folder.now) _ c.over_number.result only
    (λ i p stored subject. c.over_number.ensures.right p i.second subject)

pub returns-in-Some-Grow-clause-complete : goal.returns-in-Some-Grow-clause-complete
returns-in-Some-Grow-clause-complete g c =
    let job : command_of c.in-Some-Grow.field-0 ≡ Grow c.in-Some-Grow.job.n = ap command_of c.in-Some-Grow.field-0-is in
    let only : IsOnly c.args.words.now (Grow c.in-Some-Grow.job.n) = record {
      built = subst IsBuilt job c.in-Some-Grow.ensures.built;
      is = subst (IsCommand c.args.words.now) (c.in-Some-Grow.ensures.some ∙ job) c.in-Ok.ensures.ok;
      one = λ d is. sym (c.in-Some-Grow.ensures.some ∙ job) ∙ c.in-Ok.ensures.found d is;
    } in
    only_complete c.args.words.now (g.F.Folder.state c.args.folder.now) (g.F.Folder.state c.args.folder.now) _ c.over_number.result only
    (λ i end ends was. c.over_number.ensures.complete i end ends)

pub returns-in-Some-Grow-clause-answered : goal.returns-in-Some-Grow-clause-answered
returns-in-Some-Grow-clause-answered g c =
    let job : command_of c.in-Some-Grow.field-0 ≡ Grow c.in-Some-Grow.job.n = ap command_of c.in-Some-Grow.field-0-is in
    let only : IsOnly c.args.words.now (Grow c.in-Some-Grow.job.n) = record {
      built = subst IsBuilt job c.in-Some-Grow.ensures.built;
      is = subst (IsCommand c.args.words.now) (c.in-Some-Grow.ensures.some ∙ job) c.in-Ok.ensures.ok;
      one = λ d is. sym (c.in-Some-Grow.ensures.some ∙ job) ∙ c.in-Ok.ensures.found d is;
    } in
    only_answered c.args.words.now (g.F.Folder.state c.args.folder.now) (g.F.Folder.state c.args.folder.now) _ c.over_number.result only
    (λ can. c.over_number.ensures.answered)

pub returns-in-None-clause-answered : goal.returns-in-None-clause-answered
returns-in-None-clause-answered g c = λ d built is can.
    absurd (c.in-None.ensures.none refl (subst IsBuilt (sym (c.in-Ok.ensures.found d is)) built))

pub returns-in-Err-Usage-clause-answered : goal.returns-in-Err-Usage-clause-answered
returns-in-Err-Usage-clause-answered g c = λ d built is can. absurd (c.in-Err-Usage.ensures.usage c.in-Err-Usage.field-0-is d is)

pub returns-in-None-clause-ended : goal.returns-in-None-clause-ended
returns-in-None-clause-ended g c =
    let never : IsUsage c.args.words.now = λ d built is.
    c.in-None.ensures.none refl (subst IsBuilt (sym (c.in-Ok.ensures.found d is)) built) in
    usage_ended c.args.words.now (g.F.Folder.state c.args.folder.now) never

pub returns-in-Err-Usage-clause-ended : goal.returns-in-Err-Usage-clause-ended
returns-in-Err-Usage-clause-ended g c =
    let never : IsUsage c.args.words.now = λ d built is. c.in-Err-Usage.ensures.usage c.in-Err-Usage.field-0-is d is in
    usage_ended c.args.words.now (g.F.Folder.state c.args.folder.now) never

pub job_of-requires : goal.job_of-requires
job_of-requires g c = fits_limits c.args.words.now c.in-Ok.command c.in-Ok.ensures.ok
