use Rattle.rf_run.proofs.Generated.{generation_decides, generation_right, outcome_fits}
use Rattle.rf_run.proofs.generate.GenerateJobJob.answer.Goals as goal

pub reply_to-requires : goal.reply_to-requires
reply_to-requires c = outcome_fits c.args.problem.now c.args.self.now.budget c.in-Ok.outcome c.in-Ok.ensures.right

pub returns-in-Ok-reply_to-clause-decides : goal.returns-in-Ok-reply_to-clause-decides
returns-in-Ok-reply_to-clause-decides c =
    generation_decides c.args.self.now.file c.args.problem.now c.args.second.now c.args.self.now.seed c.args.self.now.budget c.in-Ok.outcome _
    c.in-Ok.ensures.outcome c.in-Ok-reply_to.ensures.text c.in-Ok-reply_to.ensures.sign

pub returns-in-Ok-reply_to-clause-right : goal.returns-in-Ok-reply_to-clause-right
returns-in-Ok-reply_to-clause-right c =
    generation_right c.args.problem.now c.args.self.now.budget c.in-Ok.outcome _ c.in-Ok.ensures.right c.in-Ok.ensures.shallow
    c.in-Ok.ensures.enough c.in-Ok-reply_to.ensures.document c.in-Ok-reply_to.ensures.sign
