use Rattle.rf_run.proofs.Grown.{growth_complete}
use Rattle.rf_run.proofs.grow.over_number.Goals as goal

pub returns-in-Ok-clause-right : goal.returns-in-Ok-clause-right
returns-in-Ok-clause-right c = λ p second grown. c.in-Ok.ensures.right p grown

pub returns-in-Ok-clause-complete : goal.returns-in-Ok-clause-complete
returns-in-Ok-clause-complete c = λ i end ends. growth_complete c.args.job.now.n i end c.in-Ok.reply ends c.in-Ok.ensures.same
