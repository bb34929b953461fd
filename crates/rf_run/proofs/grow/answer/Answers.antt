use Rattle.std.proofs.Common.{subst}
use Rattle.rf_search.specs.Outcome.{IsOutcome}
use Rattle.rf_run.specs.declared.grow.TheConstants.{GROWTH_BUDGET}
use Rattle.rf_run.proofs.Grown.{all_answers, all_once, all_right}
use Rattle.rf_run.proofs.grow.answer.Goals as goal

pub returns-clause-answers : goal.returns-clause-answers
returns-clause-answers c =
    all_answers c.args.job.now.n c.in_ok-problem.problem c.in_ok-outcome.outcome c.in_ok-problem.ensures c.reply_to.result
    (subst (λ s. IsOutcome c.in_ok-problem.problem s GROWTH_BUDGET c.in_ok-outcome.outcome) c.from.ensures c.in_ok-outcome.ensures.outcome)
    c.reply_to.ensures.text c.reply_to.ensures.sign

pub returns-clause-same : goal.returns-clause-same
returns-clause-same c =
    all_once c.args.job.now.n c.in_ok-problem.problem c.in_ok-outcome.outcome c.in_ok-problem.ensures c.reply_to.result
    (subst (λ s. IsOutcome c.in_ok-problem.problem s GROWTH_BUDGET c.in_ok-outcome.outcome) c.from.ensures c.in_ok-outcome.ensures.outcome)
    c.reply_to.ensures.text c.reply_to.ensures.sign

pub returns-clause-right : goal.returns-clause-right
returns-clause-right c =
    all_right c.args.job.now.n c.in_ok-problem.problem c.in_ok-outcome.outcome c.in_ok-problem.ensures c.reply_to.result
    c.in_ok-outcome.ensures.right c.reply_to.ensures.text c.reply_to.ensures.sign
