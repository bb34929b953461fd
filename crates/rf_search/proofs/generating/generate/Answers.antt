use Rattle.std.proofs.lemmas.Result.{IfOk-weaker}
use Rattle.rf_depth.specs.Outcomes.{IsFinished, IsShallow}
use Rattle.rf_search.proofs.DepthLemmas.{finished-of_lent, shallow-of_lent}
use Rattle.rf_search.proofs.generating.generate.Goals as goal

pub returns-clause-shallow : goal.returns-clause-shallow
returns-clause-shallow c =
    IfOk-weaker c.search.result _ (IsShallow c.args.problem.now)
    (λ outcome h. shallow-of_lent c.args.problem.now _ c.args.seed c.args.budget _ outcome _ _ c.in_ok-state.ensures.problem c.in_ok-state.ensures.root h)
    c.search.ensures.ends

pub returns-clause-enough : goal.returns-clause-enough
returns-clause-enough c = λ enough.
    IfOk-weaker c.search.result _ IsFinished
    (λ outcome h. finished-of_lent c.args.problem.now _ c.args.seed c.args.budget _ outcome _ _ c.in_ok-state.ensures.problem c.in_ok-state.ensures.root enough h)
    c.search.ensures.ends
