use Rattle.std.proofs.Common.{sym, ◌∙◌}
use Rattle.rf_graph.proofs.FirstOfAll.{IsVerdict-from_first_violation, IsVerdict-unique}
use Rattle.rf_graph.specs.declared.verdict.Verdict.TheVariants.{Satisfied, Violated}
use Rattle.rf_satisfy.proofs.judging.judge.Goals as goal

pub returns-in-Some-clause-verdict : goal.returns-in-Some-clause-verdict
returns-in-Some-clause-verdict c =
    IsVerdict-from_first_violation c.args.problem.now c.args.graph.now c.requires (Violated c.in-Some.violation) (sym c.in_ok-violation.ensures ∙ c.in-Some.is)

pub returns-in-Some-clause-satisfied : goal.returns-in-Some-clause-satisfied
returns-in-Some-clause-satisfied c =
    IsVerdict-unique c.args.problem.now c.args.graph.now c.requires (Violated c.in-Some.violation) Satisfied (returns-in-Some-clause-verdict c)

pub returns-in-Some-clause-violated : goal.returns-in-Some-clause-violated
returns-in-Some-clause-violated c =
    λ v. IsVerdict-unique c.args.problem.now c.args.graph.now c.requires (Violated c.in-Some.violation) (Violated v) (returns-in-Some-clause-verdict c)

pub returns-in-None-clause-verdict : goal.returns-in-None-clause-verdict
returns-in-None-clause-verdict c =
    IsVerdict-from_first_violation c.args.problem.now c.args.graph.now c.requires Satisfied (sym c.in_ok-violation.ensures ∙ c.in-None.is)

pub returns-in-None-clause-violated : goal.returns-in-None-clause-violated
returns-in-None-clause-violated c =
    λ v. IsVerdict-unique c.args.problem.now c.args.graph.now c.requires Satisfied (Violated v) (returns-in-None-clause-verdict c)
