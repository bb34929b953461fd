use Rattle.rf_failure.proofs.AnswersLemmas.{Answers-as_fault}
use Rattle.rf_problem.specs.declared.problem.Problem.{Problem}
use Rattle.rf_resolve.specs.Fault.{NameFault, Resolves}
use Rattle.rf_source.proofs.StageLemmas.{Answers-named, Answers-resolved}
use Rattle.rf_source.proofs.source.read_tree.Goals as goal

pub returns-in-Ok : goal.returns-in-Ok
returns-in-Ok c = Answers-resolved c.args.ast.now c.in-Ok.problem c.in-Ok.ensures.answers

pub returns-in-Err-Fault : goal.returns-in-Err-Fault
returns-in-Err-Fault c =
    let arm = c.in-Err-Fault in
    Answers-named c.args.ast.now arm.error
    (Answers-as_fault (λ (p : Problem). p) (Resolves c.args.ast.now) (NameFault c.args.ast.now) arm.field-0 arm.error arm.field-0-is
    arm.ensures.answers)
