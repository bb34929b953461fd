use Rattle.std.proofs.Common.{suc, arith}
use Rattle.rf_problem.proofs.Depth.{predicate_true-same_depths, predicate_true-of_all}
use Rattle.rf_problem.proofs.laws.depth_law.Goals as goal

pub returns-clause-past_rank : goal.returns-clause-past_rank
returns-clause-past_rank _ = λ p rank falls depth here inside q t l.
    predicate_true-same_depths p.predicates rank falls depth (suc (rank q)) here inside q t l (omega arith)

pub returns-clause-of_all : goal.returns-clause-of_all
returns-clause-of_all _ = λ p depth here inside q t l.
    predicate_true-of_all p.classes p.references p.objects p.predicates p.predicates_fit depth here inside q t l
