use Rattle.std.proofs.Common.{arith}
use Rattle.rf_problem.proofs.make.predicates.are_predicates.Goals as goal

pub returns : goal.returns
returns c = (
  λ last. record {
    few = omega arith;
    named = c.are_named.ensures.0 c.if-not-are_named.false;
    arities = c.have_few_parameters.ensures.0 c.if-not-have_few_parameters.false;
    few_clauses = c.have_few_clauses.ensures.0 c.if-not-have_few_clauses.false;
    clauses = c.have_fitting_clauses.ensures.0 c.if-not-have_fitting_clauses.false;
    no_cycle = c.call_no_cycle.ensures.0 last;
  },
  λ fit. c.call_no_cycle.ensures.1 fit.no_cycle,
)
