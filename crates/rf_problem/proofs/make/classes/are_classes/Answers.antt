use Rattle.std.proofs.Common.{arith}
use Rattle.rf_problem.proofs.make.classes.are_classes.Goals as goal

pub returns-then-extend_classes : goal.returns-then-extend_classes
returns-then-extend_classes c = (
  λ last. record {
    few = omega arith;
    named = c.are_named.ensures.0 c.if-not-are_named.false;
    apart = c.are_apart.ensures.0 c.if-not-are_apart.false;
    supers = c.extend_classes.ensures.0 c.if-extend_classes.true;
    enums = c.are_enums.ensures.0 c.if-not-are_enums.false;
    extendable = c.extend_no_enum.ensures.0 c.if-not-extend_no_enum.false;
    no_cycle = c.extend_no_cycle.ensures.0 last;
  },
  λ fit. c.extend_no_cycle.ensures.1 fit.no_cycle,
)
