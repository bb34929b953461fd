use Rattle.std.proofs.Common.{arith}
use Rattle.rf_problem.proofs.make.references.are_references.Goals as goal

pub returns-then-have_small_ranges : goal.returns-then-have_small_ranges
returns-then-have_small_ranges c = (
  λ last. record {
    few = omega arith;
    named = c.are_named.ensures.0 c.if-not-are_named.false;
    apart = c.are_apart.ensures.0 c.if-not-are_apart.false;
    sources = c.have_sources.ensures.0 c.if-not-have_sources.false;
    targets = c.have_targets.ensures.0 c.if-not-have_targets.false;
    ranges = c.have_small_ranges.ensures.0 c.if-have_small_ranges.true;
    mirrored = c.have_mirrors.ensures.0 last;
  },
  λ fit. c.have_mirrors.ensures.1 fit.mirrored,
)
