use Rattle.rf_finite.proofs.Ends.{ends_below-pointwise, ends_below-unbounded}
use Rattle.rf_finite.proofs.Sums.{ends_below-more, ends_below-numbers, ends_below-others, ends_below-split, unbounded-from_ends_below, within-sum_below}
use Rattle.rf_finite.proofs.laws.ends_below_law.Goals as goal

pub returns : goal.returns
returns _ = record {
  unbounded = λ n p f. (unbounded-from_ends_below n p f, λ one. ends_below-unbounded n p f one.0 one.1 one.2 one.3);
  numbers = ends_below-numbers;
  others = ends_below-others;
  split = ends_below-split;
  monotone = ends_below-more;
  pointwise = ends_below-pointwise;
  within = within-sum_below;
}
