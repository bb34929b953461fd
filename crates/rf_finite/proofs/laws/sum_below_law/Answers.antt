use Rattle.rf_finite.proofs.Range.{sum_below-more, sum_below-pointwise}
use Rattle.rf_finite.proofs.Sums.{sum_below-others, sum_below-split}
use Rattle.rf_finite.proofs.laws.sum_below_law.Goals as goal

pub returns : goal.returns
returns _ = record { others = sum_below-others; split = sum_below-split; monotone = sum_below-more; pointwise = sum_below-pointwise }
