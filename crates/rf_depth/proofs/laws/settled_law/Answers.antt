use Rattle.rf_depth.proofs.Bounds.{below_saturated, low_within, lows_within}
use Rattle.rf_depth.proofs.Steps.{effect_grows, effect_kept, effect_keeps, one_tight, root_kept, side_kept, side_more, side_tight, tight_one}
use Rattle.rf_depth.proofs.Ways.{left_falls}
use Rattle.rf_depth.proofs.laws.settled_law.Goals as goal

pub returns-clause-lows : goal.returns-clause-lows
returns-clause-lows c = λ p s n e saturated. lows_within p s saturated n e

pub returns-clause-tight : goal.returns-clause-tight
returns-clause-tight c = λ p s o kept l. (
  λ e h. (effect_grows s e).tight o l h,
  λ d first a h. side_tight p s kept d first o l a h,
  λ saturated. (λ h. tight_one s o (low_within p s saturated o l) h, λ h. one_tight s o h),
)

pub returns-clause-rises : goal.returns-clause-rises
returns-clause-rises c = λ p. (
  root_kept p,
  λ s e kept. (effect_kept p s kept e, effect_keeps p s kept e),
  λ s d first kept a. (side_kept p s kept d first a, side_more p s kept d first a),
  λ s d n e kept saturated a. below_saturated p s d n e kept saturated a,
)

pub returns-clause-left : goal.returns-clause-left
returns-clause-left c = left_falls
