use Rattle.std.proofs.Common.{true}
use Rattle.rf_finite.specs.Range.{count_below}
use Rattle.rf_finite.specs.Walks.{walk_below}
use Rattle.rf_finite.proofs.Walks.{count_below-reachable_falls, no_cycle-from_rank}
use Rattle.rf_finite.proofs.laws.no_cycle_law.Goals as goal

pub returns : goal.returns
returns _ = λ edge n. (
  λ no_cycle. (λ x. count_below n (walk_below edge (λ _. true) n x), count_below-reachable_falls edge n no_cycle),
  λ ranked. no_cycle-from_rank edge n ranked.0 ranked.1,
)
