use Rattle.std.proofs.Common.{get_or}
use Rattle.rf_names.proofs.ranks.has_ranks.Goals as goal

pub returns : goal.returns
returns c = λ yes. (λ p. get_or c.in_ok-ranks.ranks.items p 0, (rw c.as_slice.ensures.value at c.falls.ensures) yes)
