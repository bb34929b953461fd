use Rattle.std.proofs.Common.{◌<◌, ◌^◌, All, subst}
use Rattle.rf_tree.proofs.fields_of.of_forced.Goals as goal

pub returns-clause-fits : goal.returns-clause-fits
returns-clause-fits c = (
  c.ranges.q.fits,
  c.ranges.k.fits,
  c.ranges.j.fits,
  (subst (All (λ n. n < 2 ^ 64)) c.as_slice.ensures.items c.append.ensures.long, c.as_slice.ensures.short),
)
