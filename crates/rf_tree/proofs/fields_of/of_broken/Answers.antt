use Rattle.std.proofs.Common.{◌<◌, ◌^◌, All, subst}
use Rattle.rf_tree.proofs.fields_of.of_broken.Goals as goal

pub returns-clause-fits : goal.returns-clause-fits
returns-clause-fits c =
    (c.ranges.q.fits, (subst (All (λ n. n < 2 ^ 64)) c.as_slice.ensures.items c.append.ensures.long, c.as_slice.ensures.short))
