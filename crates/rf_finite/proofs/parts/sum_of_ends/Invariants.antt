use Rattle.std.proofs.Common.{◌≡◌, ◌*◌, ◌^◌, ◌≤◌, Some}
use Rattle.rf_finite.specs.Ends.{ends_below}
use Rattle.rf_finite.proofs.parts.sum_of_ends.Given as goal

abbrev pub invariant-loop-number : goal.invariant-loop-number
invariant-loop-number g l = record {
  so_far : ends_below l.number (g.P.Parts.counted l.ends) (g.P.Parts.part l.ends) ≡ Some l.total;
  small : l.total ≤ l.number * 2 ^ 64;
}
