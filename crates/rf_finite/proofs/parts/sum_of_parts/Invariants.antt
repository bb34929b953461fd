use Rattle.std.proofs.Common.{◌≡◌, ◌*◌, ◌^◌, ◌≤◌}
use Rattle.rf_finite.specs.Range.{sum_below}
use Rattle.rf_finite.proofs.parts.sum_of_parts.Given as goal

abbrev pub invariant-loop-number : goal.invariant-loop-number
invariant-loop-number g l = record {
  so_far : l.total ≡ sum_below l.number (g.P.Parts.counted l.parts) (g.P.Parts.part l.parts);
  small : l.total ≤ l.number * 2 ^ 64;
}
