use Rattle.std.proofs.Common.{◌*◌, ◌^◌, ◌≤◌}
use Rattle.rf_finite.specs.Totals.{IsTotal}
use Rattle.rf_finite.proofs.totals.total_of_ends.Given as goal

abbrev pub invariant-loop-number : goal.invariant-loop-number
invariant-loop-number g l = record {
  total : IsTotal l.number (g.P.Parts.counted l.ends) (g.P.Parts.part l.ends) l.total;
  small : l.total.finite ≤ l.number * 2 ^ 64;
  few : l.total.unbounded ≤ l.number;
}
