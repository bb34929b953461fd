use Rattle.std.proofs.Common.{◌≡◌, ℕ, ◌<◌, None}
use Rattle.rf_pending.specs.Rows.{Covers}
use Rattle.rf_pending.proofs.rows.least.Given as goal

abbrev pub invariant-loop-k : goal.invariant-loop-k
invariant-loop-k g l = record {
  covers : Covers (g.R.Rows.many l.rows) (g.R.Rows.found l.rows) l.marks;
  before : (j : ℕ) → j < l.k → j < g.R.Rows.many l.rows → g.R.Rows.found l.rows j ≡ None;
  start : l.marks.start ≡ l.initial.marks.start;
}
