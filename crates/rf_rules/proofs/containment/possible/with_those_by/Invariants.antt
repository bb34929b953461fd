use Rattle.std.proofs.Common.{◌≡◌, ◌<◌, ℕ, true}
use Rattle.rf_evaluate.specs.Elements.{element_at}
use Rattle.rf_rules.specs.Containers.{AreContainers, Covers, covers}
use Rattle.rf_rules.specs.Containment.{is_possible}
use Rattle.rf_rules.proofs.containment.possible.with_those_by.Given as goal

abbrev pub invariant-loop-number : goal.invariant-loop-number
invariant-loop-number g l = record {
  possible : AreContainers (g.F.Facts.problem l.view) (g.F.Facts.state l.view) l.b l.found;
  kept : Covers l.fn.found l.found;
  all : (i : ℕ) → i < l.number → is_possible (g.F.Facts.problem l.view) (g.F.Facts.state l.view) l.b l.q (element_at l.ends i) ≡ true
      → covers l.found l.q (element_at l.ends i) ≡ true;
}
