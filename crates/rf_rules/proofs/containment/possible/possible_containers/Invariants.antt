use Rattle.std.proofs.Common.{◌≡◌, ◌<◌, ℕ, true, length}
use Rattle.rf_rules.specs.Containers.{AreContainers, covers}
use Rattle.rf_rules.specs.Containment.{is_possible}
use Rattle.rf_rules.proofs.containment.possible.possible_containers.Given as goal

abbrev pub invariant-loop-reference : goal.invariant-loop-reference
invariant-loop-reference g l = record {
  possible : AreContainers (g.F.Facts.problem l.view) (g.F.Facts.state l.view) l.b l.found;
  all : (q c : ℕ) → q < l.reference → c < length (g.F.Facts.state l.view).objects
      → is_possible (g.F.Facts.problem l.view) (g.F.Facts.state l.view) l.b q c ≡ true → covers l.found q c ≡ true;
}
