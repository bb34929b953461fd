use Rattle.std.proofs.Common.{◌≡◌, ◌++◌, map, take}
use Rattle.rf_valuation.specs.Valuation.{lines_of}
use Rattle.rf_valuation.proofs.lines.push_values.Given as goal

abbrev pub invariant-loop-item : goal.invariant-loop-item
invariant-loop-item g l =
    l.out ≡ l.initial.out ++ lines_of (g.F.Facts.problem l.facts) (g.F.Facts.state l.facts) l.predicate (map (λ e. e.0) (take l.item-index l.values))
