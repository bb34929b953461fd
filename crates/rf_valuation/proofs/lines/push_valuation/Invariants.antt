use Rattle.std.proofs.Common.{◌≡◌}
use Rattle.rf_valuation.proofs.LineLemmas.{HasLinesBelow}
use Rattle.rf_valuation.proofs.lines.push_valuation.Given as goal

abbrev pub invariant-loop-predicate : goal.invariant-loop-predicate
invariant-loop-predicate g l = record {
  facts : l.evaluator.facts.now ≡ l.facts;
  lines : HasLinesBelow (g.F.Facts.problem l.facts) (g.F.Facts.state l.facts) l.predicate l.initial.out l.out;
}
