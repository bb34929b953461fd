use Rattle.std.proofs.Common.{drop}
use Rattle.rf_problem.proofs.StockLemmas.{AreStock}
use Rattle.rf_problem.proofs.make.objects.are_stock.Given as goal

abbrev pub invariant-loop-number : goal.invariant-loop-number
invariant-loop-number l = record {
  there : AreStock 0 l.classes l.objects → AreStock l.number (drop l.number l.classes) l.rest;
  back : AreStock l.number (drop l.number l.classes) l.rest → AreStock 0 l.classes l.objects;
}
