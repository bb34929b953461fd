use Rattle.std.proofs.Common.{◌≡◌, ◌+◌, ◌++◌, List, take}
use Rattle.rf_problem.specs.declared.problem.Problem.{Problem as ProblemValue}
use Rattle.rf_tree.specs.declared.line.Line.{Line as LineValue}
use Rattle.rf_check.specs.Checking.{HasChecked}
use Rattle.rf_check.proofs.checker.Checker.go_over.Given as goal

abbrev pub invariant-loop-line : goal.invariant-loop-line
invariant-loop-line l = record {
  fed : l.self.fed ≡ l.initial.self.fed + l.line-index;
  checked : (p : ProblemValue) (before : List LineValue) → HasChecked p l.initial.self before → HasChecked p l.self (before ++ take l.line-index l.lines);
}
