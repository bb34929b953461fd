use Rattle.std.proofs.Common.{[]}
use Rattle.rf_check.proofs.CheckingLemmas.{none-refused}
use Rattle.rf_check.proofs.RejectedLemmas.{none-met}
use Rattle.rf_check.proofs.verifier.TreeVerifier.new.Goals as goal

pub returns-clause-judged : goal.returns-clause-judged
returns-clause-judged c = record {
  lines = [];
  read = c.new-2.ensures.read;
  checked = c.in_ok-checker.ensures.checked;
  stands = none-refused c.args.problem.now c.in_ok-checker.checker c.in_ok-checker.ensures.checked;
  good = none-met;
}
