use Rattle.std.proofs.Common.{◌++◌}
use Rattle.rf_check.proofs.CheckingLemmas.{stands-exactly}
use Rattle.rf_check.proofs.checker.Checker.feed.Goals as goal

pub returns-clause-stands : goal.returns-clause-stands
returns-clause-stands c p before checked =
    stands-exactly p c.go_over.new.self (before ++ c.args.lines.now) c.is_none.result c.is_none.ensures (c.in_default.ensures.checked p before checked)
