use Rattle.std.proofs.Common.{refl, subst}
use Rattle.rf_tree.specs.Verdicts.{IsChecked}
use Rattle.rf_tree.proofs.PrefixLemmas.{refused-not_standing}
use Rattle.rf_check.proofs.RejectedLemmas.{rejected-missing}
use Rattle.rf_check.proofs.VerifierLemmas.{has_lines}
use Rattle.rf_check.proofs.verifier.TreeVerifier.finish.Goals as goal

pub returns-in-Err : goal.returns-in-Err
returns-in-Err c p bytes judged =
    rejected-missing p bytes judged.lines c.in-Err.line (has_lines c.args.self.now.reader bytes judged.lines judged.read) judged.stands
    (c.in-Err.ensures.err bytes judged.lines judged.read)

pub returns-in-Refuted : goal.returns-in-Refuted
returns-in-Refuted c p bytes judged =
    let is = subst (IsChecked p judged.lines) c.in-Refuted.is (c.in_ok-decisions.ensures.checked p judged.lines judged.checked) in
    record { lines = judged.lines; document = c.in_default.ensures.ok bytes judged.lines judged.read refl; valid = is.0; counted = is.1 }

pub returns-in-Unfinished : goal.returns-in-Unfinished
returns-in-Unfinished c p bytes judged =
    let is = subst (IsChecked p judged.lines) c.in-Unfinished.is (c.in_ok-decisions.ensures.checked p judged.lines judged.checked) in
    record { lines = judged.lines; document = c.in_default.ensures.ok bytes judged.lines judged.read refl; unfinished = is }

pub returns-in-Rejected : goal.returns-in-Rejected
returns-in-Rejected c p bytes judged =
    let is = subst (IsChecked p judged.lines) c.in-Rejected.is (c.in_ok-decisions.ensures.checked p judged.lines judged.checked) in
    absurd (refused-not_standing p judged.lines c.in-Rejected.number is judged.stands)
