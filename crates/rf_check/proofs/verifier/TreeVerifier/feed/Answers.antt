use Rattle.std.proofs.Common.{◌++◌, Err, Ok, ap, sym, subst}
use Rattle.rf_check.specs.Checking.{HasChecked}
use Rattle.rf_check.specs.Documents.{IsRefusedAt}
use Rattle.rf_check.proofs.CheckingLemmas.{none_of}
use Rattle.rf_check.proofs.VerifierLemmas.{has_lines, meets-bad, meets-line, read-same}
use Rattle.rf_check.proofs.verifier.TreeVerifier.feed.Goals as goal

pub returns-in-Err-BadLine-clause-rejected : goal.returns-in-Err-BadLine-clause-rejected
returns-in-Err-BadLine-clause-rejected c line e p bytes judged =
    absurd (judged.good c.in-Err-BadLine.line (c.in-Err-BadLine.ensures.bad c.in-Err-BadLine.line bytes judged.lines judged.read (ap Err c.in-Err-BadLine.field-0-is)))

pub returns-then-is_some-clause-rejected : goal.returns-then-is_some-clause-rejected
returns-then-is_some-clause-rejected c line e p bytes judged =
    meets-line p (bytes ++ c.args.piece.now) (judged.lines ++ c.in-Ok.lines.items) line
    (has_lines c.feed.new.self (bytes ++ c.args.piece.now) (judged.lines ++ c.in-Ok.lines.items) (c.in-Ok.ensures.read bytes judged.lines judged.read))
    (subst (λ more. IsRefusedAt p (judged.lines ++ more) line) c.as_slice.ensures.value (c.in_ok-refused.ensures.refused line e p judged.lines judged.checked))

pub returns-clause-going : goal.returns-clause-going
returns-clause-going c e p bytes judged =
    let there = read-same c.feed.new.self c.check.new.self.reader (bytes ++ c.args.piece.now) judged.lines c.in-Ok.lines.items c.as_slice.result.now
    c.in_ok-refused.ensures.reader c.as_slice.ensures.value (c.in-Ok.ensures.read bytes judged.lines judged.read) in
    record {
      lines = judged.lines ++ c.as_slice.result.now;
      read = c.bad_line.ensures.read e (bytes ++ c.args.piece.now) (judged.lines ++ c.as_slice.result.now) there;
      checked = subst (λ checker. HasChecked p checker (judged.lines ++ c.as_slice.result.now)) (sym c.bad_line.ensures.checker)
          (c.in_ok-refused.ensures.checked p judged.lines judged.checked);
      stands = c.in_ok-refused.ensures.stand (ap Ok (none_of c.in_ok-refused.refused (sym c.if-is_some.ensures))) p judged.lines judged.checked;
      good = c.bad_line.ensures.good e (bytes ++ c.args.piece.now) (judged.lines ++ c.as_slice.result.now) there;
    }

pub returns-clause-rejected : goal.returns-clause-rejected
returns-clause-rejected c line e p bytes judged =
    let there = read-same c.feed.new.self c.check.new.self.reader (bytes ++ c.args.piece.now) judged.lines c.in-Ok.lines.items c.as_slice.result.now
    c.in_ok-refused.ensures.reader c.as_slice.ensures.value (c.in-Ok.ensures.read bytes judged.lines judged.read) in
    meets-bad p (bytes ++ c.args.piece.now) (judged.lines ++ c.as_slice.result.now) line
    (has_lines c.check.new.self.reader (bytes ++ c.args.piece.now) (judged.lines ++ c.as_slice.result.now) there)
    (c.in_ok-refused.ensures.stand (ap Ok (none_of c.in_ok-refused.refused (sym c.if-is_some.ensures))) p judged.lines judged.checked)
    (c.bad_line.ensures.bad line e (bytes ++ c.args.piece.now) (judged.lines ++ c.as_slice.result.now) there)
