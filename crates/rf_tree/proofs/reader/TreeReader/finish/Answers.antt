use Rattle.std.proofs.Common.{Err, ap, refl}
use Rattle.rf_tree.proofs.StopLemmas.{bad_line_number, bad_line_there, ended_reads, no_document}
use Rattle.rf_tree.proofs.reader.TreeReader.finish.Goals as goal

pub returns-in-AfterEnd : goal.returns-in-AfterEnd
returns-in-AfterEnd c = record {
  ok = λ bytes lines h _. ended_reads c.args.self.now.lines bytes lines h.follows c.in-AfterEnd.is;
  whole = λ bytes lines other h d. refl;
  err = λ bytes lines h. tt;
  bad = λ n bytes lines h bad. absurd (bad.none lines (ended_reads c.args.self.now.lines bytes lines h.follows c.in-AfterEnd.is));
}

pub returns-in_default : goal.returns-in_default
returns-in_default c = record {
  ok = λ bytes lines h yes. absurd cc;
  whole = λ bytes lines other h d. absurd (no_document c.args.self.now.lines bytes lines other h.follows c.in_default.not-AfterEnd d);
  err = λ bytes lines h. bad_line_there c.args.self.now.lines bytes lines h.follows c.in_default.not-AfterEnd;
  bad = λ n bytes lines h bad. ap Err (bad_line_number c.args.self.now.lines bytes lines n h.follows bad);
}
