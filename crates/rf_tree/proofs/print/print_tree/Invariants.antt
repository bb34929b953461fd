use Rattle.std.proofs.Common.{◌≡◌, ◌++◌, All, codes, map, take}
use Rattle.rf_text.specs.Line.{joined_lines}
use Rattle.rf_tree.specs.Document.{line_text}
use Rattle.rf_tree.specs.Private.Fields.{FitsLine}
use Rattle.rf_tree.proofs.print.print_tree.Given as goal

abbrev pub invariant-loop-line : goal.invariant-loop-line
invariant-loop-line l = record {
  text : l.text ≡ codes "tree 2\n" ++ joined_lines (map line_text (take l.line-index l.lines));
  fits : All FitsLine (take l.line-index l.lines);
}
