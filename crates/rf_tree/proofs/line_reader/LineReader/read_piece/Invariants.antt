use Rattle.std.proofs.Common.{◌≤◌, ◌+◌, length}
use Rattle.rf_tree.specs.Private.Readers.{IsInPiece}
use Rattle.rf_tree.proofs.line_reader.LineReader.read_piece.Given as goal

abbrev pub invariant-loop-text : goal.invariant-loop-text
invariant-loop-text l = record {
  few : length l.lines.items + length l.rest ≤ length l.piece;
  count : l.self.number + length l.rest ≤ l.fn.self.number + length l.piece;
  read : IsInPiece l.fn.self l.self l.piece l.rest l.lines.items;
}

abbrev pub decreases-loop-text : goal.decreases-loop-text
decreases-loop-text l = length l.rest
