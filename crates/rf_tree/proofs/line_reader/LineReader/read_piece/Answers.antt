use Rattle.std.proofs.Common.{ap, arith, length, length-append, subst, sym}
use Rattle.std.specs.Prelude.{option_to_list}
use Rattle.rf_tree.specs.Private.Readers.{IsInPiece}
use Rattle.rf_tree.proofs.ReaderLemmas.{few-in_option, piece_more, shorter}
use Rattle.rf_tree.proofs.line_reader.LineReader.read_piece.Goals as goal

pub loop-text-preserved : goal.loop-text-preserved
loop-text-preserved c = record {
  few = omega (
    arith,
    shorter c.loop-text.rest.now c.in-Some.text.now c.in-Some.after.now c.in-Some.ensures.found,
    ap length c.in_ok-push_line.ensures,
    length-append c.loop-text.lines.items (option_to_list c.end_line-line.result),
    few-in_option c.end_line-line.result,
  );
  count = omega (arith, shorter c.loop-text.rest.now c.in-Some.text.now c.in-Some.after.now c.in-Some.ensures.found);
  read = subst (IsInPiece c.args.self.now _ c.args.piece.now c.in-Some.after.now) (sym c.in_ok-push_line.ensures)
      (piece_more c.args.self.now c.loop-text.self c.end_line-line.new.self c.args.piece.now c.loop-text.rest.now c.in-Some.text.now c.in-Some.after.now _ _
      c.loop-text.invariant.read c.in-Some.ensures.found c.end_line-line.ensures.read);
}
