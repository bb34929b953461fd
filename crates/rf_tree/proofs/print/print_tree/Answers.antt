use Rattle.rf_tree.proofs.PrintLemmas.{fits_more, printed_document, printed_more, printed_whole}
use Rattle.rf_tree.proofs.print.print_tree.Goals as goal

pub loop-line-preserved : goal.loop-line-preserved
loop-line-preserved c = record {
  text = printed_more c.args.lines.now c.loop-line.line-index c.line-item.result c.loop-line.text _ c.loop-line-test.true c.line-item.is
      c.loop-line.invariant.text c.in_ok-push_line.ensures.text;
  fits = fits_more c.args.lines.now c.loop-line.line-index c.line-item.result c.loop-line-test.true c.line-item.is c.loop-line.invariant.fits
      c.push_line.ensures.fits;
}

pub returns-clause-text : goal.returns-clause-text
returns-clause-text c =
    printed_whole c.args.lines.now c.loop-line.line-index c.loop-line.text _ c.loop-line-test.false c.loop-line.invariant.text c.in_ok-push_str.ensures.ok

pub returns-clause-document : goal.returns-clause-document
returns-clause-document c =
    printed_document c.args.lines.now c.loop-line.line-index _ c.loop-line-test.false c.requires c.loop-line.invariant.fits (returns-clause-text c)
