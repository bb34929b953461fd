use Rattle.rf_prop_mult.proofs.AfterLemmas.{covers-after}
use Rattle.rf_prop_mult.proofs.touching.touch_rows.Goals as goal

pub returns : goal.returns
returns g c = λ s is covers.
    covers-after (g.F.Facts.problem c.args.view.now) s (g.F.Facts.state c.args.view.now) c.args.change is c.requires.fits
    c.requires.old c.args.pending.now
    (record {
      full = c.touch_edges.new.marks;
      room = c.touch_edges-2.new.marks;
      need = c.touch_edges-3.new.marks;
      need_count = c.touch_edges-4.new.marks;
      type_low = c.touch_edges-5.new.marks;
    })
    covers
    c.touch_edges.ensures c.touch_edges-2.ensures c.touch_edges-3.ensures c.touch_edges-4.ensures c.touch_edges-5.ensures
