use Rattle.rf_prop_type.proofs.AfterLemmas.{covers-after}
use Rattle.rf_prop_type.proofs.touching.touch_rows.Goals as goal

pub returns : goal.returns
returns g c = λ s is covers.
    covers-after (g.F.Facts.problem c.args.view.now) s (g.F.Facts.state c.args.view.now) c.args.change is c.requires.fits c.requires.old
    c.args.pending.now
    (record { empty = c.touch_objects.new.marks; no_class = c.touch_objects-2.new.marks; src = c.touch_edges.new.marks; tgt = c.touch_edges-2.new.marks; clash = c.touch_edges-3.new.marks })
    covers c.touch_objects.ensures c.touch_objects-2.ensures c.touch_edges.ensures c.touch_edges-2.ensures c.touch_edges-3.ensures
