use Rattle.rf_prop_contain.proofs.AfterLemmas.{covers-after}
use Rattle.rf_prop_contain.proofs.touching.touch_rows.Goals as goal

pub returns : goal.returns
returns g c = λ s is covers.
    covers-after (g.F.Facts.problem c.args.view.now) s (g.F.Facts.state c.args.view.now) c.args.change is c.requires.fits c.requires.old
    c.args.pending.now
    (record {
      one_container = c.touch_held.new.marks;
      alone = c.touch_held-2.new.marks;
      must_contain = c.touch_soles.new.marks;
      contain_count = c.touch_soles-2.new.marks;
      no_container = c.touch_concerned.new.marks;
      acyclic = c.touch_walks.new.marks;
    })
    c.touch_from.new.marks covers c.touch_held.ensures c.touch_held-2.ensures c.touch_from.ensures c.touch_soles.ensures c.touch_soles-2.ensures
    c.touch_concerned.ensures c.touch_walks.ensures
