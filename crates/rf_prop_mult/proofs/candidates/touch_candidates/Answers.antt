use Rattle.rf_prop_mult.proofs.AfterLemmas.{covers-after_candidates}
use Rattle.rf_prop_mult.proofs.candidates.touch_candidates.Goals as goal

pub returns : goal.returns
returns g c = λ s is covers.
    covers-after_candidates (g.F.Facts.problem c.args.view.now) s (g.F.Facts.state c.args.view.now) c.args.o is c.requires
    c.args.pending.now
    (record {
      full = c.touch_marks.new.marks;
      room = c.touch_marks-2.new.marks;
      need = c.touch_marks-3.new.marks;
      need_count = c.touch_marks-4.new.marks;
      type_low = c.touch_marks-5.new.marks;
    })
    covers
    c.touch_marks.ensures c.touch_marks-2.ensures c.touch_marks-3.ensures c.touch_marks-4.ensures c.touch_marks-5.ensures
