use Rattle.std.proofs.Common.{arith, sym, ◌∙◌}
use Rattle.std.proofs.lemmas.Grind.{common_steps}
use Rattle.rf_closure.proofs.MarkingLemmas.{Marking-skip, Marking-mark, IsRowMore-below}
use Rattle.rf_closure.proofs.search.expand.Goals as goal
use Rattle.rf_closure.proofs.search.expand.Goals.{then-is_new_end+in_ok-push, else-is_new_end}

pub loop-b-preserved : goal.loop-b-preserved
loop-b-preserved g c = elim c.if-is_new_end.branch [
  | then-is_new_end+in_ok-push w ↦ record {
    len = grind (arith, common_steps);
    marks = rw (w.marks-is, w.stack-is, w.in_ok-push.ensures.items)
        (Marking-mark _ _ _ _ _ c.loop-b.marks.items c.loop-b.stack.items c.loop-b.b _ (IsRowMore-below (g.E.Edges.edge c.args.e.now c.args.c) c.loop-b.b) c.loop-b.invariant.marks (omega arith)
        (rw (← c.deref.ensures.value) (sym c.is_new_end.ensures ∙ w.if-is_new_end.true)));
  }
  | else-is_new_end w ↦ record {
    len = grind (arith, common_steps);
    marks = rw (w.marks-is, w.stack-is)
        (Marking-skip _ _ _ _ _ c.loop-b.marks.items c.loop-b.stack.items c.loop-b.b _ (IsRowMore-below (g.E.Edges.edge c.args.e.now c.args.c) c.loop-b.b) c.loop-b.invariant.marks
        (λ _. rw (← c.deref.ensures.value) (sym c.is_new_end.ensures ∙ w.if-is_new_end.false)));
  }
]
