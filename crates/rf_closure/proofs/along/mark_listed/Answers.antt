-- The next number of the list is a vertex that is not marked, and is marked and put on the stack, or
-- is passed over.
use Rattle.std.proofs.Common.{◌≡◌, ◌<◌, ◌&&◌, true, false, ltb, not, length, get_or, sym, ◌∙◌, refl, arith}
use Rattle.std.proofs.lemmas.Bool.{lt-ltb, ltb-true, and_parts, and_from, and_left}
use Rattle.std.proofs.lemmas.Grind.{common_steps}
use Rattle.std.proofs.lemmas.List.{take_all}
use Rattle.rf_closure.proofs.MarkingLemmas.{Marking-skip, Marking-mark, IsRowMore-listed}
use Rattle.rf_closure.proofs.along.mark_listed.Goals as goal
use Rattle.rf_closure.proofs.along.mark_listed.Goals.{then-is_unmarked+in_ok-push, else-is_unmarked}

pub loop-b-preserved : goal.loop-b-preserved
loop-b-preserved c =
    let vertex = get_or c.args.vertices.now c.loop-b.b-index 0 in
    let marks = c.loop-b.marks.items in
    elim c.if-is_unmarked.branch [
      | then-is_unmarked+in_ok-push w ↦ record {
        len = grind (arith, common_steps);
        marks =
            let unmarked : (ltb vertex (length marks) && not (get_or marks vertex false)) ≡ true =
            rw (← c.deref.ensures.value) (sym c.is_unmarked.ensures ∙ w.if-is_unmarked.true) in
            let parts = and_parts (ltb vertex (length marks)) (not (get_or marks vertex false)) unmarked in
            let in_marks : vertex < length marks = ltb-true vertex (length marks) parts.0 in
            rw (w.marks-is, w.stack-is, w.in_ok-push.ensures.items)
            (Marking-mark _ _ _ _ _ marks c.loop-b.stack.items vertex true (IsRowMore-listed c.args.vertices.now c.loop-b.b-index c.loop-b-test.true) c.loop-b.invariant.marks
            (omega arith) (and_from (not (get_or marks vertex false)) true parts.1 refl));
      }
      | else-is_unmarked w ↦ record {
        len = grind (arith, common_steps);
        marks =
            let passed : (ltb vertex (length marks) && not (get_or marks vertex false)) ≡ false =
            rw (← c.deref.ensures.value) (sym c.is_unmarked.ensures ∙ w.if-is_unmarked.false) in
            rw (w.marks-is, w.stack-is)
            (Marking-skip _ _ _ _ _ marks c.loop-b.stack.items vertex true (IsRowMore-listed c.args.vertices.now c.loop-b.b-index c.loop-b-test.true) c.loop-b.invariant.marks
            (λ l. let in_marks : ltb vertex (length marks) ≡ true = lt-ltb vertex (length marks) (omega arith) in
            and_left (not (get_or marks vertex false)) true (rw in_marks at passed)));
      }
    ]

pub returns-clause-marks : goal.returns-clause-marks
returns-clause-marks c = rw (take_all c.loop-b.b-index c.args.vertices.now c.loop-b-test.false) at c.loop-b.invariant.marks
