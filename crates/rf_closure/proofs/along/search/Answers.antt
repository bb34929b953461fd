-- The loop starts with the start expanded, skips the start or expands the vertex on top of the stack,
-- and ends with an empty stack.
use Rattle.std.proofs.Common.{◌≡◌, ◌∙◌, sym, false, [], arith}
use Rattle.std.proofs.lemmas.List.{get_or-replicate, nil_from_length}
use Rattle.std.proofs.lemmas.List.Elements.{Contains-push}
use Rattle.rf_closure.proofs.PartialSearch.{IsPartialSearch-start, IsPartialSearch-skip, IsPartialSearch-expand, IsPartialSearch-done}
use Rattle.rf_closure.proofs.along.search.Goals as goal

pub loop-c-init : goal.loop-c-init
loop-c-init c = IsPartialSearch-start _ _ _ c.args.from c.in_ok-marks.marks.items _ _
    (λ k l. rw c.in_ok-marks.ensures (get_or-replicate _ k false false (omega arith))) (rw c.new-stack.ensures.items at c.in_ok-expand_along.ensures.marks)

pub expand_along-requires-then-is_passed-clause-from : goal.expand_along-requires-then-is_passed-clause-from
expand_along-requires-then-is_passed-clause-from c =
    (c.loop-c.invariant.waiting c.in-Some.c (rw c.in-Some.ensures.items (Contains-push c.pop.new.self.items c.in-Some.c))).0

pub loop-c-preserved-in-Continue-branch-3 : goal.loop-c-preserved-in-Continue-branch-3
loop-c-preserved-in-Continue-branch-3 c = IsPartialSearch-expand _ _ _ _ c.loop-c.marks.items c.pop.new.self.items c.in-Some.c _ _
    (rw c.in-Some.ensures.items at c.loop-c.invariant) (sym c.is_passed.ensures ∙ c.if-is_passed.true) c.in_ok-expand_along-2.ensures.marks

pub loop-c-preserved : goal.loop-c-preserved
loop-c-preserved c = IsPartialSearch-skip _ _ _ _ c.loop-c.marks.items c.pop.new.self.items c.in-Some.c
    (rw c.in-Some.ensures.items at c.loop-c.invariant) (sym c.is_passed.ensures ∙ c.if-is_passed.false)

pub returns-clause-value : goal.returns-clause-value
returns-clause-value c =
    let empty : c.loop-c.stack.items ≡ [] = nil_from_length c.loop-c.stack.items (omega (arith, c.in_default.ensures.cases.0)) in
    IsPartialSearch-done _ _ _ _ c.loop-c.marks.items (rw empty at c.loop-c.invariant)
