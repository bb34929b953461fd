use Rattle.std.proofs.Common.{inl, inr}
use Rattle.std.specs.Map.Iter.{deref_pair}
use Rattle.std.proofs.lemmas.Map.Iter.{rest_all, rest_more}
use Rattle.rf_state.proofs.CopyLemmas.{AreCopies-all, IsCopying-more, IsCopying-skip}
use Rattle.rf_state.proofs.copies.copies.Goals as goal
use Rattle.rf_state.proofs.copies.copies.Goals.{else-a-fresh-via-then-a-fresh+else-b-fresh, else-a-fresh-via-else-a-fresh}

pub loop-key-preserved-then-b-fresh : goal.loop-key-preserved-then-b-fresh
loop-key-preserved-then-b-fresh c =
    IsCopying-more c.args.added.now c.loop-key.copies c.put.new.copies c.args.fresh.of c.args.fresh.number c.loop-key.key-iterator c.next.new.self
    (c.in-Some.key.now, c.in-Some.truth.now) (rest_more deref_pair c.loop-key.key-iterator c.next.new.self c.next.result (c.in-Some.key, c.in-Some.truth) c.in-Some.is c.next.ensures.steps)
    c.iter-key-items.ensures.found c.in_ok-put.ensures c.loop-key.invariant

pub loop-key-preserved : goal.loop-key-preserved
loop-key-preserved c =
    IsCopying-skip c.args.added.now c.loop-key.copies c.args.fresh.of c.args.fresh.number c.loop-key.key-iterator c.next.new.self
    (c.in-Some.key.now, c.in-Some.truth.now) (rest_more deref_pair c.loop-key.key-iterator c.next.new.self c.next.result (c.in-Some.key, c.in-Some.truth) c.in-Some.is c.next.ensures.steps)
    c.requires
    (elim c.else-a-fresh.branch [
      | else-a-fresh-via-then-a-fresh+else-b-fresh w ↦ inr w.if-b-fresh.false
      | else-a-fresh-via-else-a-fresh w ↦ inl w.if-a-fresh.false
    ])
    c.loop-key.invariant

pub returns : goal.returns
returns c = AreCopies-all c.args.added.now c.loop-key.copies c.args.fresh.of c.args.fresh.number c.loop-key.key-iterator
    (rest_all deref_pair c.loop-key.key-iterator c.next.new.self c.next.result c.in-None.is c.next.ensures.steps) c.loop-key.invariant
