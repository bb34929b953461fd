use Rattle.std.proofs.Common.{◌∙◌, ◌<◌, length, sym, ap, arith, slice_index_or}
use Rattle.rf_finite.specs.Passing.{joined}
use Rattle.rf_decide.specs.Choice.{no_decision}
use Rattle.rf_decide.proofs.Joining.{joined_at}
use Rattle.rf_decide.proofs.lists.member_of.Goals as goal

pub returns-then-left-size : goal.returns-then-left-size
returns-then-left-size g c =
    let list = g.L.Lists.list c.args.lists.now in
    let many = g.L.Lists.many c.args.lists.now in
    let few : c.loop-k.left < length (list c.loop-k.k) = omega (arith, c.if-left-size.true, c.size-size.ensures.size) in
    let here = joined_at many c.loop-k.k list no_decision c.loop-k.left (omega (arith, c.loop-k-test.true, c.many-k-end.ensures)) few in
    c.member.ensures ∙ (sym here ∙ ap (λ i. slice_index_or (joined many list) i no_decision) c.loop-k.invariant.left)
