-- The loop peels the node that it is at, goes to its container, and ends where there is nothing to peel.
use Rattle.std.proofs.Common.{◌+◌, ◌-◌, ◌<◌, length, get_or, arith, sym, ◌∙◌}
use Rattle.rf_satisfy.proofs.PeelingLemmas.{AreOthersPeeled-step, IsPeeling-step, IsPeeling-top, contents-positive, parts_of_bare}
use Rattle.rf_satisfy.proofs.kinds.peeling.peel.Goals as goal

pub loop-peeled-preserved : goal.loop-peeled-preserved
loop-peeled-preserved c =
    let peeling = c.loop-peeled.invariant.peeling in
    let bare = parts_of_bare c.loop-peeled.contents c.loop-peeled.peeled c.loop-peeled.z (sym c.is_bare.ensures ∙ c.loop-peeled-test.true) in
    let in_marks : c.loop-peeled.z < length c.loop-peeled.peeled = (let e = peeling.marks in let l = c.loop-peeled.invariant.node in omega arith) in record {
      node = c.in-Some.ensures.inside;
      peeling = IsPeeling-step c.args.containers.now c.loop-peeled.contents c.loop-peeled.peeled c.loop-peeled.z c.in-Some.x peeling c.loop-peeled.invariant.node
          bare.0 bare.1 (sym c.in-Some.ensures.value) c.in-Some.ensures.inside;
      others = AreOthersPeeled-step c.args.containers.now c.loop-peeled.contents c.loop-peeled.peeled (c.args.start + 1) c.loop-peeled.z c.in-Some.x
          (get_or c.loop-peeled.contents c.in-Some.x 0 - 1) c.loop-peeled.invariant.others in_marks;
    }

pub overflow_sub-contents : goal.overflow_sub-contents
overflow_sub-contents c =
    let bare = parts_of_bare c.loop-peeled.contents c.loop-peeled.peeled c.loop-peeled.z (sym c.is_bare.ensures ∙ c.loop-peeled-test.true) in
    contents-positive c.args.containers.now c.loop-peeled.contents c.loop-peeled.peeled c.loop-peeled.z c.in-Some.x c.loop-peeled.invariant.peeling c.loop-peeled.invariant.node
    bare.1 (sym c.in-Some.ensures.value) c.in-Some.ensures.inside

pub returns-in_default-clause-peeling : goal.returns-in_default-clause-peeling
returns-in_default-clause-peeling c =
    let bare = parts_of_bare c.loop-peeled.contents c.loop-peeled.peeled c.loop-peeled.z (sym c.is_bare.ensures ∙ c.loop-peeled-test.true) in
    IsPeeling-top c.args.containers.now c.loop-peeled.contents c.loop-peeled.peeled c.loop-peeled.z c.loop-peeled.invariant.peeling c.loop-peeled.invariant.node
    bare.0 (sym c.in_default.ensures.value)
