use Rattle.std.proofs.Common.{◌≡◌, ◌+◌, length, arith, sym}
use Rattle.rf_satisfy.specs.ContainerOf.{contains_by}
use Rattle.rf_finite.proofs.Range.{count_below-le_bound}
use Rattle.std.proofs.lemmas.List.{get_or_read}
use Rattle.rf_satisfy.proofs.PeelingLemmas.{content_counts-more, content_counts-same}
use Rattle.rf_satisfy.proofs.kinds.peeling.content_counts.Goals as goal
use Rattle.rf_satisfy.proofs.kinds.peeling.content_counts.Goals.{in-Some, in_default}

pub overflow_add-index_mut : goal.overflow_add-index_mut
overflow_add-index_mut c =
    let few = count_below-le_bound c.loop-z.z (contains_by c.args.containers.now c.in-Some.x) in
    let lx = c.in-Some.ensures.inside in
    let at = get_or_read c.loop-z.contents.items c.in-Some.x c.index_mut.result.now (omega (arith, c.loop-z.invariant.len)) c.index_mut.ensures.value 0 in
    let total = c.loop-z.invariant.counts c.in-Some.x lx in omega arith

pub loop-z-preserved : goal.loop-z-preserved
loop-z-preserved c = elim c.match-container_of.branch [
  | in-Some w ↦ (let len : length c.loop-z.contents.items ≡ length c.args.containers.now = omega (arith, c.loop-z.invariant.len) in
      let lx = w.in-Some.ensures.inside in
      let at = get_or_read c.loop-z.contents.items w.in-Some.x w.index_mut.result.now (omega arith) w.index_mut.ensures.value 0 in
      rw w.contents-is (record {
        len = c.loop-z.invariant.len;
        counts = content_counts-more c.args.containers.now c.loop-z.contents.items c.loop-z.z w.in-Some.x (w.index_mut.result.now + 1) len lx
            (sym w.in-Some.ensures.value) (omega arith) c.loop-z.invariant.counts;
      }))
  | in_default w ↦ rw w.contents-is (record {
    len = c.loop-z.invariant.len;
    counts = content_counts-same c.args.containers.now c.loop-z.contents.items c.loop-z.z (sym w.in_default.ensures.value) c.loop-z.invariant.counts;
  })
]
