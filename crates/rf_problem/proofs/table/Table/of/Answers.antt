use Rattle.std.proofs.Common.{◌≡◌, ◌∙◌, ◌<◌, ◌≤◌, length, ap, arith}
use Rattle.rf_bounds.specs.declared.TheConstants.{MOST_PARAMETERS}
use Rattle.rf_problem.specs.Keys.{key_of, stars_of}
use Rattle.rf_problem.proofs.TableLemmas.{IsTable-put, IsTable-skip}
use Rattle.rf_problem.proofs.table.Table.of.Goals as goal
use Rattle.rf_problem.proofs.table.Table.of.Goals.{then-len-le-MOST_PARAMETERS+in_ok-put, else-len-le-MOST_PARAMETERS}

pub loop-assertion-preserved : goal.loop-assertion-preserved
loop-assertion-preserved c = elim c.if-len-le-MOST_PARAMETERS.branch [
  | then-len-le-MOST_PARAMETERS+in_ok-put w ↦ (let few : length c.assertion-item.result.args ≤ MOST_PARAMETERS = omega (arith, w.if-len-le-MOST_PARAMETERS.true, c.len.ensures) in
      let stars : w.stars_of.result ≡ stars_of c.assertion-item.result.args = w.stars_of.ensures.number ∙ ap stars_of w.deref-then-len-le-MOST_PARAMETERS.ensures in
      rw w.heard-is (rw w.stars-is (rw stars (IsTable-put c.args.assertions.now c.loop-assertion.assertion-index c.assertion-item.result c.loop-assertion.heard w.put.new.table
      c.loop-assertion.stars c.loop-assertion-test.true c.assertion-item.is few w.key_of-key.result w.of.result (w.key_of-key.ensures ∙ ap (key_of c.assertion-item.result.symbol) w.deref.ensures) w.of.ensures w.in_ok-put.ensures c.loop-assertion.invariant))))
  | else-len-le-MOST_PARAMETERS w ↦ (let many : MOST_PARAMETERS < length c.assertion-item.result.args = omega (arith, w.if-len-le-MOST_PARAMETERS.false, c.len.ensures) in
      rw w.heard-is (rw w.stars-is (IsTable-skip c.args.assertions.now c.loop-assertion.assertion-index c.assertion-item.result c.loop-assertion.heard
      c.loop-assertion.stars c.loop-assertion-test.true c.assertion-item.is many c.loop-assertion.invariant)))
]
