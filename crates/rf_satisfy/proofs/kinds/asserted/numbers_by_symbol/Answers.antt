use Rattle.std.proofs.Common.{◌≡◌, ◌∙◌, ◌<◌, arith, sym, ap, length}
use Rattle.rf_problem.specs.declared.assertion.Assertion.{Assertion}
use Rattle.rf_satisfy.specs.SymbolKinds.{number_of}
use Rattle.rf_satisfy.proofs.NumberLemmas.{numbered-put, numbered-skip}
use Rattle.rf_satisfy.proofs.kinds.asserted.numbers_by_symbol.Goals as goal
use Rattle.rf_satisfy.proofs.kinds.asserted.numbers_by_symbol.Goals.{in-Some+in_ok-put-in-Some, in-None}

pub loop-i-preserved : goal.loop-i-preserved
loop-i-preserved c =
    let p = c.args.problem.now in
    let l : c.loop-i.i < length c.args.problem.now.assertions = (let e = ap length c.as_slice-i-end.ensures in let t = c.loop-i-test.true in omega arith) in
    let at = rw c.as_slice.ensures at c.index-as_slice-i.is in
    let said : number_of c.args.kind c.index-as_slice-i.result.symbol ≡ c.number_of.result =
    ap (λ (a : Assertion). number_of c.args.kind a.symbol) c.index-as_slice-i.is ∙ sym c.number_of.ensures in
    elim c.match-number_of.branch [
      | in-Some+in_ok-put-in-Some w ↦ (let len : length w.put.new.rows.items ≡ length c.loop-i.rows.items = omega (arith, w.in_ok-put-in-Some.ensures.len) in rw w.rows-is
          (numbered-put p c.args.kind c.loop-i.i c.index-as_slice-i.result l at c.loop-i.rows.items c.loop-i.invariant w.in-Some.number w.put.new.rows.items
          (said ∙ w.in-Some.is) len w.in_ok-put-in-Some.ensures.put w.in_ok-put-in-Some.ensures.others))
      | in-None w ↦ rw w.rows-is
          (numbered-skip p c.args.kind c.loop-i.i c.index-as_slice-i.result l at c.loop-i.rows.items c.loop-i.invariant (said ∙ w.in-None.is))
    ]

pub returns : goal.returns
returns c =
    let e = ap length c.as_slice-i-end.ensures in
    let t = c.loop-i-test.false in
    let u = c.loop-i.auto.i-end in
    let all : c.loop-i.i ≡ length c.args.problem.now.assertions = omega arith in
    rw all at c.loop-i.invariant
