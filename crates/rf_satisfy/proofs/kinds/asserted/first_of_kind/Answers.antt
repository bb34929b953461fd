use Rattle.std.proofs.Common.{arith, ◌<◌, ℕ, ap, sym, ◌∙◌}
use Rattle.rf_graph.specs.First.{first_broken}
use Rattle.rf_satisfy.specs.SymbolKinds.{count_of, symbol_of}
use Rattle.rf_satisfy.proofs.SuspectLemmas.{first_below-found}
use Rattle.rf_satisfy.proofs.kinds.asserted.first_of_kind.Goals as goal

pub returns-then-is_some-clause-first : goal.returns-then-is_some-clause-first
returns-then-is_some-clause-first c =
    let p = c.args.index.now.problem in
    let g = c.args.index.now.graph in
    let end = rw c.problem.ensures at c.in_ok-rows.ensures.len in
    let below : c.loop-number.number < count_of p c.args.kind = (let l = c.loop-number-test.true in omega (arith, end)) in
    first_below-found (count_of p c.args.kind) (λ (k : ℕ). first_broken p g (symbol_of c.args.kind k)) c.loop-number.number c.in_ok-first.first below c.loop-number.invariant.none
    (c.in_ok-first.ensures.first ∙ ap (first_broken p g) c.symbol_of-symbol.ensures) (sym c.is_some.ensures ∙ c.if-is_some.true)
