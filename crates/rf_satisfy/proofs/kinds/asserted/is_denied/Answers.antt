use Rattle.std.proofs.Common.{arith, sym, ◌∙◌}
use Rattle.rf_satisfy.proofs.BrokenLemmas.{excess-false, none_denies}
use Rattle.rf_satisfy.proofs.kinds.asserted.is_denied.Goals as goal

pub returns : goal.returns
returns c = λ e t.
    excess-false c.args.index.now.problem c.args.index.now.graph c.args.symbol c.args.numbers.now c.requires.numbers t
    (none_denies c.args.index.now.problem c.args.index.now.graph c.args.symbol c.args.numbers.now c.requires.numbers (λ k l. c.loop-number.invariant k (omega arith)))
    (sym c.is_error.ensures ∙ c.if-is_error.false)
