use Rattle.std.proofs.Common.{arith, sym}
use Rattle.rf_name_rules.proofs.RepeatedNames.{any_text_here}
use Rattle.rf_name_rules.proofs.repeats.is_reserved.Goals as goal

pub returns-then-eq : goal.returns-then-eq
returns-then-eq c =
    sym (any_text_here c.args.name.now.text c.as_str.result.now c.eq.result c.args.reserved.now c.loop-text.text-index _ (omega arith) c.as_str.ensures.bytes c.eq.ensures c.if-eq.true)
