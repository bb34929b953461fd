use Rattle.std.proofs.Common.{◌∙◌, ◌++◌, ap, arith, map, sym}
use Rattle.rf_names.proofs.OwnerLemmas.{owners_more}
use Rattle.rf_names.proofs.enum_tables.owners_of.Goals as goal

pub loop-number-preserved : goal.loop-number-preserved
loop-number-preserved c =
    let i = c.loop-number.number in
    let x = c.index-classes-number.result in
    c.in_ok-push_owner.ensures ∙ ap (λ os. os ++ map (λ l. i) x.literals) c.loop-number.invariant
    ∙ sym (owners_more c.args.classes.now i x (omega arith) c.index-classes-number.is)
