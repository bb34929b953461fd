use Rattle.std.proofs.Common.{◌∙◌, [], ℕ, Some, sym, arith, subst}
use Rattle.std.proofs.lemmas.List.{get_or_default}
use Rattle.std.proofs.lemmas.Map.Text.{btree_map_updates_str}
use Rattle.rf_graph.specs.Names.{IsIndex}
use Rattle.rf_graph.proofs.Index.{none_yet, one_more}
use Rattle.rf_graph.proofs.names.NameIndex.new.Goals as goal

pub invariant_of-result : goal.invariant_of-result
invariant_of-result c = record {
  exact = subst (λ (n : ℕ). IsIndex c.args.names.now n c.loop-number.numbers) (omega arith) c.loop-number.invariant;
}

pub loop-number-init : goal.loop-number-init
loop-number-init c = none_yet c.args.names.now c.new-numbers.result c.new-numbers.ensures.empty

pub loop-number-preserved : goal.loop-number-preserved
loop-number-preserved c =
    let names = c.args.names.now in
    let number = c.loop-number.number in
    one_more names number c.as_bytes.result.now c.loop-number.numbers c.insert.new.self c.loop-number.invariant
    (get_or_default names number [] c.index-names-number.result c.loop-number-test.true ∙ sym c.index-names-number.is ∙ sym c.as_str.ensures.bytes ∙ sym c.as_bytes.ensures.value)
    (btree_map_updates_str c.as_bytes.result.now c.loop-number.numbers c.insert.new.self (Some number) c.in_ok-insert.ensures.updates)
