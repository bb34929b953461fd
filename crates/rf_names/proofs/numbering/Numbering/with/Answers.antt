-- A text that has no number takes the next one, and any other keeps its number.
use Rattle.std.proofs.Common.{Some, sym, ◌∙◌, arith}
use Rattle.std.proofs.lemmas.Map.Text.{hash_map_updates_str}
use Rattle.rf_names.proofs.NumberLemmas.{AreNumbered-kept, AreNumbered-new}
use Rattle.rf_names.proofs.numbering.Numbering.with.Goals as goal
use Rattle.rf_names.proofs.numbering.Numbering.with.Goals.{then-not-contains_key+in_ok-insert, else-not-contains_key}

pub invariant_of-result : goal.invariant_of-result
invariant_of-result c = record {
  exact = elim c.if-not-contains_key.branch [
    | then-not-contains_key+in_ok-insert w ↦ rw w.numbers-is
        (AreNumbered-new c.args.self.names.items c.push.new.self.items c.args.name c.as_str-text.result.now w.len.result c.args.self.numbers w.insert.new.self c.args.self.exact
        c.in_ok-push.ensures.items c.as_str-text.ensures.bytes (omega (arith, w.len.ensures)) (sym c.contains_key.ensures ∙ w.if-not-contains_key.true)
        (hash_map_updates_str c.as_str-text.result.now c.args.self.numbers w.insert.new.self (Some w.len.result) w.in_ok-insert.ensures.updates))
    | else-not-contains_key w ↦ rw w.numbers-is
        (AreNumbered-kept c.args.self.names.items c.push.new.self.items c.args.name c.as_str-text.result.now c.args.self.numbers c.args.self.exact
        c.in_ok-push.ensures.items c.as_str-text.ensures.bytes (sym c.contains_key.ensures ∙ w.if-not-contains_key.false))
  ];
}
