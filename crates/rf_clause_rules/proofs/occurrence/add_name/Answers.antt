use Rattle.std.proofs.Common.{Some}
use Rattle.std.proofs.lemmas.Map.Text.{btree_map_updates_str}
use Rattle.rf_clause_rules.proofs.LooseLemmas.{name_added}
use Rattle.rf_clause_rules.proofs.occurrence.add_name.Goals as goal

pub returns : goal.returns
returns c = λ text.
    name_added c.args.occurrences.now c.insert.new.self c.args.literal c.args.negated
    c.args.name.now c.as_str-text.result.now text c.occurrence_in.result
    c.named_in-occurrence.result
    c.as_str-text.ensures.bytes c.occurrence_in.ensures c.named_in-occurrence.ensures
    (btree_map_updates_str c.as_str-text.result.now c.args.occurrences.now c.insert.new.self
    (Some c.named_in-occurrence.result) c.in_ok-insert.ensures.updates text)
