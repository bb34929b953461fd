use Rattle.std.proofs.Common.{◌≡◌, ◌∙◌, ◌||◌, List, map, take, not, arith, sym, ap}
use Rattle.std.specs.List.{list_any}
use Rattle.std.specs.Str.{bytes_eq}
use Rattle.rf_syntax.specs.declared.name.Name.{Name}
use Rattle.rf_names.specs.Offsets.{least_of}
use Rattle.rf_names.specs.Texts.{is_text_of}
use Rattle.rf_name_rules.specs.NameOffsets.{repeated}
use Rattle.rf_name_rules.proofs.RepeatedNames.{names_more, one_more_mark, one_more_offset}
use Rattle.rf_name_rules.proofs.repeats.repeated.Goals as goal
use Rattle.rf_name_rules.proofs.repeats.repeated.Goals.{then-is_reserved, else-is_reserved}

pub loop-name-preserved : goal.loop-name-preserved
loop-name-preserved c =
    let reserved = map (λ t. t.now) c.args.reserved.now in
    let names = map (λ n. n.now) (take c.loop-name.name-index c.args.names.now) in
    let name = c.name-item.result.now in
    let more = names_more c.args.names.now c.loop-name.name-index c.name-item.result (omega arith) c.name-item.is in
    let reads = c.as_bytes.ensures.value ∙ c.as_str.ensures.bytes in
    let test : c.if-is_reserved.offset_if ≡ (is_text_of reserved name || not c.in_ok-is_new.is_new) =
    elim c.if-is_reserved.branch [ then-is_reserved w ↦ grind arith | else-is_reserved w ↦ grind arith ] in
    record {
      least = one_more_offset reserved names name c.loop-name.seen c.as_bytes.result c.if-is_reserved.offset_if c.in_ok-is_new.is_new c.loop-name.least c.offset_if.result c.lesser-least.result
          reads c.loop-name.invariant.marks c.in_ok-is_new.ensures.added test c.loop-name.invariant.least c.offset_if.ensures c.lesser-least.ensures
          ∙ ap (λ (ns : List Name). least_of (repeated reserved ns)) (sym more);
      marks = λ q. one_more_mark names name c.loop-name.seen c.insert.new.self c.as_bytes.result reads c.loop-name.invariant.marks c.in_ok-is_new.ensures.updates q
          ∙ ap (λ (ns : List Name). list_any (λ n. bytes_eq q.now n.text) ns) (sym more);
    }
