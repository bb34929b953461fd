use Rattle.std.proofs.Common.{◌≡◌, false, map, take}
use Rattle.rf_names.specs.Texts.{is_text_of}
use Rattle.rf_name_rules.proofs.repeats.is_reserved.Given as goal

abbrev pub invariant-loop-text : goal.invariant-loop-text
invariant-loop-text l = is_text_of (map (λ t. t.now) (take l.text-index l.reserved)) l.name ≡ false
