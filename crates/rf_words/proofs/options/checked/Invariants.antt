use Rattle.std.proofs.Common.{◌≡◌, true, take}
use Rattle.std.specs.List.{list_all}
use Rattle.rf_words.specs.Reader.{is_word, texts}
use Rattle.rf_words.proofs.options.checked.Given as goal

abbrev pub invariant-loop-argument : goal.invariant-loop-argument
invariant-loop-argument l = record {
  same : texts l.words.items ≡ take l.argument-index l.arguments;
  ok : list_all (is_word (texts l.names)) (take l.argument-index l.arguments) ≡ true;
}
