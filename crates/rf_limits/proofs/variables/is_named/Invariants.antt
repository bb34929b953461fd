use Rattle.std.proofs.Common.{◌≡◌, false, map, take}
use Rattle.std.specs.List.{list_any}
use Rattle.rf_names.specs.Texts.{reads}
use Rattle.rf_limits.proofs.variables.is_named.Given as goal

abbrev pub invariant-loop-other : goal.invariant-loop-other
invariant-loop-other l = list_any (reads l.name.text) (map (λ n. n.now) (take l.other-index l.known)) ≡ false
