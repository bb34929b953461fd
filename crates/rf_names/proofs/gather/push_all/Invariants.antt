use Rattle.std.proofs.Common.{◌≡◌, ◌++◌, map, take}
use Rattle.rf_names.proofs.gather.push_all.Given as goal

abbrev pub invariant-loop-item : goal.invariant-loop-item
invariant-loop-item g l = map (λ i. i.now) l.out.items ≡ map (λ i. i.now) l.initial.out.items ++ take l.item-index l.items
