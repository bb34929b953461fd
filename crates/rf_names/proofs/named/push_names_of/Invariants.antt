use Rattle.std.proofs.Common.{◌≡◌, ◌++◌, map, take}
use Rattle.rf_names.proofs.named.push_names_of.Given as goal

abbrev pub invariant-loop-item : goal.invariant-loop-item
invariant-loop-item g l = map (λ n. n.now) l.out.items ≡ map (λ n. n.now) l.initial.out.items ++ map g.T.Named.name (take l.item-index l.items)
