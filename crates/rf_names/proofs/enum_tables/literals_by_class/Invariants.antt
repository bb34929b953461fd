use Rattle.std.proofs.Common.{◌≡◌, map, take}
use Rattle.rf_names.proofs.enum_tables.literals_by_class.Given as goal

abbrev pub invariant-loop-class : goal.invariant-loop-class
invariant-loop-class l = map (λ own. map (λ n. n.now) own.names.items) l.lists.items ≡ map (λ c. c.literals) (take l.class-index l.classes)
