use Rattle.std.proofs.Common.{◌≡◌, map, take}
use Rattle.std.specs.List.{flat_map}
use Rattle.rf_names.specs.Declarations.{atoms_in}
use Rattle.rf_names.proofs.declarations.atoms_of.Given as goal

abbrev pub invariant-loop-statement : goal.invariant-loop-statement
invariant-loop-statement l = map (λ n. n.now) l.names.items ≡ flat_map atoms_in (take l.statement-index l.statements)
