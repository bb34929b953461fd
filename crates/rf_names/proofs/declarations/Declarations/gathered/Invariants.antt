use Rattle.std.proofs.Common.{◌≡◌, map, take}
use Rattle.rf_names.specs.Gathering.{gathered_by}
use Rattle.rf_names.proofs.declarations.Declarations.gathered.Given as goal

abbrev pub invariant-loop-statement : goal.invariant-loop-statement
invariant-loop-statement l = l.declarations ≡ gathered_by (map (λ n. n.now) l.fn.atoms.names.items) (take l.statement-index l.statements)
