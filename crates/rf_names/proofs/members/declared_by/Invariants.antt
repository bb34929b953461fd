use Rattle.std.proofs.Common.{◌≡◌, ◌==◌, filter, take}
use Rattle.rf_names.specs.Tables.{passes_at}
use Rattle.rf_names.proofs.members.declared_by.Given as goal

abbrev pub invariant-loop-reference : goal.invariant-loop-reference
invariant-loop-reference l =
    l.own.items ≡ filter (passes_at (λ r. r.source == l.class) l.declared.references) (take l.reference-index l.references)
