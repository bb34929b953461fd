use Rattle.std.proofs.Common.{◌≡◌, false, filter, get_or, take}
use Rattle.rf_names.specs.Tables.{passes_at}
use Rattle.rf_names.proofs.members.declared_above.Given as goal

abbrev pub invariant-loop-reference : goal.invariant-loop-reference
invariant-loop-reference l =
    l.above.items ≡ filter (passes_at (λ r. get_or l.marks r.source false) l.declared.references) (take l.reference-index l.references)
