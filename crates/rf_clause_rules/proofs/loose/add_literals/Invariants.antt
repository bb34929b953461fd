use Rattle.std.proofs.Common.{◌≡◌, ℕ, List, map, take}
use Rattle.rf_clause_rules.specs.Occurrences.{after_literals, occurrence_in}
use Rattle.rf_clause_rules.proofs.loose.add_literals.Given as goal

abbrev pub invariant-loop-number : goal.invariant-loop-number
invariant-loop-number l = (text : List ℕ) →
    occurrence_in l.occurrences text
    ≡ after_literals l.arguments.names.now.declared.now l.arguments.params.now
    0 (map (λ m. m.now) (take l.number l.literals)) text
    (occurrence_in l.initial.occurrences text)
