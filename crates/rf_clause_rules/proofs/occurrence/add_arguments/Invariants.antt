use Rattle.std.proofs.Common.{◌≡◌, ℕ, List, take}
use Rattle.rf_clause_rules.specs.Occurrences.{after_arguments, occurrence_in}
use Rattle.rf_clause_rules.proofs.occurrence.add_arguments.Given as goal

abbrev pub invariant-loop-name : goal.invariant-loop-name
invariant-loop-name l = (text : List ℕ) →
    occurrence_in l.occurrences text
    ≡ after_arguments l.arguments.names.now.declared.now l.arguments.params.now l.literal l.negated
    (take l.name-index l.names) text (occurrence_in l.initial.occurrences text)
