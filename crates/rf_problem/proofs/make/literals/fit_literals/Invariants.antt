use Rattle.std.proofs.Common.{◌≡◌, drop}
use Rattle.rf_problem.specs.Valid.{fit_literals}
use Rattle.rf_problem.proofs.make.literals.fit_literals.Given as goal

abbrev pub invariant-loop-number : goal.invariant-loop-number
invariant-loop-number l =
    fit_literals l.declared.classes l.declared.references l.declared.objects.now l.declared.predicates.now l.variables l.number (drop l.number l.literals)
    ≡ fit_literals l.declared.classes l.declared.references l.declared.objects.now l.declared.predicates.now l.variables 0 l.literals
