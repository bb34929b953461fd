use Rattle.std.proofs.Common.{◌≡◌, false, drop, length, slice_set, suc, ◌+◌, ◌-◌, ◌*◌, ◌^◌}
use Rattle.rf_problem.specs.Reading.{atoms_among}
use Rattle.rf_evaluate.specs.Elements.{element_at}
use Rattle.rf_evaluate.specs.Evaluating.{completed_with, some_truth}
use Rattle.rf_evaluate.specs.Kept.{AreKept}
use Rattle.rf_evaluate.specs.Steps.{AreStepsOf}
use Rattle.rf_evaluate.proofs.EvaluationMeasure.{literal_left, steps_left}
use Rattle.rf_evaluate.proofs.EvaluationSymbols.{IsClausesLeft}
use Rattle.rf_evaluate.proofs.EvaluationTerms.{IsFoundWith}
use Rattle.rf_evaluate.proofs.EvaluationRows.{IsRowBegun}
use Rattle.rf_evaluate.proofs.evaluate.+evaluate.Given as goal

abbrev pub decreases-predicate_value : goal.decreases-predicate_value
decreases-predicate_value g l = l.depth * 2 ^ 72

abbrev pub decreases-symbol_value : goal.decreases-symbol_value
decreases-symbol_value g l = l.depth * 2 ^ 72 + 1

abbrev pub decreases-row_of : goal.decreases-row_of
decreases-row_of g l = l.depth * 2 ^ 72 + 2

abbrev pub decreases-steps_of : goal.decreases-steps_of
decreases-steps_of g l = l.depth * 2 ^ 72 + 3

abbrev pub decreases-walk_value : goal.decreases-walk_value
decreases-walk_value g l = l.depth * 2 ^ 72 + 4

abbrev pub decreases-claim_at : goal.decreases-claim_at
decreases-claim_at g l = l.depth * 2 ^ 72 + 5

abbrev pub decreases-claim_for_atom : goal.decreases-claim_for_atom
decreases-claim_for_atom g l = l.depth * 2 ^ 72 + 6 + 2 * (length l.terms.now - l.n)

abbrev pub decreases-claim_for_atoms : goal.decreases-claim_for_atoms
decreases-claim_for_atoms g l = l.depth * 2 ^ 72 + 7 + 2 * (length l.terms.now - l.n)

abbrev pub decreases-claim_value : goal.decreases-claim_value
decreases-claim_value g l = l.depth * 2 ^ 72 + 8 + 2 ^ 65

abbrev pub decreases-literal_value : goal.decreases-literal_value
decreases-literal_value g l = l.body.now.depth * 2 ^ 72 + literal_left l.body.now.is_inner

abbrev pub decreases-with_element : goal.decreases-with_element
decreases-with_element g l = l.body.now.depth * 2 ^ 72 + 1 + steps_left l.body.now.is_inner (slice_set l.stage.unassigned l.v false) l.stage.pending

abbrev pub decreases-some_element : goal.decreases-some_element
decreases-some_element g l = l.body.now.depth * 2 ^ 72 + 2 + steps_left l.body.now.is_inner (slice_set l.stage.unassigned l.v false) l.stage.pending

abbrev pub decreases-completed : goal.decreases-completed
decreases-completed g l = l.body.now.depth * 2 ^ 72 + steps_left l.body.now.is_inner l.stage.unassigned l.stage.pending

abbrev pub decreases-some_clause : goal.decreases-some_clause
decreases-some_clause g l = l.depth * 2 ^ 72 + 2 ^ 70

abbrev pub invariant-claim_for_atom-loop-number : goal.invariant-claim_for_atom-loop-number
invariant-claim_for_atom-loop-number g l = record {
  kept : AreKept (g.K.Knowledge.known l.known) l.closures;
  found : IsFoundWith (g.K.Knowledge.known l.known) l.claim l.terms l.places l.atom (atoms_among (drop (suc l.n) l.terms)) l.elements l.number l.found;
}

abbrev pub invariant-row_of-loop-number : goal.invariant-row_of-loop-number
invariant-row_of-loop-number g l = record {
  kept : AreKept (g.K.Knowledge.known l.known) l.closures;
  row : IsRowBegun (g.K.Knowledge.known l.known) l.symbol l.x l.ends l.number l.row;
}

abbrev pub invariant-some_clause-loop-clause : goal.invariant-some_clause-loop-clause
invariant-some_clause-loop-clause g l = record {
  kept : AreKept (g.K.Knowledge.known l.known) l.closures;
  found : IsClausesLeft (g.K.Knowledge.known l.known) l.arity l.elements l.clauses l.clause-index l.found;
}

abbrev pub invariant-some_element-loop-number : goal.invariant-some_element-loop-number
invariant-some_element-loop-number g l = record {
  kept : AreKept (g.K.Knowledge.known l.known) l.closures;
  found : l.found ≡ some_truth l.number (λ i. completed_with (g.K.Knowledge.known l.known) l.body l.stage l.v (element_at l.elements i));
}

abbrev pub invariant-steps_of-loop-x : goal.invariant-steps_of-loop-x
invariant-steps_of-loop-x g l = record {
  kept : AreKept (g.K.Knowledge.known l.known) l.closures;
  steps : AreStepsOf (g.K.Knowledge.known l.known) l.symbol l.x l.steps;
}
