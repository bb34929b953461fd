use Rattle.std.proofs.Common.{◌≡◌, ◌∙◌, IfOk, ap, sym, subst}
use Rattle.rf_names.specs.Offsets.{least_of}
use Rattle.rf_names.proofs.LeastOffsets.{in_clauses}
use Rattle.rf_names.proofs.offsets.least_in_clauses.Goals as goal

pub returns : goal.returns
returns g c =
    let d = c.args.names.now.declared.now in
    let forms : c.as_slice.result.now ≡ d.predicates = c.as_slice.ensures.value ∙ ap (λ x. x.predicates) c.declared.view_is in
    subst (λ ats. IfOk c.least_among.result (λ at. at ≡ least_of ats))
    (sym (in_clauses (g.R.ClauseRule.clause_offsets c.args.rule.now d) 0 d.predicates)) (rw forms at c.least_among.ensures)
