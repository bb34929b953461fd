use Rattle.std.proofs.Common.{◌≡◌, length, ap, ◌∙◌, ◌-◌}
use Rattle.std.proofs.lemmas.Result.{IfOk-weaker}
use Rattle.std.specs.Prelude.{slice_index}
use Rattle.rf_problem.specs.declared.predicate.Clause.{Clause as ClauseOf}
use Rattle.rf_problem.specs.declared.problem.Problem.{Problem as ProblemOf}
use Rattle.rf_evaluate.specs.Literals.{clause_at, literal_at}
use Rattle.rf_evaluate.proofs.LiteralLemmas.{IsSoundBody-clause_at, clause_at-index, literal_known-body}
use Rattle.rf_evaluate.proofs.literals.literal.Goals as goal

pub literal_value-requires-clause-sound : goal.literal_value-requires-clause-sound
literal_value-requires-clause-sound g c =
    let k = g.K.Knowledge.known c.args.known.now in
    let clause = clause_at-index k.problem c.problem-problem.result.now c.args.predicate c.args.clause c.predicate.result.now c.deref.result.now c.index-deref-clause.result c.problem-problem.ensures c.predicate.ensures c.deref.ensures c.requires.clause c.index-deref-clause.is in
    let depth : c.body_of-body.result.depth ≡ length k.problem.predicates - 1 =
    c.body_of-body.ensures.depth ∙ ap (λ n. n - 1) (c.len.ensures ∙ ap (λ (p : ProblemOf). length p.predicates) c.problem-problem.ensures) in
    IsSoundBody-clause_at k c.args.predicate c.args.clause c.body_of-body.result
    (c.body_of-body.ensures.variables ∙ ap (λ (d : ClauseOf). d.variables) clause) (c.body_of-body.ensures.literals ∙ ap (λ (d : ClauseOf). d.literals) clause)
    c.requires.predicate c.requires.clause depth

pub returns-clause-value : goal.returns-clause-value
returns-clause-value g c =
    let k = g.K.Knowledge.known c.args.known.now in
    let clause = clause_at-index k.problem c.problem-problem.result.now c.args.predicate c.args.clause c.predicate.result.now c.deref.result.now c.index-deref-clause.result c.problem-problem.ensures c.predicate.ensures c.deref.ensures c.requires.clause c.index-deref-clause.is in
    let said = literal_known-body k c.args.predicate c.args.clause c.body_of-body.result
    (c.body_of-body.ensures.variables ∙ ap (λ (d : ClauseOf). d.variables) clause) (c.body_of-body.ensures.literals ∙ ap (λ (d : ClauseOf). d.literals) clause)
    c.args.literal (slice_index c.args.elements) c.body_of-body.ensures.inner c.requires.literal in
    IfOk-weaker c.literal_value.result _ _ (λ v e. e (literal_at (clause_at k.problem c.args.predicate c.args.clause) c.args.literal) said.0 ∙ said.1) c.literal_value.ensures.value
