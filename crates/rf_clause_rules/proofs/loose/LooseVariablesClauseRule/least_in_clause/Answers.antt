use Rattle.std.proofs.Common.{◌≡◌, ◌∙◌, ℕ, List, [], map, ap}
use denote.Ref.{Bor}
use Rattle.rf_syntax.specs.declared.name.Name.{Name}
use Rattle.rf_syntax.specs.declared.predicate.BodyLiteral.{BodyLiteral}
use Rattle.rf_names.specs.Bodies.{clause_names}
use Rattle.rf_names.specs.LookUp.{first_of_each}
use Rattle.rf_clause_rules.specs.Occurrences.{occurrence_in, occurrence_of}
use Rattle.rf_clause_rules.proofs.LooseLemmas.{loose_least}
use Rattle.rf_clause_rules.proofs.loose.LooseVariablesClauseRule.least_in_clause.Goals as goal

pub returns : goal.returns
returns c =
    let d = c.args.arguments.now.names.now.declared.now in
    let params = c.args.arguments.now.params.now in
    let lent : Bor Name → Name = λ n. n.now in
    let same : map (λ (l : Bor BodyLiteral). l.now) c.as_slice-literals.result.now
    ≡ c.args.clause.now =
    ap (map (λ (l : Bor BodyLiteral). l.now)) c.as_slice-literals.ensures.value
    ∙ c.clause.view_is in
    let names : map lent c.as_slice.result.now ≡ clause_names d params c.args.clause.now =
    ap (map lent) c.as_slice.ensures.value ∙ c.in_ok-names.ensures ∙ ap (clause_names d params) same in
    let firsts : map lent c.as_slice-2.result.now
    ≡ first_of_each [] (clause_names d params c.args.clause.now) =
    ap (map lent) c.as_slice-2.ensures.value ∙ c.in_ok-firsts.ensures
    ∙ ap (first_of_each []) names in
    let each : (text : List ℕ) → occurrence_in c.in_ok-occurrences.occurrences text
    ≡ occurrence_of d params c.args.clause.now text =
    λ text. c.in_ok-occurrences.ensures text
    ∙ ap (λ ls. occurrence_of d params ls text) same in
    c.in_ok-least.ensures ∙ loose_least d params c.args.clause.now
    c.in_ok-occurrences.occurrences (map lent c.as_slice-2.result.now) each firsts
