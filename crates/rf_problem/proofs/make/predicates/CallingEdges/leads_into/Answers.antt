use Rattle.std.proofs.Common.{◌≡◌, ◌∙◌, ap, sym}
use Rattle.std.specs.FinSet.{contains}
use Rattle.std.specs.List.{list_any}
use Rattle.std.proofs.lemmas.List.{get_or_default}
use Rattle.rf_problem.specs.Calling.{clause_calls_one_of}
use Rattle.rf_problem.specs.Parts.{no_predicate, predicate_at}
use Rattle.rf_problem.proofs.CallLemmas.{clauses_call-one, clauses_call-some}
use Rattle.rf_problem.proofs.make.predicates.CallingEdges.leads_into.Goals as goal

pub returns : goal.returns
returns c =
    let predicates = c.args.self.now.predicates.now in
    let at : c.predicate_calls_one_of.result ≡ list_any (clause_calls_one_of (contains c.args.ends)) (predicate_at predicates c.args.from).clauses =
    c.predicate_calls_one_of.ensures
    ∙ ap (λ q. list_any (clause_calls_one_of (contains c.args.ends)) q.clauses)
    (get_or_default predicates c.args.from c.index-self-from.result no_predicate c.requires) in (
      λ t. (let found = clauses_call-one (contains c.args.ends) (predicate_at predicates c.args.from).clauses (sym at ∙ t) in (found.0, found.2, found.1)),
      λ leads. at ∙ clauses_call-some (contains c.args.ends) leads.0 (predicate_at predicates c.args.from).clauses leads.1 leads.2,
    )
