use Rattle.std.proofs.Common.{◌≡◌, ◌∙◌, ap, refl}
use Rattle.std.proofs.lemmas.Option.{slice_get_read}
use Rattle.rf_problem.specs.Parts.{predicate_at}
use Rattle.rf_problem.specs.declared.predicate.Predicate.{Predicate}
use Rattle.rf_problem.specs.declared.problem.Problem.{Problem}
use Rattle.rf_evaluate.proofs.ClauseSearch.{gathered-met, gathered-more_clauses, sound-clause}
use Rattle.rf_evaluate.proofs.search.search_predicate.Goals as goal

pub search_clause-requires-clause-sound : goal.search_clause-requires-clause-sound
search_clause-requires-clause-sound g c =
    let k = g.K.Knowledge.known c.args.known.now in
    let declared : c.predicate-declared.result.now ≡ predicate_at k.problem.predicates c.args.predicate =
    c.predicate-declared.ensures ∙ ap (λ (p : Problem). predicate_at p.predicates c.args.predicate) c.problem.ensures in
    sound-clause k c.args.predicate c.deref-clause-items.result.now c.loop-clause.clause-index c.clause-item.result c.requires.declared
    (c.deref-clause-items.ensures ∙ ap (λ (p : Predicate). p.clauses) declared) c.loop-clause-test.true c.clause-item.is

pub loop-clause-preserved : goal.loop-clause-preserved
loop-clause-preserved g c = record {
  kept = c.in_ok-search_clause.ensures.kept;
  gathered = gathered-more_clauses g.G.Gather.has g.G.Gather.covers (g.K.Knowledge.known c.args.known.now) (g.T.TupleTest.passes c.args.test.now) c.args.gathered.now
      c.predicate-declared.result.now.arity c.deref-clause-items.result.now c.loop-clause.clause-index c.clause-item.result c.loop-clause.gathered c.search_clause.new.gathered
      (slice_get_read c.deref-clause-items.result.now _ c.loop-clause.clause-index c.clause-item.result refl c.loop-clause-test.true c.clause-item.is)
      c.loop-clause.invariant.gathered c.in_ok-search_clause.ensures.gathered;
}

pub returns-clause-gathered : goal.returns-clause-gathered
returns-clause-gathered g c =
    let k = g.K.Knowledge.known c.args.known.now in
    let declared : c.predicate-declared.result.now ≡ predicate_at k.problem.predicates c.args.predicate =
    c.predicate-declared.ensures ∙ ap (λ (p : Problem). predicate_at p.predicates c.args.predicate) c.problem.ensures in
    gathered-met g.G.Gather.has g.G.Gather.covers k (g.T.TupleTest.passes c.args.test.now) c.args.gathered.now c.args.predicate c.loop-clause.clause-index c.predicate-declared.result.now.arity
    c.deref-clause-items.result.now c.loop-clause.gathered
    (ap (λ (p : Predicate). p.arity) declared) (c.deref-clause-items.ensures ∙ ap (λ (p : Predicate). p.clauses) declared) c.loop-clause-test.false c.loop-clause.invariant.gathered
