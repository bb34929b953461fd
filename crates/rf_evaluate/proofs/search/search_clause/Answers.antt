use Rattle.std.proofs.Common.{◌≡◌, ◌==◌, ℕ, ap, rules, slice_index}
use Rattle.std.specs.List.{list_all}
use Rattle.std.proofs.lemmas.Result.{IfOk-weaker}
use Rattle.rf_evaluate.proofs.ClauseSearch.{IsBegun, begun-placed, gathered-clause, zero-at}
use Rattle.rf_evaluate.proofs.search.search_clause.Goals as goal

pub search-requires-clause-placed : goal.search-requires-clause-placed
search-requires-clause-placed g c =
    let zeros : (v : ℕ) → slice_index c.of_clause-stage.result.elements v ≡ 0 =
    λ v. zero-at c.of_clause-stage.result.elements v (ap (list_all (λ x. x == 0)) c.of_clause-stage.ensures.elements) in
    let begun : IsBegun c.body_of.result c.of_clause-stage.result c.args.arity c.args.clause.now = record {
      inner = c.body_of.ensures.inner;
      variables = c.body_of.ensures.variables;
      literals = c.body_of.ensures.literals;
      full = record { elements = search rules; unassigned = search rules };
      zeros = zeros;
      unassigned = c.of_clause-stage.ensures.unassigned;
      pending = c.of_clause-stage.ensures.pending;
      few = c.requires.few;
      wide = c.requires.parameters.few_variables;
      parameters = c.requires.parameters.parameters;
      free = c.requires.parameters.free;
    } in
    begun-placed (g.K.Knowledge.known c.args.known.now) c.body_of.result (g.T.TupleTest.passes c.args.test.now) c.args.arity c.of_clause-stage.result c.args.clause.now begun

pub returns-clause-gathered : goal.returns-clause-gathered
returns-clause-gathered g c =
    let zeros : (v : ℕ) → slice_index c.of_clause-stage.result.elements v ≡ 0 =
    λ v. zero-at c.of_clause-stage.result.elements v (ap (list_all (λ x. x == 0)) c.of_clause-stage.ensures.elements) in
    let begun : IsBegun c.body_of.result c.of_clause-stage.result c.args.arity c.args.clause.now = record {
      inner = c.body_of.ensures.inner;
      variables = c.body_of.ensures.variables;
      literals = c.body_of.ensures.literals;
      full = record { elements = search rules; unassigned = search rules };
      zeros = zeros;
      unassigned = c.of_clause-stage.ensures.unassigned;
      pending = c.of_clause-stage.ensures.pending;
      few = c.requires.few;
      wide = c.requires.parameters.few_variables;
      parameters = c.requires.parameters.parameters;
      free = c.requires.parameters.free;
    } in
    IfOk-weaker c.search.result _ _
    (λ u h. gathered-clause (g.K.Knowledge.known c.args.known.now) c.body_of.result (g.T.TupleTest.passes c.args.test.now) c.args.arity c.of_clause-stage.result c.args.clause.now begun
    g.G.Gather.has g.G.Gather.covers c.args.gathered.now c.search.new.gathered h)
    c.search.ensures.gathered
