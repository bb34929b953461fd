use Rattle.std.proofs.Common.{◌≡◌, ◌∙◌, sym, ap, take, rules, true}
use Rattle.rf_values.specs.declared.truth.Truth.TheVariants.{False}
use Rattle.rf_values.specs.Truth.{conjunction}
use Rattle.std.proofs.lemmas.Result.{IfOk-weaker}
use Rattle.rf_evaluate.proofs.Reached.{IsFull}
use Rattle.rf_evaluate.proofs.Searching.{gathered-added, gathered-failed, gathered-impossible, gathered-settled}
use Rattle.rf_evaluate.proofs.search.judge.Goals as goal

pub returns-then-is_settled-clause-gathered : goal.returns-then-is_settled-clause-gathered
returns-then-is_settled-clause-gathered g c =
    let s = c.args.stage in
    let full : IsFull s = record { elements = search rules; unassigned = search rules } in
    gathered-settled g.G.Gather.has g.G.Gather.covers (g.K.Knowledge.known c.args.known.now) c.args.hunt.now.body (g.T.TupleTest.passes c.args.hunt.now.test.now)
    c.args.hunt.now.arity s c.args.value c.args.gathered.now full c.requires.few c.requires.closed c.of-tuple.result c.of-tuple.ensures (c.is_settled.ensures c.if-is_settled.true)

pub returns-then-not-passes-clause-gathered : goal.returns-then-not-passes-clause-gathered
returns-then-not-passes-clause-gathered g c =
    let passes = g.T.TupleTest.passes c.args.hunt.now.test.now in
    let s = c.args.stage in
    let full : IsFull s = record { elements = search rules; unassigned = search rules } in
    let tuple : c.as_slice.result.now ≡ take c.args.hunt.now.arity s.elements = c.as_slice.ensures.items ∙ c.of-tuple.ensures in
    gathered-failed g.G.Gather.has g.G.Gather.covers (g.K.Knowledge.known c.args.known.now) c.args.hunt.now.body passes c.args.hunt.now.arity s c.args.value c.args.gathered.now
    full c.requires.few c.requires.closed (ap passes (sym tuple) ∙ (sym c.passes.ensures ∙ c.if-not-passes.true))

pub returns-then-eq-clause-gathered : goal.returns-then-eq-clause-gathered
returns-then-eq-clause-gathered g c =
    let s = c.args.stage in
    let full : IsFull s = record { elements = search rules; unassigned = search rules } in
    let none : c.and-met.result ≡ False = search rules in
    gathered-impossible g.G.Gather.has g.G.Gather.covers (g.K.Knowledge.known c.args.known.now) c.args.hunt.now.body (g.T.TupleTest.passes c.args.hunt.now.test.now)
    c.args.hunt.now.arity s c.args.value c.args.gathered.now full c.requires.few c.requires.closed
    (ap (conjunction c.args.value) (sym c.in_ok-rest.ensures.value) ∙ (sym c.and-met.ensures ∙ none))

pub returns-clause-gathered : goal.returns-clause-gathered
returns-clause-gathered g c =
    let passes = g.T.TupleTest.passes c.args.hunt.now.test.now in
    let s = c.args.stage in
    let full : IsFull s = record { elements = search rules; unassigned = search rules } in
    let passed : passes c.of-tuple.result ≡ true = ap passes (sym c.as_slice.ensures.items) ∙ (sym c.passes.ensures ∙ c.if-not-passes.false) in
    IfOk-weaker c.add.result _ _
    (λ u h. gathered-added g.G.Gather.has g.G.Gather.covers (g.K.Knowledge.known c.args.known.now) c.args.hunt.now.body passes c.args.hunt.now.arity s c.args.value c.args.gathered.now
    full c.requires.few c.requires.closed c.of-tuple.result c.and-met.result c.add.new.self c.requires.placed c.of-tuple.ensures passed
    (c.and-met.ensures ∙ ap (conjunction c.args.value) c.in_ok-rest.ensures.value) h)
    c.add.ensures
