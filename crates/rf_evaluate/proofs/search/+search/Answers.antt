use Rattle.std.proofs.Common.{◌<◌, ◌≤◌, ◌+◌, ℕ, sym, subst, arith, rules}
use Rattle.std.proofs.lemmas.Result.{IfOk-weaker}
use Rattle.rf_evaluate.specs.Elements.{count}
use Rattle.rf_evaluate.specs.Hunts.{IsPlaced}
use Rattle.rf_evaluate.specs.declared.stage.Stage.{Stage}
use Rattle.rf_evaluate.proofs.Reached.{IsFull}
use Rattle.rf_evaluate.proofs.Candidates.{element_at-below}
use Rattle.rf_evaluate.proofs.EvaluationMeasure.{remaining, remaining-with, remaining-without}
use Rattle.rf_evaluate.proofs.Searching.{IsPlaced-with, gathered-with, gathered-with_all, gathered-without, one_at}
use Rattle.rf_evaluate.proofs.search.+search.Goals as goal

pub search-returns-in-Some-clause-gathered : goal.search-returns-in-Some-clause-gathered
search-returns-in-Some-clause-gathered g t c =
    let s = c.args.stage in
    let i = c.in-Some.i in
    let b = c.args.hunt.now.body in
    let l = one_at b.literals.now i c.in-Some.ensures.found in
    IfOk-weaker c.search.result _ _
    (λ u h. gathered-without g.G.Gather.has g.G.Gather.covers (g.K.Knowledge.known c.args.known.now) b (g.T.TupleTest.passes c.args.hunt.now.test.now) c.args.hunt.now.arity s
    c.args.value c.args.gathered.now i l.0 c.in_ok-own.own c.and.result c.without.result c.search.new.gathered c.in-Some.ensures.pending l.1
    (c.in-Some.ensures.ground l.0 l.1) (c.in_ok-own.ensures.value l.0 l.1) c.without.ensures c.and.ensures h)
    c.search.ensures.gathered

pub search-search-requires : goal.search-search-requires
search-search-requires g t c =
    let k = g.K.Knowledge.known c.args.known.now in
    let arity = c.args.hunt.now.arity in
    let s = c.args.stage in
    let i = c.in-Some.i in
    let fewer : remaining c.without.result.unassigned c.without.result.pending + 1 ≤ remaining s.unassigned s.pending =
    subst (λ (r : Stage). remaining r.unassigned r.pending + 1 ≤ remaining s.unassigned s.pending) (sym c.without.ensures)
    (remaining-without s.unassigned s.pending i (omega (arith, c.in-Some.ensures.found, c.requires.sound.few_literals)) c.in-Some.ensures.pending) in
    let placed : IsPlaced k arity c.without.result = subst (IsPlaced k arity) (sym c.without.ensures)
    (record { elements = c.requires.placed.elements; parameters = c.requires.placed.parameters }) in
    λ κs ls. (search (rules, fewer), (ls.0, (ls.1.0, (ls.1.1, (c.requires.sound, (c.requires.few, (placed, c.in_ok-own.ensures.kept)))))))

pub search_on-search-requires : goal.search_on-search-requires
search_on-search-requires g t c =
    let k = g.K.Knowledge.known c.args.known.now in
    let arity = c.args.hunt.now.arity in
    let s = c.args.stage in
    let v = c.in-Some.next.variable in
    let candidates = c.in-Some.ensures.candidates in
    let full : IsFull s = record { elements = search rules; unassigned = search rules } in
    let within : c.loop-number.number < count c.in-Some.next.elements = omega (arith, c.count-number-end.ensures, c.loop-number-test.true) in
    let below : c.at-x.result < k.size = subst (λ (x : ℕ). x < k.size) (sym c.at-x.ensures) (element_at-below k.size c.in-Some.next.elements c.loop-number.number candidates.below within) in
    let placed : IsPlaced k arity c.with.result = subst (IsPlaced k arity) (sym c.with.ensures) (IsPlaced-with k arity s v c.at-x.result full candidates.variable below c.requires.placed) in
    let fewer : remaining c.with.result.unassigned c.with.result.pending + 1 ≤ remaining s.unassigned s.pending =
    subst (λ (r : Stage). remaining r.unassigned r.pending + 1 ≤ remaining s.unassigned s.pending) (sym c.with.ensures)
    (remaining-with s.unassigned s.pending v candidates.variable candidates.unassigned) in
    λ κs ls. (search (rules, fewer), (ls.0, (ls.1.0, (ls.1.1, (c.requires.sound, (c.requires.few, (placed, c.loop-number.invariant.kept)))))))

pub search_on-loop-number-preserved : goal.search_on-loop-number-preserved
search_on-loop-number-preserved g t c = record {
  kept = c.in_ok-search.ensures.kept;
  gathered = gathered-with g.G.Gather.has g.G.Gather.covers (g.K.Knowledge.known c.args.known.now) c.args.hunt.now.body (g.T.TupleTest.passes c.args.hunt.now.test.now) c.args.hunt.now.arity
      c.args.stage c.args.value c.args.gathered.now c.in-Some.next.variable c.in-Some.next.elements c.loop-number.number c.at-x.result c.value_with-more.result c.with.result
      c.loop-number.gathered c.search.new.gathered
      c.at-x.ensures c.with.ensures c.value_with-more.ensures c.loop-number.invariant.gathered c.in_ok-search.ensures.gathered;
}

pub search_on-returns-clause-gathered : goal.search_on-returns-clause-gathered
search_on-returns-clause-gathered g t c =
    let full : IsFull c.args.stage = record { elements = search rules; unassigned = search rules } in
    let few : c.loop-number.number ≤ c.count-number-end.result = search rules in
    gathered-with_all g.G.Gather.has g.G.Gather.covers (g.K.Knowledge.known c.args.known.now) c.args.hunt.now.body (g.T.TupleTest.passes c.args.hunt.now.test.now) c.args.hunt.now.arity
    c.args.stage c.args.value c.args.gathered.now c.in-Some.next.variable c.in-Some.next.elements c.loop-number.number c.loop-number.gathered full c.requires.few c.in-Some.ensures.candidates
    (omega (arith, few, c.loop-number-test.false, c.count-number-end.ensures)) c.loop-number.invariant.gathered
