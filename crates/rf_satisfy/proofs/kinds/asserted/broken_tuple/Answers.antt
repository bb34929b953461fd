use Rattle.rf_problem.specs.Parts.{arity_of}
use Rattle.rf_graph.specs.Graph.{size_of}
use Rattle.rf_satisfy.proofs.BrokenLemmas.{broken-first}
use Rattle.rf_satisfy.proofs.kinds.asserted.broken_tuple.Goals as goal

pub returns-clause-first : goal.returns-clause-first
returns-clause-first c =
    let p = c.args.index.now.problem in
    let g = c.args.index.now.graph in
    rw (c.earlier-2.ensures, c.earlier.ensures)
    (broken-first p g c.args.symbol c.args.numbers.now c.requires.numbers (size_of g) (arity_of p.predicates c.args.symbol)
    c.in_ok-denied.denied c.in_ok-stray.stray c.in_ok-lack.lack c.in_ok-denied.ensures.first c.in_ok-stray.ensures.first c.in_ok-lack.ensures.first)
