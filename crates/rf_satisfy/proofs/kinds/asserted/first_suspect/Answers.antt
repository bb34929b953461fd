use Rattle.std.proofs.Common.{length}
use Rattle.std.proofs.lemmas.Result.{IfOk-weaker}
use Rattle.rf_problem.specs.Parts.{arity_of}
use Rattle.rf_graph.specs.Graph.{size_of}
use Rattle.rf_satisfy.specs.Suspects.{is_suspect}
use Rattle.rf_satisfy.proofs.TupleLemmas.{IsFirst-from_first_passing}
use Rattle.rf_satisfy.proofs.SuspectLemmas.{first_passing-from_start}
use Rattle.rf_satisfy.proofs.kinds.asserted.first_suspect.Goals as goal

pub returns-clause-first : goal.returns-clause-first
returns-clause-first c =
    let p = c.args.index.now.problem in
    let g = c.args.index.now.graph in
    let test = is_suspect p g c.args.symbol c.args.args.now c.args.value in
    IfOk-weaker c.first_from.result _ _
    (λ t e. IsFirst-from_first_passing (size_of g) (arity_of p.predicates c.args.symbol) test t
    (first_passing-from_start (size_of g) (length c.args.args.now) (arity_of p.predicates c.args.symbol) test t c.requires.arity e))
    (rw c.of.ensures at c.first_from.ensures.value)
