use Rattle.std.proofs.Common.{refl}
use Rattle.std.proofs.lemmas.Result.{IfOk-weaker}
use Rattle.rf_problem.specs.Parts.{arity_of}
use Rattle.rf_problem.specs.declared.symbol.Symbol.TheVariants.{Predicate}
use Rattle.rf_satisfy.proofs.KnownLemmas.{first-excess}
use Rattle.rf_satisfy.proofs.kinds.excess.first_denied.Goals as goal

pub returns-clause-first : goal.returns-clause-first
returns-clause-first c =
    let p = c.args.index.now.problem in
    IfOk-weaker c.first_tuple.result _ _
    (λ t h. first-excess p c.args.index.now.graph c.args.predicate (arity_of p.predicates (Predicate c.args.predicate)) refl t h)
    c.first_tuple.ensures.first
