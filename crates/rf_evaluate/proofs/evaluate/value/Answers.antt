use Rattle.std.proofs.Common.{arith, length, ap, sym, ◌∙◌, ◌≡◌, subst, ℕ}
use Rattle.std.proofs.lemmas.Result.{IfOk-weaker}
use Rattle.rf_problem.specs.declared.problem.Problem.{Problem as ProblemOf}
use Rattle.rf_evaluate.specs.Evaluating.{IsWithin}
use Rattle.rf_evaluate.proofs.EvaluationSymbols.{AreElements-tuple, IsWithin-all, arity_of-few, value_of-same}
use Rattle.rf_evaluate.proofs.evaluate.value.Goals as goal

pub of_tuple-requires : goal.of_tuple-requires
of_tuple-requires g c = let few = arity_of-few (g.K.Knowledge.known c.args.known.now).problem c.args.symbol in omega (arith, c.requires.arity)

pub symbol_value-requires-clause-depth : goal.symbol_value-requires-clause-depth
symbol_value-requires-clause-depth g c =
    let p = (g.K.Knowledge.known c.args.known.now).problem in
    let depth : c.len-depth.result ≡ length p.predicates = c.len-depth.ensures ∙ ap (λ (q : ProblemOf). length q.predicates) c.problem.ensures in
    subst (λ (d : ℕ). IsWithin p.predicates d c.args.symbol) (sym depth) (IsWithin-all p c.args.symbol c.requires.declared)

pub symbol_value-requires-clause-elements : goal.symbol_value-requires-clause-elements
symbol_value-requires-clause-elements g c = AreElements-tuple c.of_tuple.result c.args.tuple.now _ c.of_tuple.ensures c.requires.elements

pub returns-clause-value : goal.returns-clause-value
returns-clause-value g c =
    let k = g.K.Knowledge.known c.args.known.now in
    IfOk-weaker c.symbol_value.result _ _ (λ v e. e ∙ value_of-same k c.args.symbol c.of_tuple.result c.args.tuple.now c.of_tuple.ensures) c.symbol_value.ensures.value
