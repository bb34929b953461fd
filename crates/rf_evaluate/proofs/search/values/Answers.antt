use Rattle.std.proofs.Common.{◌≡◌, length, sym, subst}
use Rattle.std.specs.Vec.{vec_len}
use Rattle.std.proofs.lemmas.Iterator.Adapters.{fact_from_collect}
use Rattle.std.proofs.lemmas.Iterator.Consumers.{YieldsList-from_rest}
use Rattle.std.proofs.lemmas.Result.{IfOk-weaker}
use Rattle.rf_evaluate.specs.Search.{AreValuesFound}
use Rattle.rf_evaluate.proofs.FoundValues.{AreValuesFound-gathered}
use Rattle.rf_evaluate.proofs.search.values.Goals as goal

pub returns-clause-found : goal.returns-clause-found
returns-clause-found g c =
    let k = g.K.Knowledge.known c.args.known.now in
    let q = c.args.predicate in
    let passes = g.T.TupleTest.passes c.args.test.now in
    let after = c.search_predicate.new.gathered in
    let gives = c.into_iter.ensures.into_iter_gives in
    let found : AreValuesFound k q passes after.entries =
    AreValuesFound-gathered k q passes c.new-values.result after c.in_ok-search_predicate.ensures.gathered c.new-values.ensures.empty gives.5 in
    IfOk-weaker c.collect.result _ _
    (λ v e. subst (AreValuesFound k q passes) (sym e.0) found)
    (fact_from_collect (λ xs v. (v.items ≡ xs) × (vec_len v ≡ length xs)) c.collect.result c.collect.ensures.ran (YieldsList-from_rest after.entries gives.0))
