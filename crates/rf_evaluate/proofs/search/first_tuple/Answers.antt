use Rattle.rf_evaluate.specs.Gathering.{Either}
use Rattle.rf_evaluate.specs.Hunts.{IsMet}
use Rattle.rf_evaluate.specs.Search.{IsFound}
use Rattle.rf_evaluate.proofs.FoundValues.{IsFound-from_IsMet, IsMet-from_IsFound}
use Rattle.rf_evaluate.proofs.Gathered.{IsFirstOf-from_gathered}
use Rattle.rf_evaluate.proofs.search.first_tuple.Goals as goal

pub returns-clause-first : goal.returns-clause-first
returns-clause-first g c =
    let k = g.K.Knowledge.known c.args.known.now in
    let q = c.args.predicate in
    let passes = g.T.TupleTest.passes c.args.test.now in
    IsFirstOf-from_gathered (IsMet k q passes) (IsFound k q passes) c.search_predicate.new.gathered (λ t m. IsFound-from_IsMet k q passes t Either m) (IsMet-from_IsFound k q passes)
    c.in_ok-search_predicate.ensures.gathered
