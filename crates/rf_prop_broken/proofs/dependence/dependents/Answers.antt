use Rattle.std.proofs.Common.{◌≡◌, ◌≤◌, suc, Bool, List, length, map, refl, sym, ap, ◌∙◌, arith}
use Rattle.std.specs.Cmp.{booleans_Decides}
use Rattle.std.proofs.lemmas.Slice.Eq.{slice_eq-Decides}
use Rattle.rf_prop_broken.specs.Dependence.{depends, is_found, predicate_asks}
use Rattle.rf_prop_broken.specs.declared.dependence.Pair.{Pair as PairOf}
use Rattle.rf_prop_broken.proofs.RoundLemmas.{next_round, no_more}
use Rattle.rf_prop_broken.proofs.dependence.dependents.Goals as goal

pub loop-preserved : goal.loop-preserved
loop-preserved c =
    let predicates = c.args.problem.now.predicates in
    let at = c.in_ok-next.ensures ∙ ap (λ (xs : List Bool). map (predicate_asks c.of-pair.result (is_found xs)) predicates) c.as_slice.ensures.value in
    next_round predicates c.of-pair.result c.loop.found.items c.in_ok-next.next.items c.loop.counter at c.loop.invariant

pub returns-then-eq : goal.returns-then-eq
returns-then-eq c =
    let predicates = c.args.problem.now.predicates in
    let n = suc (length predicates) in
    let le : c.loop.counter ≤ n = omega (arith, c.loop-test.true, c.len-end.ensures) in
    let same : c.in_ok-next.next.items ≡ c.loop.found.items =
    (slice_eq-Decides booleans_Decides c.in_ok-next.next.items c.loop.found.items _ refl).0 (sym c.if-eq.ensures) in
    let at = c.in_ok-next.ensures ∙ ap (λ (xs : List Bool). map (predicate_asks c.of-pair.result (is_found xs)) predicates) c.as_slice.ensures.value in
    let more = next_round predicates c.of-pair.result c.loop.found.items c.in_ok-next.next.items c.loop.counter at c.loop.invariant in
    let whole = c.loop.invariant
    ∙ no_more predicates c.of-pair.result c.loop.counter n le (sym c.loop.invariant ∙ (ap (λ (xs : List Bool). is_found xs) (sym same) ∙ more)) in
    λ q. ap (λ f. f q) (whole ∙ ap (λ (pair : PairOf). depends predicates pair n) c.of-pair.ensures)

pub returns : goal.returns
returns c =
    let predicates = c.args.problem.now.predicates in
    let e : c.loop.counter ≡ suc (length predicates) = omega (arith, c.loop-test.false, c.loop.auto.counter-end, c.len-end.ensures) in
    λ q. ap (λ f. f q) (c.loop.invariant ∙ (ap (depends predicates c.of-pair.result) e ∙ ap (λ (pair : PairOf). depends predicates pair (suc (length predicates))) c.of-pair.ensures))
