use Rattle.std.proofs.Common.{◌≡◌, ◌<◌, ◌∙◌, ℕ, [], List, length, map, get_or, sym, arith}
use Rattle.std.proofs.lemmas.List.{length-map}
use Rattle.std.specs.declared.alloc.Global.{Global}
use Rattle.std.specs.declared.vec.Vec.{Vec}
use Rattle.rf_clause_rules.specs.declared.calls.PredicateCall.{PredicateCall}
use Rattle.rf_clause_rules.proofs.CallerLemmas.{mapped_at}
use Rattle.rf_clause_rules.proofs.RecursionLemmas.{recursion_more}
use Rattle.rf_clause_rules.proofs.recursion.least_in_calls.Goals as goal

pub least_back-requires : goal.least_back-requires
least_back-requires c =
    let count = c.requires.callers.count in
    let callers = length-map c.args.callers.now (λ (v : Vec ℕ Global). v.items) in
    let calls = length-map c.args.calls.now (λ (v : Vec PredicateCall Global). v.items) in
    omega arith

pub loop-number-preserved : goal.loop-number-preserved
loop-number-preserved c =
    let lists : List (List PredicateCall) =
    map (λ (v : Vec PredicateCall Global). v.items) c.args.calls.now in
    let long : length lists ≡ length c.args.calls.now =
    length-map c.args.calls.now (λ (v : Vec PredicateCall Global). v.items) in
    let below : c.loop-number.number < length lists = omega arith in
    let at : get_or lists c.loop-number.number [] ≡ c.as_slice.result.now =
    mapped_at (λ (v : Vec PredicateCall Global). v.items) c.args.calls.now c.loop-number.number
    c.index-calls-number.result c.loop-number-test.true c.index-calls-number.is
    ∙ sym c.as_slice.ensures.value in
    c.lesser-least.ensures
    ∙ recursion_more c.args.names.now.declared.now
    (map (λ (v : Vec ℕ Global). v.items) c.args.callers.now) lists c.requires.lists
    c.requires.callers
    c.loop-number.number c.as_slice.result.now _ _ below at c.loop-number.invariant
    c.in_ok-least_back.ensures
