use Rattle.std.proofs.Common.{◌≡◌, ◌<◌, ◌∙◌, ℕ, [], List, length, map, get_or, sym, ap, arith}
use Rattle.std.proofs.lemmas.List.{length-map, length-replicate}
use Rattle.std.specs.declared.alloc.Global.{Global}
use Rattle.std.specs.declared.vec.Vec.{Vec}
use Rattle.rf_closure.specs.Along.{leads}
use Rattle.rf_clause_rules.specs.declared.calls.PredicateCall.{PredicateCall}
use Rattle.rf_clause_rules.proofs.CallerLemmas.{callers_more, mapped_at, no_callers}
use Rattle.rf_clause_rules.proofs.recursion.callers_of_each.Goals as goal

pub loop-caller-init : goal.loop-caller-init
loop-caller-init c = record {
  count = (let made = ap length c.in_ok-callers.ensures in
      let long = length-map c.in_ok-callers.callers.items (λ (v : Vec ℕ Global). v.items) in
      let none : List ℕ = [] in
      let few = length-replicate (length c.args.calls.now) none in omega arith);
  each = λ q p l. ap (λ ls. leads ls q p) c.in_ok-callers.ensures ∙ no_callers _ q p;
}

pub loop-caller-preserved : goal.loop-caller-preserved
loop-caller-preserved c =
    let lists : List (List PredicateCall) =
    map (λ (v : Vec PredicateCall Global). v.items) c.args.calls.now in
    let long : length lists ≡ length c.args.calls.now =
    length-map c.args.calls.now (λ (v : Vec PredicateCall Global). v.items) in
    let below : c.loop-caller.caller < length lists = omega arith in
    let at : get_or lists c.loop-caller.caller [] ≡ c.as_slice.result.now =
    mapped_at (λ (v : Vec PredicateCall Global). v.items) c.args.calls.now c.loop-caller.caller
    c.index-calls-caller.result c.loop-caller-test.true c.index-calls-caller.is
    ∙ sym c.as_slice.ensures.value in
    record {
      count = omega (arith, c.in_ok-add_calls.ensures.len, c.loop-caller.invariant.count);
      each = λ q p l. callers_more q p lists c.loop-caller.caller c.as_slice.result.now _ _ below
          at (c.loop-caller.invariant.each q p l)
          (c.in_ok-add_calls.ensures.lists q p (omega (arith, l, c.loop-caller.invariant.count)));
    }
