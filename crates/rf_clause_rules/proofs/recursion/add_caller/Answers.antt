use Rattle.std.proofs.Common.{◌<◌, ℕ, length, arith}
use Rattle.std.specs.declared.alloc.Global.{Global}
use Rattle.std.specs.declared.vec.Vec.{Vec}
use Rattle.rf_clause_rules.proofs.CallerLemmas.{caller_put}
use Rattle.rf_clause_rules.proofs.recursion.add_caller.Goals as goal

pub returns-clause-lists : goal.returns-clause-lists
returns-clause-lists c =
    let below : c.args.called < length c.args.callers.now.items = omega arith in
    caller_put (λ (v : Vec ℕ Global). v.items) c.args.callers.now.items c.args.called c.args.caller
    c.index_mut.result.now c.push.new.self below c.index_mut.ensures.value
    c.in_ok-push.ensures.items
