use Rattle.std.proofs.Common.{◌≡◌, ◌<◌, ℕ, map, take, vec_len}
use Rattle.std.specs.Prelude.{◌==◌, ◌&&◌, ◌||◌}
use Rattle.std.specs.List.{list_any}
use Rattle.rf_closure.specs.Along.{leads}
use Rattle.rf_clause_rules.specs.Calls.{is_call_of}
use Rattle.rf_clause_rules.proofs.recursion.add_calls.Given as goal

abbrev pub invariant-loop-call : goal.invariant-loop-call
invariant-loop-call l = record {
  len : vec_len l.callers ≡ vec_len l.initial.callers;
  lists : (q p : ℕ) → q < vec_len l.initial.callers →
      leads (map (λ list. list.items) l.callers.items) q p ≡
      (leads (map (λ list. list.items) l.initial.callers.items) q p
      || ((l.caller == p) && list_any (is_call_of q) (take l.call-index l.calls)));
}
