use Rattle.std.proofs.Common.{◌≡◌, ◌<◌, [], ℕ, length, map, take, get_or, vec_len}
use Rattle.std.specs.List.{list_any}
use Rattle.rf_closure.specs.Along.{leads}
use Rattle.rf_clause_rules.specs.Calls.{is_call_of}
use Rattle.rf_clause_rules.proofs.recursion.callers_of_each.Given as goal

abbrev pub invariant-loop-caller : goal.invariant-loop-caller
invariant-loop-caller l = record {
  count : vec_len l.callers ≡ length l.calls;
  each : (q p : ℕ) → q < length l.calls → leads (map (λ list. list.items) l.callers.items) q p
      ≡ list_any (is_call_of q) (get_or (take l.caller (map (λ list. list.items) l.calls)) p []);
}
