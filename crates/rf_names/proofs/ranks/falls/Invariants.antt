use Rattle.std.proofs.Common.{◌≡◌, ◌<◌, ℕ, true, map, get_or}
use Rattle.rf_closure.specs.Along.{leads}
use Rattle.rf_names.proofs.ranks.falls.Given as goal

abbrev pub invariant-loop-vertex : goal.invariant-loop-vertex
invariant-loop-vertex l =
    (p : ℕ) → p < l.vertex → (q : ℕ) → leads (map (λ list. list.items) l.successors) p q ≡ true →
    get_or l.ranks q 0 < get_or l.ranks p 0
