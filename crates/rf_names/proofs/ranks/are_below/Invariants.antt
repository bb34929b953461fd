use Rattle.std.proofs.Common.{◌≡◌, true, take, get_or}
use Rattle.std.specs.Prelude.{nat_lt}
use Rattle.std.specs.List.{list_all}
use Rattle.rf_names.proofs.ranks.are_below.Given as goal

abbrev pub invariant-loop-vertex : goal.invariant-loop-vertex
invariant-loop-vertex l = list_all (λ q. nat_lt (get_or l.ranks q 0) l.rank) (take l.vertex-index l.vertices) ≡ true
