use Rattle.std.proofs.Common.{◌+◌, vec_len, length, map}
use Rattle.rf_closure.specs.Along.{leads}
use Rattle.rf_closure.specs.Marking.{passes, unmarked_count}
use Rattle.rf_closure.proofs.PartialSearch.{IsPartialSearch}
use Rattle.rf_closure.proofs.along.search.Given as goal

abbrev pub invariant-loop-c : goal.invariant-loop-c
invariant-loop-c l = IsPartialSearch (length l.successors) (leads (map (λ list. list.items) l.successors)) (passes l.through) l.from l.marks.items l.stack.items

abbrev pub decreases-loop-c : goal.decreases-loop-c
decreases-loop-c l = unmarked_count l.marks.items + vec_len l.stack
