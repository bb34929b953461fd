use Rattle.std.proofs.Common.{◌+◌, vec_len}
use Rattle.rf_closure.specs.Marking.{unmarked_count}
use Rattle.rf_closure.proofs.PartialSearch.{IsPartialSearch}
use Rattle.rf_closure.proofs.search.reach.Given as goal

abbrev pub invariant-loop-c : goal.invariant-loop-c
invariant-loop-c g l = IsPartialSearch (g.E.Edges.size l.e) (g.E.Edges.edge l.e) (g.E.Edges.through l.e) l.from l.marks.items l.stack.items

abbrev pub decreases-loop-c : goal.decreases-loop-c
decreases-loop-c g l = unmarked_count l.marks.items + vec_len l.stack
