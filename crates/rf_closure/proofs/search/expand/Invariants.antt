use Rattle.std.proofs.Common.{◌≡◌, ◌&&◌, ltb, vec_len}
use Rattle.rf_closure.specs.Marking.{Marking}
use Rattle.rf_closure.proofs.search.expand.Given as goal

abbrev pub invariant-loop-b : goal.invariant-loop-b
invariant-loop-b g l = record {
  len : vec_len l.marks ≡ g.E.Edges.size l.e;
  marks : Marking (g.E.Edges.size l.e) (λ k. ltb k l.b && g.E.Edges.edge l.e l.c k) l.initial.marks.items l.initial.stack.items l.marks.items l.stack.items;
}
