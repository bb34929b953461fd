use Rattle.std.proofs.Common.{◌≡◌, ◌==◌, take, vec_len}
use Rattle.std.specs.List.{list_any}
use Rattle.rf_closure.specs.Marking.{Marking}
use Rattle.rf_closure.proofs.along.mark_listed.Given as goal

abbrev pub invariant-loop-b : goal.invariant-loop-b
invariant-loop-b l = record {
  len : vec_len l.marks ≡ vec_len l.initial.marks;
  marks : Marking (vec_len l.initial.marks) (λ b. list_any (λ c. c == b) (take l.b-index l.vertices))
      l.initial.marks.items l.initial.stack.items l.marks.items l.stack.items;
}
