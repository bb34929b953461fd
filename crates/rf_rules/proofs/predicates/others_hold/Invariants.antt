use Rattle.std.proofs.Common.{◌≡◌, drop, slice_index}
use Rattle.rf_rules.specs.Predicates.{clause_at, others_hold}
use Rattle.rf_rules.proofs.predicates.others_hold.Given as goal

abbrev pub invariant-loop-i : goal.invariant-loop-i
invariant-loop-i g l = record {
  facts : l.evaluator.facts.now ≡ l.view;
  so_far :
      others_hold (g.F.Facts.problem l.view) (g.F.Facts.state l.view) (clause_at (g.F.Facts.problem l.view) l.q l.k).variables l.j 0 (slice_index l.places) (clause_at (g.F.Facts.problem l.view) l.q l.k).literals
      ≡ others_hold (g.F.Facts.problem l.view) (g.F.Facts.state l.view) (clause_at (g.F.Facts.problem l.view) l.q l.k).variables l.j l.i (slice_index l.places) (drop l.i (clause_at (g.F.Facts.problem l.view) l.q l.k).literals);
}
