use Rattle.std.proofs.Common.{◌≡◌, List, ◌++◌}
use Rattle.rf_tree.specs.declared.line.Line.{Line}
use Rattle.rf_search.specs.Knowledge.{IsKnown}
use Rattle.rf_search.specs.Rank.{rank}
use Rattle.rf_search.specs.Settled.{Steps}
use Rattle.rf_search.proofs.settling.settle_known.Given as goal

abbrev pub invariant-loop-rule : goal.invariant-loop-rule
invariant-loop-rule g l = record {
  problem : g.E.Facts.problem l.edit ≡ g.E.Facts.problem l.initial.edit;
  kept : g.E.Edit.kept l.edit ≡ g.E.Edit.kept l.initial.edit;
  known : IsKnown (g.E.Facts.problem l.edit) (g.E.Facts.state l.edit) l.knowledge;
  steps : (new : List Line) × (l.lines.items ≡ l.initial.lines.items ++ new) × Steps (g.E.Facts.problem l.initial.edit) (g.E.Facts.state l.initial.edit) new (g.E.Facts.state l.edit);
}

abbrev pub decreases-loop-rule : goal.decreases-loop-rule
decreases-loop-rule g l = rank (g.E.Facts.problem l.edit) (g.E.Facts.state l.edit)
