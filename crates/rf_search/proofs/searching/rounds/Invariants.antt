use Rattle.std.proofs.Common.{◌≡◌, ◌+◌, ◌*◌, ◌-◌, vec_len}
use Rattle.rf_decide.specs.Words.{HasTaken}
use Rattle.rf_search.specs.Knowledge.{IsKnown}
use Rattle.rf_search.specs.Stack.{IsRooted, IsSearching}
use Rattle.rf_search.proofs.searching.rounds.Given as goal

abbrev pub invariant-loop-untried : goal.invariant-loop-untried
invariant-loop-untried g l = record {
  problem : g.T.Facts.problem l.t ≡ g.T.Facts.problem l.initial.t;
  known : IsKnown (g.T.Facts.problem l.t) (g.T.Facts.state l.t) l.knowledge;
  rooted : IsRooted (g.T.Facts.state l.initial.t) (g.T.Edit.kept l.t);
  taken : HasTaken l.seed l.made l.words;
  searching : IsSearching (g.T.Facts.problem l.initial.t) l.seed l.budget (g.T.Facts.state l.initial.t) l.made l.lines.items (g.T.Facts.state l.t) (g.T.Edit.kept l.t) l.untried.items;
}

abbrev pub decreases-loop-untried : goal.decreases-loop-untried
decreases-loop-untried g l = 2 * (l.budget - l.made) + vec_len l.untried
