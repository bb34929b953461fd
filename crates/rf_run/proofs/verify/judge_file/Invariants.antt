use Rattle.std.proofs.Common.{◌≡◌, ◌≤◌, ◌-◌, ◌+◌, ℕ, length}
use Rattle.rf_io.specs.Folder.{NoneFell, SameFiles}
use Rattle.rf_run.specs.Stages.{IsJudgedTo}
use Rattle.rf_run.specs.declared.refusal.TheConstants.{TREE_LIMIT}
use Rattle.rf_run.proofs.verify.judge_file.Given as goal

abbrev pub invariant-loop-count : goal.invariant-loop-count
invariant-loop-count g l = record {
  judged : IsJudgedTo (g.F.Folder.state l.initial.folder) l.name l.problem l.verifier l.at;
  same : SameFiles (g.F.Folder.state l.initial.folder) (g.F.Folder.state l.folder);
  later : NoneFell (g.F.Folder.state l.initial.folder) (g.F.Folder.state l.folder);
}

abbrev pub decreases-loop-count : goal.decreases-loop-count
decreases-loop-count g l = TREE_LIMIT + 1 - l.at
