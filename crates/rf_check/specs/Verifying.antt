-- What a verifier knows after the bytes that it was fed.
use Rattle.std.specs.Prelude.{ℕ, List}
use Rattle.rf_problem.specs.declared.problem.Problem.{Problem}
use Rattle.rf_tree.specs.Lines.{CanStand}
use Rattle.rf_tree.specs.Readers.{HasRead, fed as bytes_fed}
use Rattle.rf_tree.specs.Reading.{MeetsBadLine}
use Rattle.rf_tree.specs.declared.line.Line.{Line}
use Rattle.rf_check.specs.Checking.{HasChecked}
use Rattle.rf_check.specs.declared.verifier.TreeVerifier.{TreeVerifier}

-- the verifier was made for this problem and fed these bytes, had the memory for them, and met no rejected line: the lines
-- that were read can stand, and no line is bad
pub record HasJudged (p : Problem) (v : TreeVerifier) (bytes : List ℕ) : Type 0 where
  pub lines : List Line
  pub read : HasRead v.reader bytes lines
  pub checked : HasChecked p v.checker lines
  pub stands : CanStand p lines
  pub good : (line : ℕ) → MeetsBadLine bytes line → ⊥

-- how many bytes it was fed
abbrev pub fed : TreeVerifier → ℕ
fed v = bytes_fed v.reader
