-- What a document is as a tree of a problem.
use Rattle.std.specs.Prelude.{◌≡◌, ◌<◌, ◌⊎◌, ◌+◌, ◌-◌, ℕ, List, length}
use Rattle.rf_problem.specs.declared.problem.Problem.{Problem}
use Rattle.rf_tree.specs.Document.{IsTreeDocument}
use Rattle.rf_tree.specs.Lines.{CanStand, Open, Valid}
use Rattle.rf_tree.specs.Pending.{decisions_in}
use Rattle.rf_tree.specs.Reading.{BeginsTree, IsBad, IsReadTo, Stage, lines_in, texts_in}
use Rattle.rf_tree.specs.Verdicts.{IsFirstRefused}
use Rattle.rf_tree.specs.declared.line.Line.{Line}
use Rattle.rf_check.specs.declared.verdict.TreeVerdict.{TreeVerdict}
use Rattle.rf_check.specs.declared.verdict.TreeVerdict.TheVariants.{Refuted, Rejected, Unfinished}

-- the bytes have so many lines at least, and some document of lines that can stand begins with them
pub record BeginsStanding (p : Problem) (bytes : List ℕ) (count : ℕ) : Type 0 where
  pub document : BeginsTree bytes count
  pub stands : CanStand p document.lines

-- the first line, counted from 1, of which no document of lines that can stand begins with the lines so far; a line that is
-- missing counts, and a last line without a line feed is a line that no document has
pub record IsRejectedAt (p : Problem) (bytes : List ℕ) (line : ℕ) : Type 0 where
  pub none : (lines : List Line) → IsTreeDocument lines bytes → CanStand p lines → ⊥
  pub positive : 0 < line
  pub before : BeginsStanding p bytes (line - 1)
  pub here : BeginsStanding p bytes line → ⊥

-- the bytes are a document of valid lines, with so many decisions
pub record IsRefutation (p : Problem) (bytes : List ℕ) (decisions : ℕ) : Type 0 where
  pub lines : List Line
  pub document : IsTreeDocument lines bytes
  pub valid : Valid p lines
  pub counted : decisions ≡ decisions_in lines

-- the bytes are a document of open lines, with so many decisions
pub record IsUnfinished (p : Problem) (bytes : List ℕ) (decisions : ℕ) : Type 0 where
  pub lines : List Line
  pub document : IsTreeDocument lines bytes
  pub unfinished : Open p lines decisions

-- refuted, unfinished, or rejected
abbrev pub IsTreeVerdict : Problem → List ℕ → TreeVerdict → Type 0
IsTreeVerdict p bytes (Refuted n) = IsRefutation p bytes n
IsTreeVerdict p bytes (Unfinished n) = IsUnfinished p bytes n
IsTreeVerdict p bytes (Rejected line) = IsRejectedAt p bytes line

-- the line of the document of this number is the first of the tree's lines that can't stand; line 1 is the head
pub record IsRefusedAt (p : Problem) (lines : List Line) (line : ℕ) : Type 0 where
  pub number : ℕ
  pub first : IsFirstRefused p lines number
  pub line_is : line ≡ number + 2

-- a rejected line is met in the bytes, whatever comes after them: of the lines of the tree that were read the first that
-- can't stand, or, where all can, a bad line of the document
pub record MeetsRejected (p : Problem) (bytes : List ℕ) (line : ℕ) : Type 0 where
  pub stage : Stage
  pub rest : List ℕ
  pub read : IsReadTo bytes stage rest
  pub rejected :
      IsRefusedAt p (lines_in stage) line
      ⊎ (CanStand p (lines_in stage) × IsBad stage rest × (line ≡ length (texts_in stage) + 1))
