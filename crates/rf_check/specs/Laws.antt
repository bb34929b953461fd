-- What holds of verdicts, and of rejected lines that are met.
use Rattle.std.specs.Prelude.{◌≡◌, ◌++◌, ℕ, List}
use Rattle.rf_problem.specs.declared.problem.Problem.{Problem}
use Rattle.rf_tree.specs.Document.{IsTreeDocument}
use Rattle.rf_tree.specs.Lines.{CanStand, Open, Valid}
use Rattle.rf_tree.specs.Pending.{decisions_in}
use Rattle.rf_tree.specs.declared.line.Line.{Line}
use Rattle.rf_check.specs.Documents.{IsRejectedAt, IsTreeVerdict, MeetsRejected}
use Rattle.rf_check.specs.Verifying.{HasJudged}
use Rattle.rf_check.specs.declared.verdict.TreeVerdict.{TreeVerdict}
use Rattle.rf_check.specs.declared.verdict.TreeVerdict.TheVariants.{Refuted, Rejected, Unfinished}
use Rattle.rf_check.specs.declared.verifier.TreeVerifier.{TreeVerifier}

-- bytes are one thing as a tree
abbrev pub VerdictIsOne : Type 0
VerdictIsOne = (p : Problem) (bytes : List ℕ) (v w : TreeVerdict) → IsTreeVerdict p bytes v → IsTreeVerdict p bytes w → v ≡ w

-- what the verdict on a document says of its lines
abbrev pub VerdictIsOfLines : Type 0
VerdictIsOfLines =
    (p : Problem) (bytes : List ℕ) (lines : List Line) (n : ℕ) → IsTreeDocument lines bytes
    → (IsTreeVerdict p bytes (Refuted n) → Valid p lines × (n ≡ decisions_in lines))
    × (IsTreeVerdict p bytes (Unfinished n) → Open p lines n)
    × (IsTreeVerdict p bytes (Rejected n) → CanStand p lines → ⊥)

-- a rejected line that is met is the rejected line, whatever comes after the bytes, and it is met there too
abbrev pub RejectedStays : Type 0
RejectedStays =
    (p : Problem) (bytes more : List ℕ) (line : ℕ) → MeetsRejected p bytes line → MeetsRejected p (bytes ++ more) line

abbrev pub MetIsRejected : Type 0
MetIsRejected =
    (p : Problem) (bytes more : List ℕ) (line : ℕ) → MeetsRejected p bytes line → IsRejectedAt p (bytes ++ more) line

-- where none was met, none is
abbrev pub JudgedMeetsNone : Type 0
JudgedMeetsNone =
    (p : Problem) (v : TreeVerifier) (bytes : List ℕ) (line : ℕ) → HasJudged p v bytes → MeetsRejected p bytes line → ⊥
