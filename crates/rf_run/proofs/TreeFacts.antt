-- What is known of verdicts on trees.
use Rattle.std.proofs.Common.{ℕ, List}
use Rattle.rf_check.proofs.VerdictLaws.{met_is_rejected, rejected_stays, verdict_is_of_lines, verdict_is_one}
use Rattle.rf_check.proofs.VerifierLemmas.{judged_meets_none}
use Rattle.rf_check.specs.Documents.{IsTreeVerdict}
use Rattle.rf_check.specs.declared.verdict.TreeVerdict.{TreeVerdict}
use Rattle.rf_check.specs.declared.verdict.TreeVerdict.TheVariants.{Refuted, Rejected, Unfinished}
use Rattle.rf_problem.specs.declared.problem.Problem.{Problem}
use Rattle.rf_soundness.proofs.Trees.{valid_is_sound}
use Rattle.rf_tree.specs.Document.{IsTreeDocument}
use Rattle.rf_tree.specs.declared.line.Line.{Line}
use Rattle.rf_run.specs.Answers.{IsRightTree}
use Rattle.rf_run.specs.TreeVerdict.{sign_of_tree}
use Rattle.rf_run.proofs.Trees.{TreeLaws}

-- what a verdict says of the lines of a document
lines_right :
    (p : Problem) (bytes : List ℕ) (lines : List Line) (v : TreeVerdict) → IsTreeDocument lines bytes → IsTreeVerdict p bytes v →
    IsRightTree p lines (sign_of_tree v)
lines_right p bytes lines (Refuted n) document is = ((verdict_is_of_lines p bytes lines n document).0 is).0
lines_right p bytes lines (Unfinished n) document is = (n, (verdict_is_of_lines p bytes lines n document).1 is)
lines_right p bytes lines (Rejected line) document is = (verdict_is_of_lines p bytes lines line document).2 is

pub tree_laws : (p : Problem) → TreeLaws p
tree_laws p = record {
  final = λ bytes line more met. met_is_rejected p bytes more line met;
  further = λ bytes line more met. rejected_stays p bytes more line met;
  apart = λ v bytes line judged met. judged_meets_none p v bytes line judged met;
  one = λ bytes v w is also. verdict_is_one p bytes v w is also;
  words = λ bytes lines v document is. lines_right p bytes lines v document is;
  sound = valid_is_sound p;
}
