-- What follows of rejected lines from what was read and checked.
use Rattle.std.proofs.Common.{◌≡◌, ◌++◌, ℕ, List, inl, inr, sym, subst}
use Rattle.rf_problem.specs.declared.problem.Problem.{Problem}
use Rattle.rf_tree.specs.Readers.{HasRead}
use Rattle.rf_tree.specs.Lines.{CanStand}
use Rattle.rf_tree.specs.Reading.{HasLines, MeetsBadLine}
use Rattle.rf_tree.specs.declared.line.Line.{Line}
use Rattle.rf_tree.specs.declared.reader.TreeReader.{TreeReader}
use Rattle.rf_tree.proofs.PrefixLemmas.{refused-not_standing}
use Rattle.rf_tree.proofs.StopLemmas.{lines_of_bytes}
use Rattle.rf_check.specs.Documents.{IsRefusedAt, MeetsRejected}
use Rattle.rf_check.specs.Laws.{JudgedMeetsNone}
use Rattle.rf_check.proofs.RejectedLemmas.{read-stands}

pub has_lines : (r : TreeReader) (bytes : List ℕ) (lines : List Line) → HasRead r bytes lines → HasLines bytes lines
has_lines r bytes lines h = lines_of_bytes r.lines bytes lines h.follows

-- the same reader, and the same lines
pub read-same : (r s : TreeReader) (bytes : List ℕ) (lines xs ys : List Line) → s ≡ r → ys ≡ xs → HasRead r bytes (lines ++ xs)
    → HasRead s bytes (lines ++ ys)
read-same r s bytes lines xs ys reader more read = subst (λ r. HasRead r bytes (lines ++ ys)) (sym reader)
    (subst (λ zs. HasRead r bytes (lines ++ zs)) (sym more) read)

pub meets-line : (p : Problem) (bytes : List ℕ) (lines : List Line) (line : ℕ) → HasLines bytes lines → IsRefusedAt p lines line
    → MeetsRejected p bytes line
meets-line p bytes lines line has refused = record {
  stage = has.stage;
  rest = has.rest;
  read = has.read;
  rejected = inl (subst (λ ls. IsRefusedAt p ls line) has.given refused);
}

pub meets-bad : (p : Problem) (bytes : List ℕ) (lines : List Line) (line : ℕ) → HasLines bytes lines → CanStand p lines → MeetsBadLine bytes line
    → MeetsRejected p bytes line
meets-bad p bytes lines line has stands met = record {
  stage = met.stage;
  rest = met.rest;
  read = met.read;
  rejected = inr (read-stands p bytes lines met.stage met.rest has stands met.read, met.bad, met.number);
}

meets-none : (p : Problem) (bytes : List ℕ) (lines : List Line) (line : ℕ) → HasLines bytes lines → CanStand p lines
    → (MeetsBadLine bytes line → ⊥) → MeetsRejected p bytes line → ⊥
meets-none p bytes lines line has stands good met = elim met.rejected [
  | inl k ↦ refused-not_standing p _ k.number k.first (read-stands p bytes lines met.stage met.rest has stands met.read)
  | inr k ↦ good record { stage = met.stage; rest = met.rest; read = met.read; bad = k.1; number = k.2 }
]

pub judged_meets_none : JudgedMeetsNone
judged_meets_none p v bytes line judged met =
    meets-none p bytes judged.lines line (has_lines v.reader bytes judged.lines judged.read) judged.stands (judged.good line) met
