-- The laws of verdicts.
use Rattle.std.proofs.Common.{◌≡◌, ◌-◌, ◌<◌, ◌≤◌, ◌++◌, ℕ, Some, List, [], ◌∷◌, inl, inr, sym, ap, subst, ◌∙◌, arith}
use Rattle.std.proofs.lemmas.Bool.{cases_order}
use Rattle.rf_problem.specs.declared.problem.Problem.{Problem}
use Rattle.rf_state.specs.State.{State}
use Rattle.rf_tree.specs.Lines.{Open, Valid}
use Rattle.rf_tree.specs.Pending.{decisions_in}
use Rattle.rf_tree.specs.declared.line.Line.{Line}
use Rattle.rf_tree.proofs.DocumentLemmas.{begins_fewer}
use Rattle.rf_tree.proofs.ReaderLemmas.{bad_before, read_before}
use Rattle.rf_tree.proofs.StopLemmas.{document_once}
use Rattle.rf_tree.proofs.TreeLaws.{open_is_computed, valid_is_computed}
use Rattle.rf_check.specs.Documents.{BeginsStanding, IsRejectedAt, MeetsRejected}
use Rattle.rf_check.specs.Laws.{MetIsRejected, RejectedStays, VerdictIsOfLines, VerdictIsOne}
use Rattle.rf_check.specs.declared.verdict.TreeVerdict.TheVariants.{Refuted, Rejected, Unfinished}
use Rattle.rf_check.proofs.RejectedLemmas.{rejected-bad, rejected-line}

-- fewer lines begin a document of lines that can stand where more do
begins-fewer : (p : Problem) (bytes : List ℕ) (few many : ℕ) → few ≤ many → BeginsStanding p bytes many → BeginsStanding p bytes few
begins-fewer p bytes few many le b = record { document = begins_fewer bytes few many le b.document; stands = b.stands }

rejected-least : (p : Problem) (bytes : List ℕ) (j k : ℕ) → IsRejectedAt p bytes j → IsRejectedAt p bytes k → j < k → ⊥
rejected-least p bytes j k one other less = one.here (begins-fewer p bytes j (k - 1) (omega arith) other.before)

rejected-unique : (p : Problem) (bytes : List ℕ) (j k : ℕ) → IsRejectedAt p bytes j → IsRejectedAt p bytes k → j ≡ k
rejected-unique p bytes j k one other = elim (cases_order j k) [
  | inl same ↦ same
  | inr apart ↦ elim apart [
    | inl less ↦ absurd (rejected-least p bytes j k one other less)
    | inr more ↦ absurd (rejected-least p bytes k j other one more)
  ]
]

valid-not_open : (p : Problem) (lines : List Line) (n : ℕ) → Valid p lines → Open p lines n → ⊥
valid-not_open p lines n v o =
    let left = (open_is_computed p v.root lines n v.is_root).0 o in
    let empty = (valid_is_computed p v.root lines v.is_root).0 v in
    none (sym empty ∙ left.2)
  where
    none : {first : State} {rest : List State} → Some [] ≡ Some (first ∷ rest) → ⊥
    none e = cc

open-decisions : (p : Problem) (lines : List Line) (n : ℕ) → Open p lines n → n ≡ decisions_in lines
open-decisions p lines n o = ((open_is_computed p o.root lines n o.is_root).0 o).3

pub verdict_is_of_lines : VerdictIsOfLines
verdict_is_of_lines p bytes lines n document = (
  λ r. (let same : r.lines ≡ lines = document_once r.lines lines bytes r.document document in
      (subst (Valid p) same r.valid, r.counted ∙ ap decisions_in same)),
  λ u. subst (λ ls. Open p ls n) (document_once u.lines lines bytes u.document document) u.unfinished,
  λ r stands. r.none lines document stands,
)

pub verdict_is_one : VerdictIsOne
verdict_is_one p bytes (Refuted n) (Refuted m) v w =
    let same : v.lines ≡ w.lines = document_once v.lines w.lines bytes v.document w.document in
    ap Refuted (v.counted ∙ (ap decisions_in same ∙ sym w.counted))
verdict_is_one p bytes (Refuted n) (Unfinished m) v w =
    absurd (valid-not_open p v.lines m v.valid ((verdict_is_of_lines p bytes v.lines m v.document).1 w))
verdict_is_one p bytes (Refuted n) (Rejected m) v w = absurd (w.none v.lines v.document (inl v.valid))
verdict_is_one p bytes (Unfinished n) (Refuted m) v w =
    absurd (valid-not_open p w.lines n w.valid ((verdict_is_of_lines p bytes w.lines n w.document).1 v))
verdict_is_one p bytes (Unfinished n) (Unfinished m) v w =
    let same : v.lines ≡ w.lines = document_once v.lines w.lines bytes v.document w.document in
    ap Unfinished (open-decisions p v.lines n v.unfinished ∙ (ap decisions_in same ∙ sym (open-decisions p w.lines m w.unfinished)))
verdict_is_one p bytes (Unfinished n) (Rejected m) v w = absurd (w.none v.lines v.document (inr (n, v.unfinished)))
verdict_is_one p bytes (Rejected n) (Refuted m) v w = absurd (v.none w.lines w.document (inl w.valid))
verdict_is_one p bytes (Rejected n) (Unfinished m) v w = absurd (v.none w.lines w.document (inr (m, w.unfinished)))
verdict_is_one p bytes (Rejected n) (Rejected m) v w = ap Rejected (rejected-unique p bytes n m v w)

-- what is read, and what is bad, is so whatever comes after it
pub rejected_stays : RejectedStays
rejected_stays p bytes more line met = record {
  stage = met.stage;
  rest = met.rest ++ more;
  read = read_before bytes more met.stage met.rest met.read;
  rejected = elim met.rejected [
    | inl first ↦ inl first
    | inr bad ↦ inr (bad.0, bad_before met.stage met.rest more bad.1, bad.2)
  ];
}

met-rejected : (p : Problem) (bytes : List ℕ) (line : ℕ) → MeetsRejected p bytes line → IsRejectedAt p bytes line
met-rejected p bytes line met = elim met.rejected [
  | inl first ↦ subst (IsRejectedAt p bytes) (sym first.line_is) (rejected-line p bytes met.stage met.rest first.number met.read first.first)
  | inr bad ↦ subst (IsRejectedAt p bytes) (sym bad.2) (rejected-bad p bytes met.stage met.rest met.read bad.0 bad.1)
]

pub met_is_rejected : MetIsRejected
met_is_rejected p bytes more line met = met-rejected p (bytes ++ more) line (rejected_stays p bytes more line met)
