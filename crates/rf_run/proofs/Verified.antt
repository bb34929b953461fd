-- `verify` after its problem: its answer, and where the file has none.
use Rattle.std.proofs.Common.{◌≡◌, ◌∙◌, ◌⊎◌, ◌<◌, ◌≤◌, ℕ, List, Some, Err, IfOk, IsErr, MatchResult, length, take, refl, sym, ap, subst, inl, inr, arith}
use Rattle.rf_check.specs.Documents.{IsTreeVerdict, MeetsRejected}
use Rattle.rf_check.specs.declared.verdict.TreeVerdict.{TreeVerdict}
use Rattle.rf_check.specs.declared.verdict.TreeVerdict.TheVariants.{Refuted, Rejected, Unfinished}
use Rattle.rf_graph.specs.Violations.{Sat}
use Rattle.rf_graph.specs.declared.graph.Graph.{Graph}
use Rattle.rf_io.specs.Folder.{FolderState, IsMissing, ReadFailed}
use Rattle.rf_problem.specs.declared.problem.Problem.{Problem}
use Rattle.rf_words.specs.declared.request.Command.TheVariants.{Verify}
use Rattle.rf_run.specs.Answers.{IsRight, IsRightTree}
use Rattle.rf_run.specs.Ends.{NoReadFailed, second_name}
use Rattle.rf_run.specs.Leaves.{IsRightEnd}
use Rattle.rf_run.specs.Stages.{EndsAfter, EndsOn, IsJudgedFile, IsLongTree, IsStoredSecond, ReadOfSecondFailed, end_of_stop}
use Rattle.rf_run.specs.TreeVerdict.{sign_of_tree, tree_verdict_text}
use Rattle.rf_run.specs.declared.end.Cut.{Cut}
use Rattle.rf_run.specs.declared.end.Cut.TheVariants.{ReadFault, Memory}
use Rattle.rf_run.specs.declared.end.End.{End}
use Rattle.rf_run.specs.declared.end.End.TheVariants.{Usage, Refused as EndsRefused, Answered}
use Rattle.rf_run.specs.declared.end.Reply.{Reply}
use Rattle.rf_run.specs.declared.end.Sign.TheVariants.{Yes}
use Rattle.rf_run.specs.declared.refusal.Refusal.{Refusal}
use Rattle.rf_run.specs.declared.refusal.Refusal.TheVariants.{TooLong, Problem as NoProblem, BadLine}
use Rattle.rf_run.specs.declared.refusal.TheConstants.{TREE_LIMIT}
use Rattle.rf_run.specs.declared.stop.Stop.{Stop}
use Rattle.rf_run.specs.declared.stop.Stop.TheVariants.{Refused, Cut as WasCut}
use Rattle.rf_run.proofs.Stores.{read_told, told_stored, told_there}
use Rattle.rf_run.proofs.Trees.{TreeLaws}

-- the reply prints this verdict
pub record IsPrinted (reply : Reply) (v : TreeVerdict) : Type 0 where
  pub text : reply.text ≡ tree_verdict_text v
  pub sign : reply.sign ≡ sign_of_tree v

module _ (p : Problem) (limit : ℕ) (bytes second : List ℕ) where
  -- what is so of the bytes of a file is so of the bytes that it has
  within_same :
      bytes ≡ second → (length bytes ≤ limit) ⊎ ((line : ℕ) × MeetsRejected p (take limit bytes) line) →
      (length second ≤ limit) ⊎ ((line : ℕ) × MeetsRejected p (take limit second) line)
  within_same same within = subst (λ b. (length b ≤ limit) ⊎ ((line : ℕ) × MeetsRejected p (take limit b) line)) same within

  long_same : bytes ≡ second → limit < length bytes → length second ≤ limit → ⊥
  long_same same long short = let longer : limit < length second = subst (λ b. limit < length b) same long in omega (arith, longer, short)

  stands_same :
      bytes ≡ second → ((line : ℕ) → MeetsRejected p (take limit bytes) line → ⊥) → (line : ℕ) → MeetsRejected p (take limit second) line → ⊥
  stands_same same stands = subst (λ b. (line : ℕ) → MeetsRejected p (take limit b) line → ⊥) same stands

module _ (m : FolderState) (file tree : List ℕ) (p : Problem) where
  pub verdict_ended : (v : TreeVerdict) (reply : Reply) → IsJudgedFile m tree p v → IsPrinted reply v → EndsAfter m (Verify file tree) p (Answered reply)
  verdict_ended v reply judged printed = record {
    second = judged.bytes;
    told = read_told m (second_name (Verify file tree)) tree judged.bytes refl judged.told;
    ends = record { verdict = v; judged = judged.judged; within = judged.within; text = printed.text; sign = printed.sign };
  }

  pub verdict_right :
      (v : TreeVerdict) (reply : Reply) → TreeLaws p → IsJudgedFile m tree p v → IsPrinted reply v → (second : List ℕ) →
      IsStoredSecond m (Verify file tree) second → IsRight (Verify file tree) p second reply
  verdict_right v reply laws judged printed second stored = record {
    lines = λ lines document. subst (IsRightTree p lines) (sym printed.sign) (laws.words second lines v document (subst (λ b. IsTreeVerdict p b v) same judged.judged));
    no_graph = λ is. refuted v judged.judged (sym printed.sign ∙ is);
  }
    where
      same : judged.bytes ≡ second
      same = told_stored m tree judged.bytes second judged.told stored.stored

      refuted : (w : TreeVerdict) → IsTreeVerdict p judged.bytes w → sign_of_tree w ≡ Yes → (g : Graph) → Sat p g → ⊥
      refuted (Refuted n) is said = laws.sound is.lines is.valid
      refuted (Unfinished n) is said = absurd cc
      refuted (Rejected line) is said = absurd cc

  pub verdict_there : (v : TreeVerdict) → IsJudgedFile m tree p v → (name : List ℕ) → second_name (Verify file tree) ≡ Some name → IsMissing m name → ⊥
  verdict_there v judged name named missing =
      let names : name ≡ tree = cc in
      told_there m tree judged.bytes judged.told (subst (IsMissing m) names missing)

  same_reply : (v w : TreeVerdict) (reply other : Reply) → v ≡ w → IsPrinted reply v → IsPrinted other w → reply ≡ other
  same_reply v w reply other is printed also =
      let text : reply.text ≡ other.text = printed.text ∙ (ap tree_verdict_text is ∙ sym also.text) in
      let sign : reply.sign ≡ other.sign = printed.sign ∙ (ap sign_of_tree is ∙ sym also.sign) in
      λ i. record { text = text i; sign = sign i }

  pub verdict_complete :
      (v : TreeVerdict) (reply : Reply) → TreeLaws p → IsJudgedFile m tree p v → IsPrinted reply v → (second : List ℕ) (end : End) →
      EndsOn (Verify file tree) p second end → IsStoredSecond m (Verify file tree) second → Answered reply ≡ end
  verdict_complete v reply laws judged printed second end ends stored = by_case end ends
    where
      same : judged.bytes ≡ second
      same = told_stored m tree judged.bytes second judged.told stored.stored

      here : IsTreeVerdict p second v
      here = subst (λ b. IsTreeVerdict p b v) same judged.judged

      by_case : (end : End) → EndsOn (Verify file tree) p second end → Answered reply ≡ end
      by_case Usage ends = absurd ends
      by_case (EndsRefused (TooLong sort)) ends = elim (within_same p TREE_LIMIT judged.bytes second same judged.within) [
        | inl short ↦ absurd (long_same p TREE_LIMIT second second refl ends.0.1 short)
        | inr met ↦ absurd (ends.1 met.0 met.1)
      ]
      by_case (EndsRefused (NoProblem fault)) ends = absurd ends
      by_case (EndsRefused (BadLine sort line)) ends = absurd ends
      by_case (Answered a) ends =
          let one : v ≡ ends.verdict = laws.one second v ends.verdict here ends.judged in
          ap Answered (same_reply v ends.verdict reply a one printed (record { text = ends.text; sign = ends.sign }))

  -- the tree isn't judged, for this cause
  pub record IsUnjudged (n : FolderState) (stop : Stop) : Type 0 where
    pub refused : (r : Refusal) → stop ≡ Refused r → IsLongTree m tree p r
    pub fault : stop ≡ WasCut ReadFault → ReadFailed m n tree

  pub unjudged_ended : (n : FolderState) (stop : Stop) → IsUnjudged n stop → IfOk (end_of_stop stop) (EndsAfter m (Verify file tree) p)
  unjudged_ended n (WasCut cut) known = tt
  unjudged_ended n (Refused r) known =
      let long = known.refused r refl in
      record {
        second = long.bytes;
        told = read_told m (second_name (Verify file tree)) tree long.bytes refl long.told;
        ends = subst (λ x. EndsOn (Verify file tree) p long.bytes (EndsRefused x)) (sym long.refusal) ((refl, long.long), long.stands);
      }

  pub unjudged_fault : (n : FolderState) (stop : Stop) → IsUnjudged n stop → end_of_stop stop ≡ Err ReadFault → ReadOfSecondFailed m n (Verify file tree)
  unjudged_fault n (Refused r) known is = absurd cc
  unjudged_fault n (WasCut cut) known is =
      let read : cut ≡ ReadFault = cc in
      record { name = tree; named = refl; failed = known.fault (ap WasCut read) }

  pub unjudged_missing :
      (n : FolderState) (stop : Stop) → IsUnjudged n stop → (name : List ℕ) → second_name (Verify file tree) ≡ Some name → IsMissing m name →
      IsErr (end_of_stop stop)
  unjudged_missing n (WasCut cut) known name named missing = refl
  unjudged_missing n (Refused r) known name named missing =
      let long = known.refused r refl in
      let names : name ≡ tree = cc in
      absurd (told_there m tree long.bytes long.told (subst (IsMissing m) names missing))

  long_complete :
      (r : Refusal) → IsLongTree m tree p r → (second : List ℕ) (end : End) → EndsOn (Verify file tree) p second end →
      IsStoredSecond m (Verify file tree) second → EndsRefused r ≡ end
  long_complete r long second end ends stored = by_case end ends
    where
      same : long.bytes ≡ second
      same = told_stored m tree long.bytes second long.told stored.stored

      by_case : (end : End) → EndsOn (Verify file tree) p second end → EndsRefused r ≡ end
      by_case Usage ends = absurd ends
      by_case (EndsRefused (TooLong sort)) ends = ap EndsRefused (long.refusal ∙ ap TooLong (sym ends.0.0))
      by_case (EndsRefused (NoProblem fault)) ends = absurd ends
      by_case (EndsRefused (BadLine sort line)) ends = absurd ends
      by_case (Answered a) ends = elim ends.within [
        | inl short ↦ absurd (long_same p TREE_LIMIT long.bytes second same long.long short)
        | inr met ↦ absurd (stands_same p TREE_LIMIT long.bytes second same long.stands met.0 met.1)
      ]

  pub unjudged_complete :
      (n : FolderState) (stop : Stop) → IsUnjudged n stop → (second : List ℕ) (end : End) → EndsOn (Verify file tree) p second end →
      IsStoredSecond m (Verify file tree) second → NoReadFailed m n (second_name (Verify file tree)) →
      MatchResult (end_of_stop stop) (λ e. e ≡ end) (λ cut. cut ≡ Memory)
  unjudged_complete n (Refused r) known second end ends stored unfailed = long_complete r (known.refused r refl) second end ends stored
  unjudged_complete n (WasCut Memory) known second end ends stored unfailed = refl
  unjudged_complete n (WasCut ReadFault) known second end ends stored unfailed = absurd (unfailed (known.fault refl))

  pub unjudged_right : (second : List ℕ) (stop : Stop) → IfOk (end_of_stop stop) (IsRightEnd (Verify file tree) p second)
  unjudged_right second (WasCut cut) = tt
  unjudged_right second (Refused r) = tt
