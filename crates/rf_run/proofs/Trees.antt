-- The tree in a file, as it is read piece by piece and judged.
use Rattle.std.proofs.Common.{◌≡◌, ◌∙◌, ◌<◌, ◌≤◌, ◌+◌, ◌-◌, ◌++◌, ℕ, List, [], take, drop, length, refl, sym, ap, subst, inl, inr, arith, append_assoc, append-nil}
use Rattle.std.proofs.Math.Seq.{take-add}
use Rattle.std.proofs.lemmas.List.{length-append, length-take-le, take-append-drop, take-append-le, take-take, take_all}
use Rattle.rf_check.specs.Documents.{IsRejectedAt, IsTreeVerdict, MeetsRejected}
use Rattle.rf_check.specs.Verifying.{HasJudged, fed}
use Rattle.rf_check.specs.declared.verdict.TreeVerdict.{TreeVerdict}
use Rattle.rf_check.specs.declared.verdict.TreeVerdict.TheVariants.{Rejected}
use Rattle.rf_check.specs.declared.verifier.TreeVerifier.{TreeVerifier}
use Rattle.rf_io.specs.Folder.{FolderState, IsMissing, IsTold, ReadsAt, Stores}
use Rattle.rf_io.proofs.Told.{as_told, read_beyond, read_to_end}
use Rattle.rf_graph.specs.Violations.{Sat}
use Rattle.rf_graph.specs.declared.graph.Graph.{Graph}
use Rattle.rf_problem.specs.declared.problem.Problem.{Problem}
use Rattle.rf_tree.specs.Document.{IsTreeDocument}
use Rattle.rf_tree.specs.Lines.{Valid}
use Rattle.rf_tree.specs.declared.line.Line.{Line}
use Rattle.rf_run.specs.Answers.{IsRightTree}
use Rattle.rf_run.specs.Stages.{IsJudgedFile, IsJudgedTo, IsLongTree}
use Rattle.rf_run.specs.TreeVerdict.{sign_of_tree}
use Rattle.rf_run.specs.declared.refusal.File.TheVariants.{Tree}
use Rattle.rf_run.specs.declared.refusal.Refusal.TheVariants.{TooLong}
use Rattle.rf_run.specs.declared.refusal.TheConstants.{TREE_LIMIT}

-- what is known of verdicts
pub record TreeLaws (p : Problem) : Type 0 where
  pub final : (bytes : List ℕ) (line : ℕ) (more : List ℕ) → MeetsRejected p bytes line → IsRejectedAt p (bytes ++ more) line
  pub further : (bytes : List ℕ) (line : ℕ) (more : List ℕ) → MeetsRejected p bytes line → MeetsRejected p (bytes ++ more) line
  pub apart : (v : TreeVerifier) (bytes : List ℕ) (line : ℕ) → HasJudged p v bytes → MeetsRejected p bytes line → ⊥
  pub one : (bytes : List ℕ) (v w : TreeVerdict) → IsTreeVerdict p bytes v → IsTreeVerdict p bytes w → v ≡ w
  pub words :
      (bytes : List ℕ) (lines : List Line) (v : TreeVerdict) → IsTreeDocument lines bytes → IsTreeVerdict p bytes v
      → IsRightTree p lines (sign_of_tree v)
  pub sound : (lines : List Line) → Valid p lines → (g : Graph) → Sat p g → ⊥

-- a part of what was read is the next part of the file
part_read : (file buf : List ℕ) (at n m : ℕ) → m ≤ n → ReadsAt file at n buf → take m buf ≡ take m (drop at file)
part_read file buf at n m within reads =
    sym (take-take m n buf within) ∙ (ap (take m) reads.bytes ∙ take-take m n (drop at file) within)

-- the bytes so far and the next part are the file up to there
joined_read :
    (file bytes buf : List ℕ) (at n m : ℕ) → bytes ≡ take at file → m ≤ n → ReadsAt file at n buf → bytes ++ take m buf ≡ take (at + m) file
joined_read file bytes buf at n m begun within reads =
    rw (begun, part_read file buf at n m within reads, take-add at m file) refl

pub judged_start :
    (folder : FolderState) (name : List ℕ) (p : Problem) (v : TreeVerifier) → HasJudged p v [] → fed v ≡ 0 → IsJudgedTo folder name p v 0
judged_start folder name p v judged none = record {
  bytes = [];
  judged = judged;
  count = refl;
  fed = none;
  short = omega arith;
  begun = λ file stores. refl;
}

-- what is known of a read of a part of the file, of which so many bytes are within the limit
pub record IsPart (folder : FolderState) (name : List ℕ) (at n m : ℕ) (buf part : List ℕ) : Type 0 where
  pub reads : (file : List ℕ) → Stores folder name file → ReadsAt file at n buf
  pub there : IsMissing folder name → ⊥
  pub taken : part ≡ take m buf
  pub within : m ≤ n
  pub room : n ≤ length buf
  pub short : at + m ≤ TREE_LIMIT

part_long : (folder : FolderState) (name : List ℕ) (at n m : ℕ) (buf part : List ℕ) → IsPart folder name at n m buf part → length part ≡ m
part_long folder name at n m buf part is =
    let short : m ≤ length buf = omega (arith, is.within, is.room) in
    rw is.taken (length-take-le m buf short)

pub judged_more :
    (folder : FolderState) (name : List ℕ) (p : Problem) (v w : TreeVerifier) (at n m : ℕ) (buf part : List ℕ) →
    IsJudgedTo folder name p v at → IsPart folder name at n m buf part →
    ((q : Problem) (bytes : List ℕ) → HasJudged q v bytes → HasJudged q w (bytes ++ part)) → fed w ≡ fed v + length part →
    IsJudgedTo folder name p w (at + m)
judged_more folder name p v w at n m buf part known is going more =
    let long = part_long folder name at n m buf part is in
    record {
      bytes = known.bytes ++ part;
      judged = going p known.bytes known.judged;
      count = length-append known.bytes part ∙ rw (known.count, long) refl;
      fed = more ∙ rw (known.fed, long) refl;
      short = is.short;
      begun = λ file stores. rw is.taken (joined_read file known.bytes buf at n m (known.begun file stores) is.within (is.reads file stores));
    }

-- the file ends here
pub judged_end :
    (folder : FolderState) (name : List ℕ) (p : Problem) (v : TreeVerifier) (at n : ℕ) (buf : List ℕ) (verdict : TreeVerdict) →
    IsJudgedTo folder name p v at → ((file : List ℕ) → Stores folder name file → ReadsAt file at n buf) → (IsMissing folder name → ⊥) →
    n ≡ 0 → ((q : Problem) (bytes : List ℕ) → HasJudged q v bytes → IsTreeVerdict q bytes verdict) → IsJudgedFile folder name p verdict
judged_end folder name p v at n buf verdict known reads there none finished = record {
  bytes = found.0;
  told = found.1;
  judged = found.2.0;
  within = inl found.2.1;
}
  where
    T : List ℕ → Type 0
    T bytes = IsTreeVerdict p bytes verdict × (length bytes ≤ TREE_LIMIT)

    here : T known.bytes
    here = (finished p known.bytes known.judged, rw known.count known.short)

    found : (bytes : List ℕ) × IsTold folder name bytes × T bytes
    found = as_told T folder name known.bytes there here
        (λ file stores. subst T (read_to_end file known.bytes buf at at n refl none (known.begun file stores) (reads file stores)) here)

-- a line is rejected in the next part
pub judged_rejected :
    (folder : FolderState) (name : List ℕ) (p : Problem) (v : TreeVerifier) (at n m : ℕ) (buf part : List ℕ) (line : ℕ) → TreeLaws p →
    IsJudgedTo folder name p v at → IsPart folder name at n m buf part →
    ((q : Problem) (bytes : List ℕ) → HasJudged q v bytes → MeetsRejected q (bytes ++ part) line) → IsJudgedFile folder name p (Rejected line)
judged_rejected folder name p v at n m buf part line laws known is rejected = record {
  bytes = found.0;
  told = found.1;
  judged = found.2.0;
  within = inr (line, found.2.1);
}
  where
    T : List ℕ → Type 0
    T bytes = IsRejectedAt p bytes line × MeetsRejected p (take TREE_LIMIT bytes) line

    read : List ℕ
    read = known.bytes ++ part

    meets : MeetsRejected p read line
    meets = rejected p known.bytes known.judged

    count : length read ≡ at + m
    count = length-append known.bytes part ∙ rw (known.count, part_long folder name at n m buf part is) refl

    whole : take TREE_LIMIT read ≡ read
    whole = take_all TREE_LIMIT read (rw count is.short)

    here : T read
    here = (subst (λ b. IsRejectedAt p b line) (append-nil read) (laws.final read line [] meets), rw whole meets)

    beyond : (file : List ℕ) → Stores folder name file → T file
    beyond file stores =
        let begun : read ≡ take (at + m) file =
        rw is.taken (joined_read file known.bytes buf at n m (known.begun file stores) is.within (is.reads file stores)) in
        let all : read ++ drop (at + m) file ≡ file = rw begun (take-append-drop (at + m) file) in
        let limit : TREE_LIMIT ≡ (at + m) + (TREE_LIMIT - (at + m)) = omega (arith, is.short) in
        let first : read ++ take (TREE_LIMIT - (at + m)) (drop (at + m) file) ≡ take TREE_LIMIT file =
        rw begun (sym (take-add (at + m) (TREE_LIMIT - (at + m)) file) ∙ ap (λ k. take k file) (sym limit)) in (
          subst (λ b. IsRejectedAt p b line) all (laws.final read line (drop (at + m) file) meets),
          subst (λ b. MeetsRejected p b line) first (laws.further read line (take (TREE_LIMIT - (at + m)) (drop (at + m) file)) meets),
        )

    found : (bytes : List ℕ) × IsTold folder name bytes × T bytes
    found = as_told T folder name read is.there here beyond

-- the file goes on after the limit
pub judged_long :
    (folder : FolderState) (name : List ℕ) (p : Problem) (w : TreeVerifier) (at n m : ℕ) (buf part : List ℕ) → TreeLaws p →
    IsJudgedTo folder name p w (at + m) → IsPart folder name at n m buf part → m < n → at + m ≡ TREE_LIMIT →
    IsLongTree folder name p (TooLong Tree)
judged_long folder name p w at n m buf part laws known is beyond limit = record {
  bytes = found.0;
  told = found.1;
  refusal = refl;
  long = found.2.0;
  stands = found.2.1;
}
  where
    T : List ℕ → Type 0
    T bytes = (TREE_LIMIT < length bytes) × ((line : ℕ) → MeetsRejected p (take TREE_LIMIT bytes) line → ⊥)

    -- bytes that begin so have no rejected line within the limit
    stands : (bytes : List ℕ) → known.bytes ≡ take TREE_LIMIT bytes → (line : ℕ) → MeetsRejected p (take TREE_LIMIT bytes) line → ⊥
    stands bytes begun line meets = laws.apart w known.bytes line known.judged (subst (λ b. MeetsRejected p b line) (sym begun) meets)

    count : length known.bytes ≡ TREE_LIMIT
    count = known.count ∙ limit

    -- where nothing is told, whatever the file has after the limit serves
    read : List ℕ
    read = known.bytes ++ take n buf

    more : length (take n buf) ≡ n
    more = length-take-le n buf is.room

    long : TREE_LIMIT < length read
    long =
        let all : length read ≡ TREE_LIMIT + n = length-append known.bytes (take n buf) ∙ rw (count, more) refl in
        let some : 0 < n = omega (arith, beyond) in
        omega (arith, all, some)

    begun : known.bytes ≡ take TREE_LIMIT read
    begun =
        let within : TREE_LIMIT ≤ length known.bytes = omega (arith, count) in
        let short : length known.bytes ≤ TREE_LIMIT = omega (arith, count) in
        sym (take-append-le TREE_LIMIT known.bytes (take n buf) within ∙ take_all TREE_LIMIT known.bytes short)

    here : T read
    here = (long, stands read begun)

    past : (file : List ℕ) → Stores folder name file → T file
    past file stores =
        let longer : TREE_LIMIT < length file =
        read_beyond file buf at at n TREE_LIMIT refl (omega (arith, limit)) (omega (arith, limit, beyond)) (is.reads file stores) in
        (longer, stands file (known.begun file stores ∙ ap (λ k. take k file) limit))

    found : (bytes : List ℕ) × IsTold folder name bytes × T bytes
    found = as_told T folder name read is.there here past
