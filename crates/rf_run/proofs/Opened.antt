-- A run up to the problem: what it ends with where the problem isn't had, and what is known where it is; and the whole run, by what came after it.
use Rattle.std.proofs.Common.{◌≡◌, ◌∙◌, ◌⊎◌, ◌++◌, ℕ, List, [], ◌∷◌, Option, None, Some, Contains, Result, Ok, Err, IfOk, IsErr, IsErrOf, MatchResult, refl, sym, subst, inl, inr, arith}
use Rattle.std.proofs.lemmas.List.Elements.{Contains-append_right}
use Rattle.rf_io.specs.Folder.{FolderState, IsMissing, IsTold, NoneFell, ReadFailed, SameFiles, Stores}
use Rattle.rf_problem.specs.declared.problem.Problem.{Problem}
use Rattle.rf_words.specs.declared.request.Command.{Command}
use Rattle.rf_run.specs.Accepted.{IsAccepted}
use Rattle.rf_run.specs.Answers.{Answers}
use Rattle.rf_run.specs.Commands.{as_list, files_of, problem_file}
use Rattle.rf_run.specs.Ends.{CanAnswer, EndsAs, Input, IsRead, IsStored, IsStoredInput, IsSubject, MissesFile, NoReadFailed, WasRead, second_name}
use Rattle.rf_run.specs.Leaves.{IsRightEnd}
use Rattle.rf_run.specs.Refuses.{HasForm, RefusesProblem, RefusesSecond}
use Rattle.rf_run.specs.Stages.{EndsAfter, EndsOn, EndsOver, IsAnAnswer, IsCut, IsStoredSecond, ReadOfSecondFailed, end_of_stop}
use Rattle.rf_run.specs.declared.end.Cut.{Cut}
use Rattle.rf_run.specs.declared.end.Cut.TheVariants.{ReadFault, Memory}
use Rattle.rf_run.specs.declared.end.End.{End}
use Rattle.rf_run.specs.declared.end.End.TheVariants.{Usage, Refused as EndsRefused, Answered}
use Rattle.rf_run.specs.declared.refusal.Refusal.{Refusal}
use Rattle.rf_run.specs.declared.stop.Stop.{Stop}
use Rattle.rf_run.specs.declared.stop.Stop.TheVariants.{Refused, Cut as WasCut}
use Rattle.rf_run.proofs.ByCommand.{accepted_of, formed_unrefused, of_second, refuses_problem, refuses_subject, subject_of}
use Rattle.rf_run.proofs.Stores.{bytes_of, bytes_read, failed_later, read_same, read_told, stored_same, told_there, unfailed_later}

-- what is known of the one file
pub stored_of : (s : FolderState) (file : Option (List ℕ)) (name bytes : List ℕ) → file ≡ Some name → IsStored s file bytes → Stores s name bytes
stored_of s file name bytes is stored = subst (λ f. IsStored s f bytes) is stored

pub unfailed_of :
    (s n : FolderState) (file : Option (List ℕ)) (name : List ℕ) → file ≡ Some name → NoReadFailed s n file → ReadFailed s n name → ⊥
unfailed_of s n file name is unfailed = subst (NoReadFailed s n) is unfailed

-- the problem isn't had, for this cause
pub record IsUnopened (s m : FolderState) (c : Command) (name : List ℕ) (stop : Stop) : Type 0 where
  pub named : problem_file c ≡ Some name
  pub refused : (r : Refusal) → stop ≡ Refused r → (bytes : List ℕ) × IsTold s name bytes × RefusesProblem bytes r
  pub fault : stop ≡ WasCut ReadFault → ReadFailed s m name
  pub accepted : (bytes : List ℕ) (p : Problem) → Stores s name bytes → IsAccepted bytes p → IsCut stop
  pub refuses : (bytes : List ℕ) (r : Refusal) → Stores s name bytes → RefusesProblem bytes r → (stop ≡ Refused r) ⊎ IsCut stop

pub unopened_ended : (s m : FolderState) (c : Command) (name : List ℕ) (stop : Stop) → IsUnopened s m c name stop → IfOk (end_of_stop stop) (EndsOver s c)
unopened_ended s m c name (WasCut cut) known = tt
unopened_ended s m c name (Refused r) known =
    let here = known.refused r refl in
    let input : Input = record { problem = here.0; second = bytes_of s (second_name c) } in
    record {
      input = input;
      told = record { problem = read_told s (problem_file c) name here.0 known.named here.1; second = bytes_read s (second_name c) };
      ends = inl (refuses_subject c input r name known.named here.2);
    }

pub unopened_missing :
    (s m : FolderState) (c : Command) (name : List ℕ) (stop : Stop) → IsUnopened s m c name stop → MissesFile s c → IsErr (end_of_stop stop)
unopened_missing s m c name (WasCut cut) known misses = refl
unopened_missing s m c name (Refused r) known misses =
    let here = known.refused r refl in
    elim misses [
      | inl one ↦ (let same : name ≡ one.0 = cc in
          absurd (told_there s name here.0 here.1 (subst (IsMissing s) (sym same) one.2)))
      | inr one ↦
          absurd (known.accepted one.input.problem one.problem (stored_of s (problem_file c) name one.input.problem known.named one.stored)
          (accepted_of c one.input one.problem name known.named one.subject))
    ]

-- a stage that was cut short though no read failed, ran out of memory
pub cut_short :
    (T : Type 0) (end : End) (stop : Stop) → IsCut stop → (stop ≡ WasCut ReadFault → T) → (T → ⊥) →
    MatchResult (end_of_stop stop) (λ e. e ≡ end) (λ cut. cut ≡ Memory)
cut_short T end (Refused r) cut fault unfailed = absurd cut
cut_short T end (WasCut ReadFault) cut fault unfailed = absurd (unfailed (fault refl))
cut_short T end (WasCut Memory) cut fault unfailed = refl

pub unopened_complete :
    (s m : FolderState) (c : Command) (name : List ℕ) (stop : Stop) → IsUnopened s m c name stop → (i : Input) (end : End) → EndsAs c i end →
    WasRead s m c i end → MatchResult (end_of_stop stop) (λ e. e ≡ end) (λ cut. cut ≡ Memory)
unopened_complete s m c name stop known i Usage ends was = absurd ends
unopened_complete s m c name stop known i (EndsRefused r) ends was =
    let stores = stored_of s (problem_file c) name i.problem known.named was.problem in
    let unfailed = unfailed_of s m (problem_file c) name known.named was.problem_read in
    elim ends [
      | inl subject ↦ elim (known.refuses i.problem r stores (refuses_problem c i r subject)) [
        | inl e ↦ subst (λ x. MatchResult (end_of_stop x) (λ e. e ≡ EndsRefused r) (λ cut. cut ≡ Memory)) (sym e) refl
        | inr cut ↦ cut_short (ReadFailed s m name) (EndsRefused r) stop cut known.fault unfailed
      ]
      | inr one ↦
          cut_short (ReadFailed s m name) (EndsRefused r) stop (known.accepted i.problem one.0 stores (accepted_of c i one.0 name known.named one.1)) known.fault unfailed
    ]
unopened_complete s m c name stop known i (Answered a) ends was =
    let stores = stored_of s (problem_file c) name i.problem known.named was.problem in
    let unfailed = unfailed_of s m (problem_file c) name known.named was.problem_read in
    cut_short (ReadFailed s m name) (Answered a) stop (known.accepted i.problem ends.0 stores (accepted_of c i ends.0 name known.named ends.1)) known.fault unfailed

-- the problem was had
pub record IsOpened (s : FolderState) (c : Command) (name : List ℕ) (p : Problem) : Type 0 where
  pub named : problem_file c ≡ Some name
  pub ok : (bytes : List ℕ) × IsTold s name bytes × IsAccepted bytes p
  pub accepted : (bytes : List ℕ) (q : Problem) → Stores s name bytes → IsAccepted bytes q → p ≡ q
  pub refuses : (bytes : List ℕ) (r : Refusal) → Stores s name bytes → RefusesProblem bytes r → ⊥

-- how the command ended after that, on its second file
pub record IsRest (m n : FolderState) (c : Command) (p : Problem) (result : Result End Cut) : Type 0 where
  pub ended : IfOk result (EndsAfter m c p)
  pub right : (second : List ℕ) → IsStoredSecond m c second → IfOk result (IsRightEnd c p second)
  pub fault : IsErrOf result ReadFault → ReadOfSecondFailed m n c
  pub missing : (name : List ℕ) → second_name c ≡ Some name → IsMissing m name → IsErr result
  pub complete :
      (second : List ℕ) (end : End) → EndsOn c p second end → IsStoredSecond m c second → NoReadFailed m n (second_name c)
      → MatchResult result (λ e. e ≡ end) (λ cut. cut ≡ Memory)

-- the second file is told in the same way after the problem was read
second_told : (s m : FolderState) (c : Command) (second : List ℕ) → SameFiles s m → IsRead m (second_name c) second → IsRead s (second_name c) second
second_told s m c second same read = read_same s m (second_name c) second same read

second_stored :
    (s m : FolderState) (c : Command) (second : List ℕ) → SameFiles s m → IsRead s (second_name c) second → IsStored s (second_name c) second →
    IsStoredSecond m c second
second_stored s m c second same told stored = record {
  told = read_same m s (second_name c) second (λ name. sym (same name)) told;
  stored = stored_same s m (second_name c) second same stored;
}

pub opened_ended :
    (s m n : FolderState) (c : Command) (name : List ℕ) (p : Problem) (result : Result End Cut) → IsOpened s c name p → SameFiles s m →
    IsRest m n c p result → IfOk result (EndsOver s c)
opened_ended s m n c name p (Err cut) opened same rest = tt
opened_ended s m n c name p (Ok end) opened same rest =
    let input : Input = record { problem = opened.ok.0; second = rest.ended.second } in
    record {
      input = input;
      told = record {
        problem = read_told s (problem_file c) name opened.ok.0 opened.named opened.ok.1;
        second = second_told s m c rest.ended.second same rest.ended.told;
      };
      ends = by_case end input (subject_of c input p name opened.named opened.ok.2) rest.ended.ends;
    }
  where
    by_case : (end : End) (i : Input) → IsSubject c i p → EndsOn c p i.second end → EndsAs c i end
    by_case Usage i subject ends = ends
    by_case (EndsRefused r) i subject ends = inr (p, subject, ends)
    by_case (Answered a) i subject ends = (p, subject, ends)

-- the problem of an input that is told is the one that was read
same_problem :
    (s : FolderState) (c : Command) (name : List ℕ) (p : Problem) → IsOpened s c name p → (i : Input) (q : Problem) →
    IsStored s (problem_file c) i.problem → IsSubject c i q → p ≡ q
same_problem s c name p opened i q stored subject =
    opened.accepted i.problem q (stored_of s (problem_file c) name i.problem opened.named stored) (accepted_of c i q name opened.named subject)

pub opened_right :
    (s m n : FolderState) (c : Command) (name : List ℕ) (p : Problem) (result : Result End Cut) → IsOpened s c name p → SameFiles s m →
    IsRest m n c p result → (i : Input) (q : Problem) → IsStoredInput s c i → IsSubject c i q → IfOk result (IsRightEnd c q i.second)
opened_right s m n c name p result opened same rest i q stored subject =
    let here = rest.right i.second (second_stored s m c i.second same stored.told.second stored.second) in
    subst (λ x. IfOk result (IsRightEnd c x i.second)) (same_problem s c name p opened i q stored.problem subject) here

pub opened_fault :
    (s m n : FolderState) (c : Command) (p : Problem) (result : Result End Cut) → NoneFell s m → IsRest m n c p result →
    IsErrOf result ReadFault → (name : List ℕ) × Contains (files_of c) name × ReadFailed s n name
opened_fault s m n c p result later rest is =
    let failed = rest.fault is in
    (failed.name, among (second_name c) failed.name failed.named, failed_later s m n failed.name later failed.failed)
  where
    among : (o : Option (List ℕ)) (name : List ℕ) → o ≡ Some name → Contains (as_list (problem_file c) ++ as_list o) name
    among o name is =
        let last : Contains (name ∷ []) name = (0, omega arith, refl) in
        rw is (Contains-append_right (as_list (problem_file c)) (name ∷ []) name last)

problem_there :
    (s : FolderState) (c : Command) (name : List ℕ) (p : Problem) → IsOpened s c name p → (other : List ℕ) → problem_file c ≡ Some other →
    IsMissing s other → ⊥
problem_there s c name p opened other named missing =
    let names : other ≡ name = (let here = sym named ∙ opened.named in cc) in
    told_there s name opened.ok.0 opened.ok.1 (subst (IsMissing s) names missing)

pub opened_missing :
    (s m n : FolderState) (c : Command) (name : List ℕ) (p : Problem) (result : Result End Cut) → IsOpened s c name p → SameFiles s m →
    IsRest m n c p result → MissesFile s c → IsErr result
opened_missing s m n c name p result opened same rest misses = elim misses [
  | inl one ↦ absurd (problem_there s c name p opened one.0 one.1 one.2)
  | inr one ↦ rest.missing one.name one.named (same one.name ∙ one.missing)
]

pub opened_complete :
    (s m n : FolderState) (c : Command) (name : List ℕ) (p : Problem) (result : Result End Cut) → IsOpened s c name p → SameFiles s m →
    NoneFell s m → IsRest m n c p result → (i : Input) (end : End) → EndsAs c i end → WasRead s n c i end →
    MatchResult result (λ e. e ≡ end) (λ cut. cut ≡ Memory)
opened_complete s m n c name p result opened same later rest i Usage ends was = absurd ends
opened_complete s m n c name p result opened same later rest i (EndsRefused r) ends was = elim ends [
  | inl subject ↦ absurd (opened.refuses i.problem r (stored_of s (problem_file c) name i.problem opened.named was.problem) (refuses_problem c i r subject))
  | inr one ↦ (let reads = of_second c one.0 i.second r one.2 in
      let is = same_problem s c name p opened i one.0 was.problem one.1 in
      rest.complete i.second (EndsRefused r) (subst (λ x. RefusesSecond c x i.second r) (sym is) one.2)
      (second_stored s m c i.second same was.told.second (was.second reads))
      (unfailed_later s m n (second_name c) later (was.second_read reads)))
]
opened_complete s m n c name p result opened same later rest i (Answered a) ends was =
    let is = same_problem s c name p opened i ends.0 was.problem ends.1 in
    rest.complete i.second (Answered a) (subst (λ x. Answers c x i.second a) (sym is) ends.2)
    (second_stored s m c i.second same was.told.second (was.second refl))
    (unfailed_later s m n (second_name c) later (was.second_read refl))

-- where nothing keeps the command from its answer, no stop is a refusal or a read that failed
pub unopened_answered :
    (s m : FolderState) (c : Command) (name : List ℕ) (stop : Stop) → IsUnopened s m c name stop → CanAnswer s m c →
    MatchResult (end_of_stop stop) IsAnAnswer (λ cut. cut ≡ Memory)
unopened_answered s m c name stop known can =
    by_case stop known.fault
    (known.accepted can.input.problem can.problem (stored_of s (problem_file c) name can.input.problem known.named can.stored.problem)
    (accepted_of c can.input can.problem name known.named can.subject))
  where
    unfailed : ReadFailed s m name → ⊥
    unfailed = unfailed_of s m (problem_file c) name known.named can.problem_read

    by_case : (stop : Stop) → (stop ≡ WasCut ReadFault → ReadFailed s m name) → IsCut stop → MatchResult (end_of_stop stop) IsAnAnswer (λ cut. cut ≡ Memory)
    by_case (Refused r) fault cut = absurd cut
    by_case (WasCut ReadFault) fault cut = absurd (unfailed (fault refl))
    by_case (WasCut Memory) fault cut = refl

-- the second file that is told is the one of the input, where that is stored
same_second :
    (m : FolderState) (c : Command) (bytes second : List ℕ) → IsRead m (second_name c) bytes → IsStoredSecond m c second → bytes ≡ second
same_second m c bytes second read stored = by_case (second_name c) read stored.told stored.stored
  where
    by_case : (f : Option (List ℕ)) → IsRead m f bytes → IsRead m f second → IsStored m f second → bytes ≡ second
    by_case None read told stored = read ∙ sym told
    by_case (Some name) read told stored = read second stored

pub opened_answered :
    (s m n : FolderState) (c : Command) (name : List ℕ) (p : Problem) (result : Result End Cut) → IsOpened s c name p → SameFiles s m →
    NoneFell s m → IsRest m n c p result → CanAnswer s n c → MatchResult result IsAnAnswer (λ cut. cut ≡ Memory)
opened_answered s m n c name p (Err Memory) opened same later rest can = refl
opened_answered s m n c name p (Err ReadFault) opened same later rest can =
    let failed = rest.fault refl in
    let unfailed = unfailed_later s m n (second_name c) later can.second_read in
    absurd (unfailed_of m n (second_name c) failed.name failed.named unfailed failed.failed)
opened_answered s m n c name p (Ok end) opened same later rest can = by_case end rest.ended.ends
  where
    is : p ≡ can.problem
    is = same_problem s c name p opened can.input can.problem can.stored.problem can.subject

    second : rest.ended.second ≡ can.input.second
    second = same_second m c rest.ended.second can.input.second rest.ended.told (second_stored s m c can.input.second same can.stored.told.second can.stored.second)

    formed : HasForm c p rest.ended.second
    formed = rw (is, second) can.formed

    by_case : (end : End) → EndsOn c p rest.ended.second end → IsAnAnswer end
    by_case Usage ends = absurd ends
    by_case (EndsRefused r) ends = absurd (formed_unrefused c p rest.ended.second r formed ends)
    by_case (Answered a) ends = tt
