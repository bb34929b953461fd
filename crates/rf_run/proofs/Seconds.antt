-- A command that reads its second file whole, after its problem: where the file isn't had.
use Rattle.std.proofs.Common.{◌≡◌, ◌∙◌, ◌≤◌, ◌<◌, ℕ, List, Option, None, Some, Err, IfOk, IsErr, IsErrOf, MatchResult, length, refl, sym, ap, subst, arith}
use Rattle.std.specs.Option.{option_map}
use Rattle.rf_io.specs.Folder.{FolderState, IsMissing, IsTold, ReadFailed, Stores}
use Rattle.rf_problem.specs.declared.problem.Problem.{Problem}
use Rattle.rf_words.specs.declared.request.Command.{Command}
use Rattle.rf_words.specs.declared.request.Command.TheVariants.{Generate, Check, Verify, Evaluate, Session, Grow}
use Rattle.rf_run.specs.Commands.{IsWhole, SecondFile, second_file}
use Rattle.rf_run.specs.Ends.{IsStored, NoReadFailed, second_name}
use Rattle.rf_run.specs.Leaves.{IsRightEnd}
use Rattle.rf_run.specs.Refuses.{RefusesSecond, StandsSoFar}
use Rattle.rf_run.specs.Stages.{EndsAfter, EndsOn, IsLongSecond, IsStoredSecond, ReadOfSecondFailed, SecondFailed, end_of_stop}
use Rattle.rf_run.specs.declared.end.Cut.{Cut}
use Rattle.rf_run.specs.declared.end.Cut.TheVariants.{ReadFault, Memory}
use Rattle.rf_run.specs.declared.end.End.{End}
use Rattle.rf_run.specs.declared.end.End.TheVariants.{Usage, Refused as EndsRefused, Answered}
use Rattle.rf_run.specs.declared.refusal.Refusal.{Refusal}
use Rattle.rf_run.specs.declared.refusal.Refusal.TheVariants.{TooLong, Problem as NoProblem, BadLine}
use Rattle.rf_run.specs.declared.stop.Stop.{Stop}
use Rattle.rf_run.specs.declared.stop.Stop.TheVariants.{Refused, Cut as WasCut}
use Rattle.rf_run.proofs.ByCommand.{within_of_answer, within_of_line}
use Rattle.rf_run.proofs.Opened.{stored_of, unfailed_of}
use Rattle.rf_run.proofs.Stores.{read_told, told_stored, told_there}

-- the name of a second file that there is
pub name_of : (c : Command) (f : SecondFile) → second_file c ≡ Some f → second_name c ≡ Some f.name
name_of c f is = ap (option_map (λ s. s.name)) is

-- what is read whole is judged by its length alone
stands_so_far : (c : Command) (p : Problem) (second : List ℕ) → IsWhole c → StandsSoFar c p second
stands_so_far (Generate file seed budget json) p second whole = tt
stands_so_far (Check file graph) p second whole = tt
stands_so_far (Verify file tree) p second whole = absurd whole
stands_so_far (Evaluate file) p second whole = tt
stands_so_far (Session file script) p second whole = tt
stands_so_far (Grow n) p second whole = tt

-- the second file isn't had, for this cause
pub record IsUnread (m n : FolderState) (c : Command) (stop : Stop) : Type 0 where
  pub whole : IsWhole c
  pub refused : (r : Refusal) → stop ≡ Refused r → IsLongSecond m (second_file c) r
  pub fault : stop ≡ WasCut ReadFault → SecondFailed m n (second_file c)

-- a second file that is too long is refused so
long_ended :
    (m : FolderState) (c : Command) (p : Problem) (r : Refusal) → IsWhole c → IsLongSecond m (second_file c) r → EndsAfter m c p (EndsRefused r)
long_ended m c p r whole long = by_case (second_file c) refl long
  where
    by_case : (f : Option SecondFile) → second_file c ≡ f → IsLongSecond m f r → EndsAfter m c p (EndsRefused r)
    by_case None is long = absurd long
    by_case (Some f) is long =
        let bytes = long.1.0 in
        let refuses : RefusesSecond c p bytes r = rw (long.0, is) ((refl, long.1.2), stands_so_far c p bytes whole) in
        record { second = bytes; told = read_told m (second_name c) f.name bytes (name_of c f is) long.1.1; ends = refuses }

pub unread_ended : (m n : FolderState) (c : Command) (p : Problem) (stop : Stop) → IsUnread m n c stop → IfOk (end_of_stop stop) (EndsAfter m c p)
unread_ended m n c p (WasCut cut) known = tt
unread_ended m n c p (Refused r) known = long_ended m c p r known.whole (known.refused r refl)

pub unread_right : (c : Command) (p : Problem) (second : List ℕ) (stop : Stop) → IfOk (end_of_stop stop) (IsRightEnd c p second)
unread_right c p second (WasCut cut) = tt
unread_right c p second (Refused r) = tt

-- a read that failed of the second file
second_failed : (m n : FolderState) (c : Command) → SecondFailed m n (second_file c) → ReadOfSecondFailed m n c
second_failed m n c failed = by_case (second_file c) refl failed
  where
    by_case : (f : Option SecondFile) → second_file c ≡ f → SecondFailed m n f → ReadOfSecondFailed m n c
    by_case None is failed = absurd failed
    by_case (Some f) is failed = record { name = f.name; named = name_of c f is; failed = failed }

pub unread_fault :
    (m n : FolderState) (c : Command) (stop : Stop) → IsUnread m n c stop → end_of_stop stop ≡ Err ReadFault → ReadOfSecondFailed m n c
unread_fault m n c (Refused r) known is = absurd cc
unread_fault m n c (WasCut cut) known is =
    let read : cut ≡ ReadFault = cc in
    second_failed m n c (known.fault (ap WasCut read))

-- a file that is missing isn't told
pub second_there :
    (m : FolderState) (c : Command) (name : List ℕ) → second_name c ≡ Some name → IsMissing m name → (f : SecondFile) →
    second_file c ≡ Some f → (bytes : List ℕ) → IsTold m f.name bytes → ⊥
second_there m c name named missing f is bytes is_told =
    let names : name ≡ f.name = (let here = sym named ∙ name_of c f is in cc) in
    told_there m f.name bytes is_told (subst (IsMissing m) names missing)

pub unread_missing :
    (m n : FolderState) (c : Command) (stop : Stop) → IsUnread m n c stop → (name : List ℕ) → second_name c ≡ Some name → IsMissing m name →
    IsErr (end_of_stop stop)
unread_missing m n c (WasCut cut) known name named missing = refl
unread_missing m n c (Refused r) known name named missing = absurd (by_case (second_file c) refl (known.refused r refl))
  where
    by_case : (f : Option SecondFile) → second_file c ≡ f → IsLongSecond m f r → ⊥
    by_case None is long = long
    by_case (Some f) is long = second_there m c name named missing f is long.1.0 long.1.1

-- a second file that is too long has that refusal alone, and no answer
long_complete :
    (m : FolderState) (c : Command) (second : List ℕ) (r : Refusal) → IsWhole c → IsLongSecond m (second_file c) r →
    IsStored m (second_name c) second → (p : Problem) (end : End) → EndsOn c p second end → EndsRefused r ≡ end
long_complete m c second r whole long stored p end ends = by_case (second_file c) refl long
  where
    one :
        (f : SecondFile) → second_file c ≡ Some f → r ≡ TooLong f.sort → f.limit < length second → (end : End) → EndsOn c p second end →
        EndsRefused r ≡ end
    one f is too_long beyond Usage ends = absurd ends
    one f is too_long beyond (EndsRefused (TooLong sort)) ends =
        let here : sort ≡ f.sort = (rw is at ends.0).0 in
        ap EndsRefused (too_long ∙ ap TooLong (sym here))
    one f is too_long beyond (EndsRefused (NoProblem fault)) ends = absurd ends
    one f is too_long beyond (EndsRefused (BadLine sort line)) ends =
        let short : length second ≤ f.limit = rw is at (within_of_line c p second sort line ends) in
        absurd (omega (arith, short, beyond))
    one f is too_long beyond (Answered a) ends =
        let short : length second ≤ f.limit = rw is at (within_of_answer c p second a whole ends) in
        absurd (omega (arith, short, beyond))

    by_case : (f : Option SecondFile) → second_file c ≡ f → IsLongSecond m f r → EndsRefused r ≡ end
    by_case None is long = absurd long
    by_case (Some f) is long =
        let stores : Stores m f.name second = stored_of m (second_name c) f.name second (name_of c f is) stored in
        let bytes : long.1.0 ≡ second = told_stored m f.name long.1.0 second long.1.1 stores in
        let beyond : f.limit < length second = subst (λ b. f.limit < length b) bytes long.1.2 in
        one f is long.0 beyond end ends

pub unread_complete :
    (m n : FolderState) (c : Command) (p : Problem) (stop : Stop) → IsUnread m n c stop → (second : List ℕ) (end : End) →
    EndsOn c p second end → IsStoredSecond m c second → NoReadFailed m n (second_name c) →
    MatchResult (end_of_stop stop) (λ e. e ≡ end) (λ cut. cut ≡ Memory)
unread_complete m n c p (Refused r) known second end ends stored unfailed =
    long_complete m c second r known.whole (known.refused r refl) stored.stored p end ends
unread_complete m n c p (WasCut Memory) known second end ends stored unfailed = refl
unread_complete m n c p (WasCut ReadFault) known second end ends stored unfailed =
    let failed = second_failed m n c (known.fault refl) in
    absurd (unfailed_of m n (second_name c) failed.name failed.named unfailed failed.failed)
