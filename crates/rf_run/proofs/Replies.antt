-- A command that read its second file whole: its answer.
use Rattle.std.proofs.Common.{◌≡◌, ◌∙◌, ◌⊎◌, ℕ, List, [], Option, None, Some, Result, Ok, Err, MatchResult, refl, sym, ap, subst, inl, inr}
use Rattle.rf_failure.specs.Answers.{Answers as Decides}
use Rattle.rf_failure.specs.declared.Failure.{Failure}
use Rattle.rf_failure.specs.declared.Failure.TheVariants.{Fault, Memory}
use Rattle.rf_io.specs.Folder.{FolderState, IsMissing}
use Rattle.rf_problem.specs.declared.problem.Problem.{Problem}
use Rattle.rf_words.specs.declared.request.Command.{Command}
use Rattle.rf_run.specs.Answers.{Answers, IsRight}
use Rattle.rf_run.specs.Commands.{SecondFile, second_file}
use Rattle.rf_run.specs.Ends.{IsRead, second_name}
use Rattle.rf_run.specs.Refuses.{RefusesSecond}
use Rattle.rf_run.specs.Stages.{EndsAfter, EndsOn, IsSecond, IsStoredSecond}
use Rattle.rf_run.specs.declared.end.End.{End}
use Rattle.rf_run.specs.declared.end.End.TheVariants.{Usage, Refused as EndsRefused, Answered}
use Rattle.rf_run.specs.declared.end.Reply.{Reply}
use Rattle.rf_run.specs.declared.refusal.Refusal.{Refusal}
use Rattle.rf_run.proofs.Opened.{stored_of}
use Rattle.rf_run.proofs.Seconds.{name_of, second_there}
use Rattle.rf_run.proofs.Stores.{read_told, told_stored}

-- the second file was had: its bytes are those that the folder tells
second_read : (m : FolderState) (c : Command) (bytes : List ℕ) → IsSecond m (second_file c) bytes → IsRead m (second_name c) bytes
second_read m c bytes second = by_case (second_file c) refl second
  where
    by_case : (f : Option SecondFile) → second_file c ≡ f → IsSecond m f bytes → IsRead m (second_name c) bytes
    by_case None is second = rw is second
    by_case (Some f) is second = read_told m (second_name c) f.name bytes (name_of c f is) second.0

second_is :
    (m : FolderState) (c : Command) (bytes second : List ℕ) → IsStoredSecond m c second → IsSecond m (second_file c) bytes → bytes ≡ second
second_is m c bytes second stored had = by_case (second_file c) refl had
  where
    by_case : (f : Option SecondFile) → second_file c ≡ f → IsSecond m f bytes → bytes ≡ second
    by_case None is had =
        let none : second ≡ [] = rw is at stored.told in
        had ∙ sym none
    by_case (Some f) is had =
        told_stored m f.name bytes second had.0 (stored_of m (second_name c) f.name second (name_of c f is) stored.stored)

pub reply_ended :
    (m : FolderState) (c : Command) (p : Problem) (bytes : List ℕ) (reply : Reply) → IsSecond m (second_file c) bytes →
    Answers c p bytes reply → EndsAfter m c p (Answered reply)
reply_ended m c p bytes reply had answers = record { second = bytes; told = second_read m c bytes had; ends = answers }

pub refusal_ended :
    (m : FolderState) (c : Command) (p : Problem) (bytes : List ℕ) (r : Refusal) → IsSecond m (second_file c) bytes →
    RefusesSecond c p bytes r → EndsAfter m c p (EndsRefused r)
refusal_ended m c p bytes r had refuses = record { second = bytes; told = second_read m c bytes had; ends = refuses }

pub reply_right :
    (m : FolderState) (c : Command) (p : Problem) (bytes : List ℕ) (reply : Reply) → IsSecond m (second_file c) bytes →
    IsRight c p bytes reply → (second : List ℕ) → IsStoredSecond m c second → IsRight c p second reply
reply_right m c p bytes reply had right second stored = subst (λ b. IsRight c p b reply) (second_is m c bytes second stored had) right

-- a second file that was had isn't missing
pub second_had :
    (m : FolderState) (c : Command) (bytes : List ℕ) → IsSecond m (second_file c) bytes → (name : List ℕ) → second_name c ≡ Some name →
    IsMissing m name → ⊥
second_had m c bytes had name named missing = by_case (second_file c) refl had
  where
    by_case : (f : Option SecondFile) → second_file c ≡ f → IsSecond m f bytes → ⊥
    by_case None is had =
        let none : second_name c ≡ None = rw is refl in
        absurd cc
    by_case (Some f) is had = second_there m c name named missing f is bytes had.0

-- the end of a run whose job answers so
abbrev pub ComesTo : Result Reply (Failure Refusal) → End → Type 0
ComesTo (Ok reply) end = Answered reply ≡ end
ComesTo (Err (Fault r)) end = EndsRefused r ≡ end
ComesTo (Err Memory) end = Unit {0}

pub answer_complete :
    (m : FolderState) (c : Command) (p : Problem) (bytes : List ℕ) (result : Result Reply (Failure Refusal)) →
    IsSecond m (second_file c) bytes → Decides (λ (a : Reply). a) (Answers c p bytes) (RefusesSecond c p bytes) result →
    (second : List ℕ) (end : End) → EndsOn c p second end → IsStoredSecond m c second → ComesTo result end
answer_complete m c p bytes result had decides second Usage ends stored = absurd ends
answer_complete m c p bytes result had decides second (EndsRefused r) ends stored =
    stuck result (decides.stuck r (subst (λ b. RefusesSecond c p b r) (sym (second_is m c bytes second stored had)) ends))
  where
    stuck : (result : Result Reply (Failure Refusal)) → (result ≡ Err (Fault r)) ⊎ (result ≡ Err Memory) → ComesTo result (EndsRefused r)
    stuck (Ok reply) is = elim is [ inl e ↦ absurd cc | inr e ↦ absurd cc ]
    stuck (Err (Fault x)) is = elim is [ inl e ↦ cc | inr e ↦ absurd cc ]
    stuck (Err Memory) is = tt
answer_complete m c p bytes result had decides second (Answered a) ends stored =
    answered result (decides.found a (subst (λ b. Answers c p b a) (sym (second_is m c bytes second stored had)) ends))
  where
    answered : (result : Result Reply (Failure Refusal)) → MatchResult result (λ x. x ≡ a) (λ e. e ≡ Memory) → ComesTo result (Answered a)
    answered (Ok reply) is = ap Answered is
    answered (Err (Fault x)) is = absurd cc
    answered (Err Memory) is = tt
