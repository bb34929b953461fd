-- What holds of a command holds of its words, which have no other command.
use Rattle.std.proofs.Common.{◌≡◌, List, [], ℕ, Result, Ok, Err, IfOk, MatchResult, refl, sym, subst}
use Rattle.rf_io.specs.Folder.{FolderState}
use Rattle.rf_problem.specs.declared.problem.Problem.{Problem}
use Rattle.rf_words.specs.Meaning.{IsCommand}
use Rattle.rf_words.specs.declared.request.Command.{Command}
use Rattle.rf_run.specs.Commands.{IsBuilt}
use Rattle.rf_run.specs.Ends.{CanAnswer, Ends, EndsAs, HasEnd, Input, IsInput, IsStoredInput, IsSubject, IsUsage, WasRead}
use Rattle.rf_run.specs.Leaves.{IsRightEnd}
use Rattle.rf_run.specs.Stages.{EndsOver, IsAnAnswer}
use Rattle.rf_run.specs.declared.end.Cut.{Cut}
use Rattle.rf_run.specs.declared.end.Cut.TheVariants.{Memory}
use Rattle.rf_run.specs.declared.end.End.{End}
use Rattle.rf_run.specs.declared.end.End.TheVariants.{Usage, Refused, Answered}

-- the words are those of this one command, which is built
pub record IsOnly (words : List (List ℕ)) (c : Command) : Type 0 where
  pub built : IsBuilt c
  pub is : IsCommand words c
  pub one : (d : Command) → IsCommand words d → c ≡ d

pub only_ended :
    (words : List (List ℕ)) (s : FolderState) (c : Command) (result : Result End Cut) → IsOnly words c → IfOk result (EndsOver s c) →
    IfOk result (HasEnd words s)
only_ended words s c (Err cut) only over = tt
only_ended words s c (Ok end) only over = record {
  input = over.input;
  told = λ d built is. subst (λ x. IsInput s x over.input) (only.one d is) over.told;
  ends = by_case end over.ends;
}
  where
    by_case : (e : End) → EndsAs c over.input e → Ends words over.input e
    by_case Usage ends = absurd ends
    by_case (Refused r) ends = (c, only.built, only.is, ends)
    by_case (Answered a) ends = (c, only.built, only.is, ends)

pub only_right :
    (words : List (List ℕ)) (s : FolderState) (c : Command) (result : Result End Cut) → IsOnly words c →
    ((i : Input) (p : Problem) → IsStoredInput s c i → IsSubject c i p → IfOk result (IsRightEnd c p i.second)) →
    (d : Command) (i : Input) (p : Problem) → IsBuilt d → IsCommand words d → IsStoredInput s d i → IsSubject d i p →
    IfOk result (IsRightEnd d p i.second)
only_right words s c result only right d i p built is stored subject =
    subst (λ x. IsStoredInput s x i → IsSubject x i p → IfOk result (IsRightEnd x p i.second)) (only.one d is) (right i p) stored subject

pub only_complete :
    (words : List (List ℕ)) (s n : FolderState) (c : Command) (result : Result End Cut) → IsOnly words c →
    ((i : Input) (end : End) → EndsAs c i end → WasRead s n c i end → MatchResult result (λ e. e ≡ end) (λ cut. cut ≡ Memory)) →
    (i : Input) (end : End) → Ends words i end → ((d : Command) → IsBuilt d → IsCommand words d → WasRead s n d i end) →
    MatchResult result (λ e. e ≡ end) (λ cut. cut ≡ Memory)
only_complete words s n c result only complete i Usage ends was = absurd (ends c only.built only.is)
only_complete words s n c result only complete i (Refused r) ends was =
    complete i (Refused r) (subst (λ x. EndsAs x i (Refused r)) (sym (only.one ends.0 ends.2)) ends.3) (was c only.built only.is)
only_complete words s n c result only complete i (Answered a) ends was =
    complete i (Answered a) (subst (λ x. EndsAs x i (Answered a)) (sym (only.one ends.0 ends.2)) ends.3) (was c only.built only.is)

pub only_answered :
    (words : List (List ℕ)) (s n : FolderState) (c : Command) (result : Result End Cut) → IsOnly words c →
    (CanAnswer s n c → MatchResult result IsAnAnswer (λ cut. cut ≡ Memory)) → (d : Command) → IsBuilt d → IsCommand words d →
    CanAnswer s n d → MatchResult result IsAnAnswer (λ cut. cut ≡ Memory)
only_answered words s n c result only answered d built is can = answered (subst (CanAnswer s n) (sym (only.one d is)) can)

-- words that are no command that is built end as usage, and in no other way
pub usage_ended : (words : List (List ℕ)) (s : FolderState) → IsUsage words → HasEnd words s Usage
usage_ended words s never = record {
  input = record { problem = []; second = [] };
  told = λ d built is. absurd (never d built is);
  ends = never;
}

pub usage_complete : (words : List (List ℕ)) (i : Input) (end : End) → IsUsage words → Ends words i end → Usage ≡ end
usage_complete words i Usage never ends = refl
usage_complete words i (Refused r) never ends = absurd (never ends.0 ends.1 ends.2)
usage_complete words i (Answered a) never ends = absurd (never ends.0 ends.1 ends.2)
