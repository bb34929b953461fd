-- How a run ends, by its words and by the bytes that it read.
use Rattle.std.specs.Prelude.{◌≡◌, ◌⊎◌, ℕ, List, [], Option, None, Some, Contains, Bool, true, false}
use Rattle.std.specs.Option.{option_map}
use Rattle.rf_io.specs.Folder.{FolderState, IsMissing, ReadFailed, Stores}
use Rattle.rf_grow.specs.Grown.{IsGrown}
use Rattle.rf_problem.specs.declared.problem.Problem.{Problem}
use Rattle.rf_words.specs.Meaning.{IsCommand}
use Rattle.rf_words.specs.declared.request.Command.{Command}
use Rattle.rf_words.specs.declared.request.Command.TheVariants.{Grow}
use Rattle.rf_run.specs.declared.end.End.{End}
use Rattle.rf_run.specs.declared.end.End.TheVariants.{Usage, Refused, Answered}
use Rattle.rf_run.specs.declared.refusal.Refusal.{Refusal}
use Rattle.rf_run.specs.Accepted.{IsAccepted}
use Rattle.rf_run.specs.Answers.{Answers}
use Rattle.rf_run.specs.Commands.{IsBuilt, files_of, problem_file, second_file}
use Rattle.rf_run.specs.Refuses.{HasForm, RefusesProblem, RefusesSecond, is_of_second}

-- the bytes that a run read: those of the problem, and those of the second file, none where the command has no such file
pub record Input : Type 0 where
  pub problem : List ℕ
  pub second : List ℕ

-- a command is about this problem: the one that its file is a text of, or that of its number
abbrev pub IsSubject : Command → Input → Problem → Type 0
IsSubject (Grow n) i p = IsGrown n p
IsSubject _ i p = IsAccepted i.problem p

-- the problem of a command is refused
abbrev pub RefusesSubject : Command → Input → Refusal → Type 0
RefusesSubject (Grow n) i r = ⊥
RefusesSubject _ i r = RefusesProblem i.problem r

-- a command ends so on this input: its problem is refused, or its second file, or it has an answer
abbrev pub EndsAs : Command → Input → End → Type 0
EndsAs c i Usage = ⊥
EndsAs c i (Refused r) = RefusesSubject c i r ⊎ ((p : Problem) × IsSubject c i p × RefusesSecond c p i.second r)
EndsAs c i (Answered a) = (p : Problem) × IsSubject c i p × Answers c p i.second a

-- no command that is built has these words
abbrev pub IsUsage : List (List ℕ) → Type 0
IsUsage words = (c : Command) → IsBuilt c → IsCommand words c → ⊥

-- a run with these words ends so on this input
abbrev pub Ends : List (List ℕ) → Input → End → Type 0
Ends words i Usage = IsUsage words
Ends words i (Refused r) = (c : Command) × IsBuilt c × IsCommand words c × EndsAs c i (Refused r)
Ends words i (Answered a) = (c : Command) × IsBuilt c × IsCommand words c × EndsAs c i (Answered a)

-- the bytes are those of the file, where there is a file and the folder tells what it stores
abbrev pub IsRead : FolderState → Option (List ℕ) → List ℕ → Type 0
IsRead folder None bytes = bytes ≡ []
IsRead folder (Some name) bytes = (file : List ℕ) → Stores folder name file → bytes ≡ file

-- the name of the second file
abbrev pub second_name : Command → Option (List ℕ)
second_name c = option_map (λ s. s.name) (second_file c)

-- the input is what the folder tells of each file that the command names
pub record IsInput (folder : FolderState) (c : Command) (i : Input) : Type 0 where
  pub problem : IsRead folder (problem_file c) i.problem
  pub second : IsRead folder (second_name c) i.second

-- a run with these words ends so on what the folder tells
pub record HasEnd (words : List (List ℕ)) (folder : FolderState) (end : End) : Type 0 where
  pub input : Input
  pub told : (c : Command) → IsBuilt c → IsCommand words c → IsInput folder c input
  pub ends : Ends words input end

-- the folder tells that the file, where there is one, has these bytes
abbrev pub IsStored : FolderState → Option (List ℕ) → List ℕ → Type 0
IsStored folder None bytes = Unit {0}
IsStored folder (Some name) bytes = Stores folder name bytes

-- no read of the file, where there is one, has failed in between
abbrev pub NoReadFailed : FolderState → FolderState → Option (List ℕ) → Type 0
NoReadFailed old new None = Unit {0}
NoReadFailed old new (Some name) = ReadFailed old new name → ⊥

-- the folder tells that the files of a command have the bytes of the input
pub record IsStoredInput (folder : FolderState) (c : Command) (i : Input) : Type 0 where
  pub told : IsInput folder c i
  pub problem : IsStored folder (problem_file c) i.problem
  pub second : IsStored folder (second_name c) i.second

-- whether the second file is read before a run ends so: only where the problem is accepted
abbrev pub reads_second : End → Bool
reads_second Usage = false
reads_second (Refused r) = is_of_second r
reads_second (Answered a) = true

-- the input is told of the files that are read before a run ends so, and no read of them failed
pub record WasRead (old new : FolderState) (c : Command) (i : Input) (end : End) : Type 0 where
  pub told : IsInput old c i
  pub problem : IsStored old (problem_file c) i.problem
  pub problem_read : NoReadFailed old new (problem_file c)
  pub second : reads_second end ≡ true → IsStored old (second_name c) i.second
  pub second_read : reads_second end ≡ true → NoReadFailed old new (second_name c)

-- nothing keeps a command from its answer: the folder tells its files, the problem is accepted, the second file has its form, and no
-- read of them failed
pub record CanAnswer (old new : FolderState) (c : Command) : Type 0 where
  pub input : Input
  pub problem : Problem
  pub stored : IsStoredInput old c input
  pub subject : IsSubject c input problem
  pub formed : HasForm c problem input.second
  pub problem_read : NoReadFailed old new (problem_file c)
  pub second_read : NoReadFailed old new (second_name c)

-- a read failed of a file that the words name
abbrev pub AFileFailed : List (List ℕ) → FolderState → FolderState → Type 0
AFileFailed words old new =
    (c : Command) × IsBuilt c × IsCommand words c × (name : List ℕ) × Contains (files_of c) name × ReadFailed old new name

-- the folder tells that there is no second file, and the problem is accepted
pub record MissesSecond (folder : FolderState) (c : Command) : Type 0 where
  pub name : List ℕ
  pub input : Input
  pub problem : Problem
  pub named : second_name c ≡ Some name
  pub missing : IsMissing folder name
  pub stored : IsStored folder (problem_file c) input.problem
  pub subject : IsSubject c input problem

-- the folder tells that a file is missing that the command reads
abbrev pub MissesFile : FolderState → Command → Type 0
MissesFile folder c =
    ((name : List ℕ) × (problem_file c ≡ Some name) × IsMissing folder name) ⊎ MissesSecond folder c
