-- For private functions: the stages of a run, and what each answers.
use Rattle.std.specs.Prelude.{◌≡◌, ◌<◌, ◌≤◌, ◌⊎◌, ℕ, List, [], codes, length, take, Option, None, Some, Result, Ok, Err}
use Rattle.std.specs.Option.{option_map}
use Rattle.rf_check.specs.Documents.{IsTreeVerdict, MeetsRejected}
use Rattle.rf_check.specs.Verifying.{HasJudged, fed as bytes_fed}
use Rattle.rf_check.specs.declared.verdict.TreeVerdict.{TreeVerdict}
use Rattle.rf_check.specs.declared.verifier.TreeVerifier.{TreeVerifier}
use Rattle.rf_io.specs.Folder.{FolderState, IsLong, IsTold, ReadFailed, Stores}
use Rattle.rf_problem.specs.declared.problem.Problem.{Problem}
use Rattle.rf_io.specs.declared.read.ReadError.{ReadError}
use Rattle.rf_io.specs.declared.read.ReadError.TheVariants.{TooLong as LongFile, Fault, Memory as NoRoom}
use Rattle.rf_words.specs.declared.request.Command.{Command}
use Rattle.rf_run.specs.declared.end.Cut.{Cut}
use Rattle.rf_run.specs.declared.end.Cut.TheVariants.{ReadFault, Memory}
use Rattle.rf_run.specs.declared.job.Second.{Second}
use Rattle.rf_run.specs.declared.refusal.File.{File as Sort}
use Rattle.rf_run.specs.declared.refusal.File.TheVariants.{Tree}
use Rattle.rf_run.specs.declared.refusal.TheConstants.{TREE_LIMIT}
use Rattle.rf_run.specs.declared.end.End.{End}
use Rattle.rf_run.specs.declared.end.End.TheVariants.{Usage, Refused as EndsRefused, Answered as EndsAnswered}
use Rattle.rf_run.specs.declared.refusal.Refusal.{Refusal}
use Rattle.rf_run.specs.declared.refusal.Refusal.TheVariants.{TooLong}
use Rattle.rf_run.specs.declared.stop.Stop.{Stop}
use Rattle.rf_run.specs.declared.stop.Stop.TheVariants.{Refused, Cut as WasCut}
use Rattle.rf_run.specs.declared.status.Status.{Status}
use Rattle.rf_run.specs.declared.status.Status.TheVariants.{ReadFault as ReadFaulted, WriteFault as WriteFaulted, NoMemory}
use Rattle.rf_io.specs.Sink.{SinkState}
use Rattle.rf_run.specs.Leaves.{NoWriteFailed, status_of}
use Rattle.rf_run.specs.Commands.{SecondFile}
use Rattle.rf_run.specs.Answers.{Answers}
use Rattle.rf_run.specs.Ends.{EndsAs, Input, IsInput, IsRead, IsStored, second_name}
use Rattle.rf_run.specs.Refuses.{RefusesSecond}

-- the input of a run that reads no file
abbrev pub no_input : Input
no_input = record { problem = []; second = [] }

-- a stage was cut short: a read failed, or memory ran out
abbrev pub IsCut : Stop → Type 0
IsCut (Refused r) = ⊥
IsCut (WasCut cut) = Unit {0}

-- the end is an answer
abbrev pub IsAnAnswer : End → Type 0
IsAnAnswer (EndsAnswered a) = Unit {0}
IsAnAnswer _ = ⊥

-- the end of a run that stops so
abbrev pub end_of_stop : Stop → Result End Cut
end_of_stop (Refused r) = Ok (EndsRefused r)
end_of_stop (WasCut cut) = Err cut

-- why a file of this sort can't be read
abbrev pub stop_of_read : ReadError → Sort → Stop
stop_of_read LongFile sort = Refused (TooLong sort)
stop_of_read Fault sort = WasCut ReadFault
stop_of_read NoRoom sort = WasCut Memory

-- what is known of a second file by its look-up
abbrev pub second_of : Option Second → Option SecondFile
second_of second = option_map (λ s. record { name = s.name.now; sort = s.sort; limit = s.limit }) second

-- the second file was read whole, as far as the folder tells, and is within its limit
abbrev pub IsSecond : FolderState → Option SecondFile → List ℕ → Type 0
IsSecond folder None bytes = bytes ≡ []
IsSecond folder (Some file) bytes = IsTold folder file.name bytes × (length bytes ≤ file.limit)

-- the second file is longer than its limit, as far as the folder tells
abbrev pub IsLongSecond : FolderState → Option SecondFile → Refusal → Type 0
IsLongSecond folder None r = ⊥
IsLongSecond folder (Some file) r = (r ≡ TooLong file.sort) × IsLong folder file.name file.limit

-- a read of the second file failed
abbrev pub SecondFailed : FolderState → FolderState → Option SecondFile → Type 0
SecondFailed old new None = ⊥
SecondFailed old new (Some file) = ReadFailed old new file.name

-- the bytes are within the limit of the command's second file
abbrev pub IsWithin : Option SecondFile → List ℕ → Type 0
IsWithin None bytes = Unit {0}
IsWithin (Some file) bytes = length bytes ≤ file.limit

-- a command ends so after its problem, on the bytes of its second file
abbrev pub EndsOn : Command → Problem → List ℕ → End → Type 0
EndsOn c p second Usage = ⊥
EndsOn c p second (EndsRefused r) = RefusesSecond c p second r
EndsOn c p second (EndsAnswered a) = Answers c p second a

-- the same on bytes that the folder tells of that file
pub record EndsAfter (folder : FolderState) (c : Command) (p : Problem) (end : End) : Type 0 where
  pub second : List ℕ
  pub told : IsRead folder (second_name c) second
  pub ends : EndsOn c p second end

-- the folder tells that the second file has these bytes
pub record IsStoredSecond (folder : FolderState) (c : Command) (second : List ℕ) : Type 0 where
  pub told : IsRead folder (second_name c) second
  pub stored : IsStored folder (second_name c) second

-- a read of the second file, which has this name, failed
pub record ReadOfSecondFailed (old new : FolderState) (c : Command) : Type 0 where
  pub name : List ℕ
  pub named : second_name c ≡ Some name
  pub failed : ReadFailed old new name

-- the command ends so on what the folder tells of its files
pub record EndsOver (folder : FolderState) (c : Command) (end : End) : Type 0 where
  pub input : Input
  pub told : IsInput folder c input
  pub ends : EndsAs c input end

-- the verdict on the tree in a file, as far as the folder tells; where it has more bytes than its limit, a line is rejected within that
pub record IsJudgedFile (folder : FolderState) (name : List ℕ) (p : Problem) (v : TreeVerdict) : Type 0 where
  pub bytes : List ℕ
  pub told : IsTold folder name bytes
  pub judged : IsTreeVerdict p bytes v
  pub within : (length bytes ≤ TREE_LIMIT) ⊎ ((line : ℕ) × MeetsRejected p (take TREE_LIMIT bytes) line)

-- the file has more bytes than its limit, as far as the folder tells, and no line is rejected within that
pub record IsLongTree (folder : FolderState) (name : List ℕ) (p : Problem) (r : Refusal) : Type 0 where
  pub bytes : List ℕ
  pub told : IsTold folder name bytes
  pub refusal : r ≡ TooLong Tree
  pub long : TREE_LIMIT < length bytes
  pub stands : (line : ℕ) → MeetsRejected p (take TREE_LIMIT bytes) line → ⊥

-- the verifier was fed the bytes of the file up to this offset, as far as the folder tells, and rejected no line
pub record IsJudgedTo (folder : FolderState) (name : List ℕ) (p : Problem) (v : TreeVerifier) (at : ℕ) : Type 0 where
  pub bytes : List ℕ
  pub judged : HasJudged p v bytes
  pub count : length bytes ≡ at
  pub fed : bytes_fed v ≡ at
  pub short : at ≤ TREE_LIMIT
  pub begun : (file : List ℕ) → Stores folder name file → bytes ≡ take at file

-- the status of a run that is cut short, and its line on the error output
abbrev pub status_of_cut : Cut → Status
status_of_cut ReadFault = ReadFaulted
status_of_cut Memory = NoMemory

abbrev pub line_of_cut : Cut → List ℕ
line_of_cut ReadFault = codes "read fault\n"
line_of_cut Memory = codes "out of memory\n"

-- the status is that of the end, or memory ran out, or a write of the answer failed
abbrev pub LeftAs : End → Status → SinkState → SinkState → Type 0
LeftAs end status old new =
    (status ≡ status_of end) ⊎ ((status ≡ NoMemory) ⊎ ((status ≡ WriteFaulted) × (NoWriteFailed end old new → ⊥)))
