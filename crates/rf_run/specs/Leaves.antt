-- What a run leaves on its output and on its error output, by its status.
use Rattle.std.specs.Prelude.{◌≡◌, ◌⊎◌, ℕ, List, codes}
use Rattle.rf_io.specs.Causes.{Rose}
use Rattle.rf_io.specs.Sink.{Appends, AppendsPrefix, IsUntouched, SinkState}
use Rattle.rf_problem.specs.declared.problem.Problem.{Problem}
use Rattle.rf_words.specs.declared.request.Command.{Command}
use Rattle.rf_run.specs.declared.end.End.{End}
use Rattle.rf_run.specs.declared.end.End.TheVariants.{Usage as EndsUsage, Refused as EndsRefused, Answered}
use Rattle.rf_run.specs.declared.end.Reply.{Reply}
use Rattle.rf_run.specs.declared.end.Sign.{Sign}
use Rattle.rf_run.specs.declared.end.Sign.TheVariants.{Yes as SaysYes, No as SaysNo, Unfinished as SaysUnfinished}
use Rattle.rf_run.specs.declared.refusal.Refusal.{Refusal}
use Rattle.rf_run.specs.declared.status.Status.{Status}
use Rattle.rf_run.specs.declared.status.Status.TheVariants.{Yes, No, Usage, Refused, ReadFault, WriteFault, Unfinished, NoMemory}
use Rattle.rf_run.specs.Answers.{IsRight}
use Rattle.rf_run.specs.Line.{line_of}

-- the status of an answer, and of an end
abbrev pub status_of_sign : Sign → Status
status_of_sign SaysYes = Yes
status_of_sign SaysNo = No
status_of_sign SaysUnfinished = Unfinished

abbrev pub status_of : End → Status
status_of EndsUsage = Usage
status_of (EndsRefused r) = Refused
status_of (Answered a) = status_of_sign a.sign

-- the whole of an answer was written that has this sign
abbrev pub WroteAnswer : (End → Type 0) → SinkState → SinkState → Sign → Type 0
WroteAnswer P old new sign = (a : Reply) × P (Answered a) × (a.sign ≡ sign) × Appends old new a.text

-- what a run leaves on its output; P says of its end what is known of it
abbrev pub Wrote : (End → Type 0) → SinkState → SinkState → Status → Type 0
Wrote P old new Yes = WroteAnswer P old new SaysYes
Wrote P old new No = WroteAnswer P old new SaysNo
Wrote P old new Unfinished = WroteAnswer P old new SaysUnfinished
Wrote P old new WriteFault = (a : Reply) × P (Answered a) × AppendsPrefix old new a.text
Wrote P old new _ = IsUntouched old new

-- the line was written or, where a write of it failed, a proper prefix of it
abbrev pub WroteLine : SinkState → SinkState → List ℕ → Type 0
WroteLine old new line = Appends old new line ⊎ (Rose old.faults new.faults × AppendsPrefix old new line)

-- what a run leaves on its error output
abbrev pub Complained : (End → Type 0) → SinkState → SinkState → Status → Type 0
Complained P old new Usage = P EndsUsage × WroteLine old new (codes "usage\n")
Complained P old new Refused = (r : Refusal) × P (EndsRefused r) × WroteLine old new (line_of r)
Complained P old new ReadFault = WroteLine old new (codes "read fault\n")
Complained P old new WriteFault = WroteLine old new (codes "write fault\n")
Complained P old new NoMemory = WroteLine old new (codes "out of memory\n")
Complained P old new _ = IsUntouched old new

-- an answer is right
abbrev pub IsRightEnd : Command → Problem → List ℕ → End → Type 0
IsRightEnd c p second (Answered a) = IsRight c p second a
IsRightEnd c p second _ = Unit {0}

-- the status of a run that came to an answer: that of the answer, or a write of it failed, or memory ran out
abbrev pub HasAnswered : Status → Type 0
HasAnswered Yes = Unit {0}
HasAnswered No = Unit {0}
HasAnswered Unfinished = Unit {0}
HasAnswered WriteFault = Unit {0}
HasAnswered NoMemory = Unit {0}
HasAnswered _ = ⊥

-- no write of an answer failed
abbrev pub NoWriteFailed : End → SinkState → SinkState → Type 0
NoWriteFailed (Answered a) old new = Rose old.faults new.faults → ⊥
NoWriteFailed _ old new = Unit {0}

-- the run came to this end, or memory ran out
abbrev pub CameTo : End → Status → SinkState → SinkState → SinkState → SinkState → Type 0
CameTo end status out out_now err err_now =
    (status ≡ NoMemory)
    ⊎ ((status ≡ status_of end) × Wrote (λ e. e ≡ end) out out_now status × Complained (λ e. e ≡ end) err err_now status)
