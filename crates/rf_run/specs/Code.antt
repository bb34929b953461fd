use Rattle.std.specs.Prelude.{ℕ}
use Rattle.rf_run.specs.declared.status.Status.{Status}
use Rattle.rf_run.specs.declared.status.Status.TheVariants.{Yes, No, Usage, Refused, ReadFault, WriteFault, Unfinished, NoMemory}

-- the exit status of the program
abbrev pub code_of : Status → ℕ
code_of Yes = 0
code_of No = 1
code_of Usage = 2
code_of Refused = 3
code_of ReadFault = 4
code_of WriteFault = 5
code_of Unfinished = 6
code_of NoMemory = 7
