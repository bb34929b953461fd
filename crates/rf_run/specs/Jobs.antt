-- For private functions: the command of a job.
use Rattle.std.specs.Prelude.{false}
use Rattle.rf_words.specs.declared.request.Command.{Command}
use Rattle.rf_words.specs.declared.request.Command.TheVariants.{Check, Evaluate, Generate, Grow, Verify}
use Rattle.rf_run.specs.declared.built.BuiltJob.{BuiltJob}
use Rattle.rf_run.specs.declared.built.BuiltJob.TheVariants.{Grow as ToGrow, OverFile}
use Rattle.rf_run.specs.declared.built.FileJob.{FileJob}
use Rattle.rf_run.specs.declared.built.FileJob.TheVariants.{Check as ToCheck, Evaluate as ToEvaluate, Generate as ToGenerate, Verify as ToVerify}

-- of one with a problem in a file
abbrev pub file_command : FileJob → Command
file_command (ToCheck job) = Check job.file job.graph
file_command (ToEvaluate job) = Evaluate job.file
file_command (ToVerify job) = Verify job.file job.tree
file_command (ToGenerate job) = Generate job.file job.seed job.budget false

-- of any
abbrev pub command_of : BuiltJob → Command
command_of (OverFile job) = file_command job
command_of (ToGrow job) = Grow job.n
