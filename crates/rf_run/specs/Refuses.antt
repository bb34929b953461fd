-- Why the input of a command is refused.
use Rattle.std.specs.Prelude.{◌≡◌, ◌≤◌, ◌<◌, ℕ, List, length, take, Option, None, Some, Bool, true, false}
use Rattle.rf_problem.specs.declared.problem.Problem.{Problem}
use Rattle.rf_check.specs.Documents.{MeetsRejected}
use Rattle.rf_graph.specs.BadLine.{IsBadLine}
use Rattle.rf_graph.specs.declared.graph.Graph.{Graph as Drawing}
use Rattle.rf_source.specs.Source.{SourceFault}
use Rattle.rf_words.specs.declared.request.Command.{Command}
use Rattle.rf_words.specs.declared.request.Command.TheVariants.{Check, Session, Verify}
use Rattle.rf_run.specs.declared.refusal.File.{File as Sort}
use Rattle.rf_run.specs.declared.refusal.File.TheVariants.{Problem as OfProblem, Graph}
use Rattle.rf_run.specs.declared.refusal.Refusal.{Refusal}
use Rattle.rf_run.specs.declared.refusal.Refusal.TheVariants.{TooLong, Problem as NoProblem, BadLine}
use Rattle.rf_run.specs.declared.refusal.TheConstants.{GRAPH_LIMIT, PROBLEM_LIMIT, TREE_LIMIT}
use Rattle.rf_run.specs.Accepted.{IsDrawn}
use Rattle.rf_run.specs.Commands.{SecondFile, second_file}

-- the bytes of the problem file are too long, or no problem with this fault
abbrev pub RefusesProblem : List ℕ → Refusal → Type 0
RefusesProblem bytes (TooLong OfProblem) = PROBLEM_LIMIT < length bytes
RefusesProblem bytes (NoProblem fault) = (length bytes ≤ PROBLEM_LIMIT) × SourceFault bytes fault
RefusesProblem bytes _ = ⊥

-- the bytes of the second file are longer than its limit
abbrev pub IsTooLong : Option SecondFile → List ℕ → Sort → Type 0
IsTooLong None second sort = ⊥
IsTooLong (Some file) second sort = (sort ≡ file.sort) × (file.limit < length second)

-- no line of a tree is rejected within the limit, so that its length decides
abbrev pub StandsSoFar : Command → Problem → List ℕ → Type 0
StandsSoFar (Verify file tree) p second = (line : ℕ) → MeetsRejected p (take TREE_LIMIT second) line → ⊥
StandsSoFar _ p second = Unit {0}

-- the second file of a command has this first bad line; lines are counted from 1
abbrev pub HasBadLine : Command → Problem → List ℕ → Sort → ℕ → Type 0
HasBadLine (Check file graph) p second Graph line = (length second ≤ GRAPH_LIMIT) × IsBadLine p second line
HasBadLine _ p second sort line = ⊥

-- the second file of a command is refused, where the problem is accepted
abbrev pub RefusesSecond : Command → Problem → List ℕ → Refusal → Type 0
RefusesSecond c p second (TooLong sort) = IsTooLong (second_file c) second sort × StandsSoFar c p second
RefusesSecond c p second (NoProblem fault) = ⊥
RefusesSecond c p second (BadLine sort line) = HasBadLine c p second sort line

-- the second file of a command, where it has one, has its form: there is nothing in it to refuse. A tree may have any bytes
abbrev pub HasForm : Command → Problem → List ℕ → Type 0
HasForm (Check file graph) p second = (g : Drawing) × IsDrawn second p g
HasForm (Verify file tree) p second = length second ≤ TREE_LIMIT
HasForm (Session file script) p second = ⊥
HasForm _ p second = Unit {0}

-- whether a refusal is one of the second file, which is read after the problem
abbrev pub is_of_second : Refusal → Bool
is_of_second (TooLong OfProblem) = false
is_of_second (NoProblem fault) = false
is_of_second _ = true
