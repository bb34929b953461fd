-- Which files a command reads, and which commands are built.
use Rattle.std.specs.Prelude.{◌≡◌, ◌≤◌, ℕ, false, List, [], ◌∷◌, ◌++◌, Option, None, Some}
use Rattle.std.specs.Option.{option_map}
use Rattle.rf_bounds.specs.declared.TheConstants.{MOST_DECISIONS}
use Rattle.rf_words.specs.declared.request.TheConstants.{MOST_GROWTH}
use Rattle.rf_words.specs.declared.request.Command.{Command}
use Rattle.rf_words.specs.declared.request.Command.TheVariants.{Generate, Check, Verify, Evaluate, Session, Grow}
use Rattle.rf_run.specs.declared.refusal.File.{File as Sort}
use Rattle.rf_run.specs.declared.refusal.File.TheVariants.{Graph, Script, Tree}
use Rattle.rf_run.specs.declared.refusal.TheConstants.{GRAPH_LIMIT, SCRIPT_LIMIT, TREE_LIMIT}

-- the commands that are built; the words of the others are answered as usage
abbrev pub IsBuilt : Command → Type 0
IsBuilt (Generate file seed budget json) = json ≡ false
IsBuilt (Check file graph) = Unit {0}
IsBuilt (Evaluate file) = Unit {0}
IsBuilt (Verify file tree) = Unit {0}
IsBuilt (Grow n) = Unit {0}
IsBuilt _ = ⊥

-- a budget, and the number of a grown problem, are at least 1 and within their limits
abbrev pub FitsLimits : Command → Type 0
FitsLimits (Generate file seed budget json) = (1 ≤ budget) × (budget ≤ MOST_DECISIONS)
FitsLimits (Grow n) = (1 ≤ n) × (n ≤ MOST_GROWTH)
FitsLimits _ = Unit {0}

-- the file of the problem; `grow` makes its own
abbrev pub problem_file : Command → Option (List ℕ)
problem_file (Generate file seed budget json) = Some file
problem_file (Check file graph) = Some file
problem_file (Verify file tree) = Some file
problem_file (Evaluate file) = Some file
problem_file (Session file script) = Some file
problem_file (Grow n) = None

-- a file that is read after the problem: its name, what it is read as, and the most bytes that it may have
pub record SecondFile : Type 0 where
  pub name : List ℕ
  pub sort : Sort
  pub limit : ℕ

-- the second file
abbrev pub second_file : Command → Option SecondFile
second_file (Check file graph) = Some (record { name = graph; sort = Graph; limit = GRAPH_LIMIT })
second_file (Verify file tree) = Some (record { name = tree; sort = Tree; limit = TREE_LIMIT })
second_file (Session file script) = Some (record { name = script; sort = Script; limit = SCRIPT_LIMIT })
second_file _ = None

-- whether a command reads its second file whole before it looks at it; `verify` judges a tree as it reads it
abbrev pub IsWhole : Command → Type 0
IsWhole (Verify file tree) = ⊥
IsWhole _ = Unit {0}

-- the one thing, or nothing, as a list
abbrev pub as_list : {A : Type 0} → Option A → List A
as_list None = []
as_list (Some a) = a ∷ []

-- the files that a command reads, in this order
abbrev pub files_of : Command → List (List ℕ)
files_of c = as_list (problem_file c) ++ as_list (option_map (λ s. s.name) (second_file c))
