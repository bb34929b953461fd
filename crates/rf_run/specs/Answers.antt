-- What each command answers, and what its answers promise to the user.
use Rattle.std.specs.Prelude.{◌≡◌, ◌≤◌, ◌⊎◌, ℕ, List, length, take}
use Rattle.rf_problem.specs.declared.problem.Problem.{Problem}
use Rattle.rf_check.specs.Documents.{IsRefutation, IsTreeVerdict, MeetsRejected}
use Rattle.rf_check.specs.declared.verdict.TreeVerdict.{TreeVerdict}
use Rattle.rf_depth.specs.Outcomes.{AreShallow, IsEnough}
use Rattle.rf_graph.specs.Document.{IsDocument}
use Rattle.rf_graph.specs.Violations.{IsVerdict, Sat}
use Rattle.rf_graph.specs.declared.graph.Graph.{Graph}
use Rattle.rf_graph.specs.declared.verdict.Verdict.{Verdict}
use Rattle.rf_search.specs.Outcome.{IsOutcome}
use Rattle.rf_state.specs.State.{IsRoot, State}
use Rattle.rf_tree.specs.Document.{IsTreeDocument}
use Rattle.rf_tree.specs.Lines.{CanStand, Open, Valid}
use Rattle.rf_tree.specs.Pending.{decisions_in}
use Rattle.rf_tree.specs.declared.line.Line.{Line}
use Rattle.rf_tree.specs.declared.outcome.Outcome.{Outcome}
use Rattle.rf_tree.specs.declared.outcome.Outcome.TheVariants.{Found, Refuted, Unfinished as Spent}
use Rattle.rf_valuation.specs.Valuation.{IsValuation}
use Rattle.rf_words.specs.declared.request.Command.{Command}
use Rattle.rf_words.specs.declared.request.Command.TheVariants.{Check, Evaluate, Generate, Grow, Verify}
use Rattle.rf_run.specs.declared.end.Reply.{Reply}
use Rattle.rf_run.specs.declared.end.Sign.{Sign}
use Rattle.rf_run.specs.declared.end.Sign.TheVariants.{Yes, No, Unfinished}
use Rattle.rf_run.specs.Accepted.{IsDrawn}
use Rattle.rf_run.specs.declared.refusal.TheConstants.{TREE_LIMIT}
use Rattle.rf_run.specs.declared.grow.TheConstants.{GROWTH_BUDGET}
use Rattle.rf_run.specs.Outcome.{outcome_line, outcome_text, sign_of_outcome}
use Rattle.rf_run.specs.TreeVerdict.{sign_of_tree, tree_verdict_text}
use Rattle.rf_run.specs.Verdict.{sign_of, verdict_text}

-- `generate` answers what a search by this seed ends with, with at most so many decisions
pub record AnswersGenerate (p : Problem) (seed budget : ℕ) (reply : Reply) : Type 0 where
  pub outcome : Outcome
  pub ends : IsOutcome p seed budget outcome
  pub text : reply.text ≡ outcome_text p outcome
  pub sign : reply.sign ≡ sign_of_outcome outcome

-- `check` answers the verdict on the graph
pub record AnswersCheck (p : Problem) (second : List ℕ) (reply : Reply) : Type 0 where
  pub graph : Graph
  pub verdict : Verdict
  pub drawn : IsDrawn second p graph
  pub judged : IsVerdict p graph verdict
  pub text : reply.text ≡ verdict_text p verdict
  pub sign : reply.sign ≡ sign_of verdict

-- `evaluate` answers the values of the predicates in the state in which nothing was added
pub record AnswersEvaluate (p : Problem) (reply : Reply) : Type 0 where
  pub root : State
  pub is_root : IsRoot p root
  pub text : IsValuation p root reply.text
  pub sign : reply.sign ≡ Yes

-- `verify` answers what the file is as a tree; where the file is longer than its limit, a line is rejected within that
pub record AnswersVerify (p : Problem) (second : List ℕ) (reply : Reply) : Type 0 where
  pub verdict : TreeVerdict
  pub judged : IsTreeVerdict p second verdict
  pub within : (length second ≤ TREE_LIMIT) ⊎ ((line : ℕ) × MeetsRejected p (take TREE_LIMIT second) line)
  pub text : reply.text ≡ tree_verdict_text verdict
  pub sign : reply.sign ≡ sign_of_tree verdict

-- `grow` answers in one line what a search on the problem of its number ends with, by this number as its seed
pub record AnswersGrow (p : Problem) (n : ℕ) (reply : Reply) : Type 0 where
  pub outcome : Outcome
  pub ends : IsOutcome p n GROWTH_BUDGET outcome
  pub text : reply.text ≡ outcome_line outcome
  pub sign : reply.sign ≡ sign_of_outcome outcome

-- the answer of a command on its problem and the bytes of its second file
abbrev pub Answers : Command → Problem → List ℕ → Reply → Type 0
Answers (Generate file seed budget json) p second reply = AnswersGenerate p seed budget reply
Answers (Check file graph) p second reply = AnswersCheck p second reply
Answers (Evaluate file) p second reply = AnswersEvaluate p reply
Answers (Verify file tree) p second reply = AnswersVerify p second reply
Answers (Grow n) p second reply = AnswersGrow p n reply
Answers _ p second reply = ⊥

-- a yes says that the graph satisfies the problem, a no that it doesn't
abbrev pub IsRightVerdict : Problem → Graph → Sign → Type 0
IsRightVerdict p g Yes = Sat p g
IsRightVerdict p g No = Sat p g → ⊥
IsRightVerdict p g Unfinished = ⊥

-- a yes says that the lines close all that the problem leaves, an unfinished that more lines may come, a no that no document of a tree
-- that can stand has these lines
abbrev pub IsRightTree : Problem → List Line → Sign → Type 0
IsRightTree p lines Yes = Valid p lines
IsRightTree p lines Unfinished = (n : ℕ) × Open p lines n
IsRightTree p lines No = CanStand p lines → ⊥

-- what `verify` promises: its answer is right of the lines of which the file is a document, and a yes says that no graph satisfies the
-- problem, whoever wrote the tree
pub record IsRightRefutation (p : Problem) (second : List ℕ) (reply : Reply) : Type 0 where
  pub lines : (lines : List Line) → IsTreeDocument lines second → IsRightTree p lines reply.sign
  pub no_graph : reply.sign ≡ Yes → (g : Graph) → Sat p g → ⊥

-- the text is the document of a graph that satisfies the problem
pub record IsRightGraph (p : Problem) (text : List ℕ) : Type 0 where
  pub graph : Graph
  pub document : IsDocument p graph text
  pub satisfies : Sat p graph

-- the text is the document of valid lines, a tree that `verify` accepts; where a scope bounds all nodes, none of its ways holds more
-- decisions than the depth of the problem; and no graph satisfies the problem
pub record IsRightRefutedText (p : Problem) (text : List ℕ) : Type 0 where
  pub lines : List Line
  pub document : IsTreeDocument lines text
  pub valid : Valid p lines
  pub accepted : IsRefutation p text (decisions_in lines)
  pub shallow : AreShallow p lines
  pub no_graph : (g : Graph) → Sat p g → ⊥

-- the text is the document of open lines with exactly as many decisions as the budget, each of which is allowed where it stands; where a
-- scope bounds all nodes, none of its ways holds more decisions than the depth of the problem, and the budget is less than two to the power
-- of it
pub record IsRightUnfinishedText (p : Problem) (budget : ℕ) (text : List ℕ) : Type 0 where
  pub lines : List Line
  pub document : IsTreeDocument lines text
  pub unfinished : Open p lines budget
  pub shallow : AreShallow p lines
  pub too_few : IsEnough p budget → ⊥

-- what `generate` promises: a yes is a graph that satisfies, a no a tree that refutes, an unfinished one the tree of a spent budget
abbrev pub IsRightGeneration : Problem → ℕ → List ℕ → Sign → Type 0
IsRightGeneration p budget text Yes = IsRightGraph p text
IsRightGeneration p budget text No = IsRightRefutedText p text
IsRightGeneration p budget text Unfinished = IsRightUnfinishedText p budget text

-- the text counts the nodes and edges of a graph that satisfies the problem
pub record IsRightGraphLine (p : Problem) (text : List ℕ) : Type 0 where
  pub graph : Graph
  pub line : text ≡ outcome_line (Found graph)
  pub satisfies : Sat p graph

-- the text counts the decisions and lines of a tree that `verify` accepts, and no graph satisfies the problem
pub record IsRightRefutedLine (p : Problem) (text : List ℕ) : Type 0 where
  pub lines : List Line
  pub line : text ≡ outcome_line (Refuted lines)
  pub valid : Valid p lines
  pub no_graph : (g : Graph) → Sat p g → ⊥

-- the text counts the decisions and lines of an unfinished tree, with as many decisions as the budget
pub record IsRightUnfinishedLine (p : Problem) (text : List ℕ) : Type 0 where
  pub lines : List Line
  pub line : text ≡ outcome_line (Spent lines)
  pub unfinished : Open p lines GROWTH_BUDGET

-- what `grow` promises
abbrev pub IsRightGrowth : Problem → List ℕ → Sign → Type 0
IsRightGrowth p text Yes = IsRightGraphLine p text
IsRightGrowth p text No = IsRightRefutedLine p text
IsRightGrowth p text Unfinished = IsRightUnfinishedLine p text

-- what an answer promises, in the user's words
abbrev pub IsRight : Command → Problem → List ℕ → Reply → Type 0
IsRight (Generate file seed budget json) p second reply = IsRightGeneration p budget reply.text reply.sign
IsRight (Check file graph) p second reply = (g : Graph) → IsDrawn second p g → IsRightVerdict p g reply.sign
IsRight (Evaluate file) p second reply = (s : State) → IsRoot p s → IsValuation p s reply.text
IsRight (Verify file tree) p second reply = IsRightRefutation p second reply
IsRight (Grow n) p second reply = IsRightGrowth p reply.text reply.sign
IsRight _ p second reply = ⊥

-- the command is a search, with enough of a budget to end with a graph or a refutation of this problem
abbrev pub HasEnough : Command → Problem → Type 0
HasEnough (Generate file seed budget json) p = IsEnough p budget
HasEnough _ p = ⊥
