-- How what a search ends with is printed.
use Rattle.std.specs.Prelude.{ℕ, List, [], ◌∷◌, ◌++◌, All, codes, length}
use Rattle.rf_problem.specs.declared.problem.Problem.{Problem}
use Rattle.rf_graph.specs.Document.{IsDocument, document}
use Rattle.rf_graph.specs.Graph.{Fits}
use Rattle.rf_tree.specs.Document.{FitsKind, IsTreeDocument, spaced, tree_document}
use Rattle.rf_tree.specs.Pending.{decisions_in}
use Rattle.rf_tree.specs.declared.format.Format.TheVariants.{Two}
use Rattle.rf_tree.specs.declared.outcome.Outcome.{Outcome}
use Rattle.rf_tree.specs.declared.outcome.Outcome.TheVariants.{Found, Refuted, Unfinished}
use Rattle.rf_run.specs.declared.end.Sign.{Sign}
use Rattle.rf_run.specs.declared.end.Sign.TheVariants.{Yes, No, Unfinished as More}

-- a graph as its document, and the lines of a tree as theirs, in format 2
abbrev pub outcome_text : Problem → Outcome → List ℕ
outcome_text p (Found g) = document p g
outcome_text p (Refuted lines) = tree_document Two lines
outcome_text p (Unfinished lines) = tree_document Two lines

-- two numbers after a word
abbrev pub counts_line : List ℕ → ℕ → ℕ → List ℕ
counts_line word first second = word ++ (spaced (first ∷ second ∷ []) ++ codes "\n")

-- in one line: how many nodes and edges a graph has, how many decisions and lines a tree
abbrev pub outcome_line : Outcome → List ℕ
outcome_line (Found g) = counts_line (codes "graph") (length g.nodes) (length g.edges)
outcome_line (Refuted lines) = counts_line (codes "refuted") (decisions_in lines) (length lines)
outcome_line (Unfinished lines) = counts_line (codes "unfinished") (decisions_in lines) (length lines)

-- a graph is a yes, a refutation a no
abbrev pub sign_of_outcome : Outcome → Sign
sign_of_outcome (Found g) = Yes
sign_of_outcome (Refuted lines) = No
sign_of_outcome (Unfinished lines) = More

-- the text is the document of the graph, or one of the lines
abbrev pub IsDocumentOf : Problem → Outcome → List ℕ → Type 0
IsDocumentOf p (Found g) text = IsDocument p g text
IsDocumentOf p (Refuted lines) text = IsTreeDocument lines text
IsDocumentOf p (Unfinished lines) text = IsTreeDocument lines text

-- for private functions: the graph fits the problem, and each line is of its kind
abbrev pub FitsOutcome : Problem → Outcome → Type 0
FitsOutcome p (Found g) = Fits p g
FitsOutcome p (Refuted lines) = All FitsKind lines
FitsOutcome p (Unfinished lines) = All FitsKind lines
