-- What holds of trees, of what is left after their lines, and of documents.
use Rattle.std.specs.Prelude.{◌≡◌, ◌↔◌, ◌++◌, ℕ, true, is_some, Some, List, [], ◌∷◌}
use Rattle.rf_problem.specs.declared.problem.Problem.{Problem}
use Rattle.rf_state.specs.State.{IsRoot, State}
use Rattle.rf_tree.specs.Document.{IsTreeDocument}
use Rattle.rf_tree.specs.Lines.{CanStand, Open, Valid}
use Rattle.rf_tree.specs.Pending.{decisions_in, left_after}
use Rattle.rf_tree.specs.Readers.{HasRead}
use Rattle.rf_tree.specs.Reading.{HasLines, IsBadTreeLine, MeetsBadLine}
use Rattle.rf_tree.specs.Trees.{holes_of}
use Rattle.rf_tree.specs.declared.line.Line.{Line}
use Rattle.rf_tree.specs.declared.reader.TreeReader.{TreeReader}

-- lines are valid exactly where they leave no state to close
abbrev pub ValidIsComputed : Type 0
ValidIsComputed =
    (p : Problem) (s : State) (lines : List Line) → IsRoot p s
    → Valid p lines ↔ (left_after p lines (s ∷ []) ≡ Some [])

-- no line can stand after valid ones
abbrev pub ValidIsWhole : Type 0
ValidIsWhole =
    (p : Problem) (lines : List Line) (line : Line) (more : List Line) → Valid p lines
    → CanStand p (lines ++ line ∷ more) → ⊥

-- lines are open exactly where they leave some state to close, and have as many decisions as stand among them
abbrev pub OpenIsComputed : Type 0
OpenIsComputed =
    (p : Problem) (s : State) (lines : List Line) (n : ℕ) → IsRoot p s
    → Open p lines n ↔ ((first : State) × (rest : List State) × (left_after p lines (s ∷ []) ≡ Some (first ∷ rest)) × (n ≡ decisions_in lines))

-- what they leave are the states at the holes of their tree, the first one first
abbrev pub LeftAreHoles : Type 0
LeftAreHoles =
    (p : Problem) (s : State) (lines : List Line) (n : ℕ) → IsRoot p s → (o : Open p lines n)
    → left_after p lines (s ∷ []) ≡ Some (holes_of p s o.tree)

-- lines can stand exactly where there is an answer to what they leave, be it no state
abbrev pub StandIsComputed : Type 0
StandIsComputed =
    (p : Problem) (s : State) (lines : List Line) → IsRoot p s
    → CanStand p lines ↔ (is_some (left_after p lines (s ∷ [])) ≡ true)

-- where lines can stand, so can the first of them
abbrev pub PrefixesStand : Type 0
PrefixesStand = (p : Problem) (lines more : List Line) → CanStand p (lines ++ more) → CanStand p lines

-- a document is of one list of lines
abbrev pub DocumentIsOfOneList : Type 0
DocumentIsOfOneList = (lines other : List Line) (bytes : List ℕ) → IsTreeDocument lines bytes → IsTreeDocument other bytes → lines ≡ other

-- its lines are the lines with which its bytes begin
abbrev pub DocumentHasLines : Type 0
DocumentHasLines = (lines : List Line) (bytes : List ℕ) → IsTreeDocument lines bytes → HasLines bytes lines

-- bytes begin with one list of lines
abbrev pub LinesAreOnce : Type 0
LinesAreOnce = (lines other : List Line) (bytes : List ℕ) → HasLines bytes lines → HasLines bytes other → lines ≡ other

-- what a reader has given are the lines with which the bytes begin that were fed to it
abbrev pub ReadLinesAreLines : Type 0
ReadLinesAreLines = (reader : TreeReader) (bytes : List ℕ) (lines : List Line) → HasRead reader bytes lines → HasLines bytes lines

-- whatever follows a bad line that was met, it is the first line that no document has, and no more lines of the tree are read
abbrev pub MetLineIsBad : Type 0
MetLineIsBad = (bytes more : List ℕ) (line : ℕ) → MeetsBadLine bytes line → IsBadTreeLine (bytes ++ more) line

abbrev pub MetLineEndsLines : Type 0
MetLineEndsLines =
    (bytes more : List ℕ) (line : ℕ) (lines : List Line) → MeetsBadLine bytes line → HasLines bytes lines → HasLines (bytes ++ more) lines
