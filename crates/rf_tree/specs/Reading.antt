-- What is read of a document whose bytes come piece by piece: its lines so far, and where it goes wrong.
use Rattle.std.specs.Prelude.{◌≡◌, ◌<◌, ◌≤◌, ◌⊎◌, ◌+◌, ◌-◌, ℕ, List, [], ◌∷◌, ◌++◌, All, length, map, take}
use Rattle.rf_text.specs.Line.{NoBreak, joined_lines}
use Rattle.rf_tree.specs.Document.{IsTreeDocument, IsWritable, document_lines, head, line_text}
use Rattle.rf_tree.specs.declared.format.Format.{Format}
use Rattle.rf_tree.specs.declared.format.Format.TheVariants.{One, Two}
use Rattle.rf_tree.specs.declared.line.Line.{Line}

-- how much of a document was read: nothing, its head and some lines, or all of it
pub data Stage : Type 0 where
  outside : Stage
  inside : Format → List Line → Stage
  after_end : Format → List Line → Stage

-- the lines of the tree, and those of the document, that were read
abbrev pub lines_in : Stage → List Line
lines_in outside = []
lines_in (inside format lines) = lines
lines_in (after_end format lines) = lines

abbrev pub texts_in : Stage → List (List ℕ)
texts_in outside = []
texts_in (inside format lines) = head format ∷ map line_text lines
texts_in (after_end format lines) = document_lines format lines

-- a document of its format may have the lines that were read
abbrev pub IsPossible : Stage → Type 0
IsPossible outside = Unit {0}
IsPossible (inside format lines) = All (IsWritable format) lines
IsPossible (after_end format lines) = All (IsWritable format) lines

-- how many bytes the next line may have, the line feed left out: 256 in format 2 and for the head, 128 in format 1; none after the end
abbrev pub line_limit : Format → ℕ
line_limit One = 128
line_limit Two = 256

abbrev pub room_at : Stage → ℕ
room_at outside = 256
room_at (inside format lines) = line_limit format
room_at (after_end format lines) = 0

-- no document has this line after what was read
abbrev pub IsRefused : Stage → List ℕ → Type 0
IsRefused stage text =
    (format : Format) (lines : List Line) (more : List (List ℕ)) → All (IsWritable format) lines
    → document_lines format lines ≡ texts_in stage ++ text ∷ more → ⊥

-- the next line is one that no document has there and has ended, with its line feed, or it is too long already
pub record IsEndedBadly (stage : Stage) (rest : List ℕ) : Type 0 where
  pub text : List ℕ
  pub more : List ℕ
  pub ended : rest ≡ text ++ 10 ∷ more
  pub whole : NoBreak text
  pub refused : IsRefused stage text

pub record IsTooLong (stage : Stage) (rest : List ℕ) : Type 0 where
  pub long : room_at stage < length rest
  pub whole : NoBreak (take (room_at stage + 1) rest)

abbrev pub IsBad : Stage → List ℕ → Type 0
IsBad stage rest = IsEndedBadly stage rest ⊎ IsTooLong stage rest

-- the next line hasn't ended, and isn't too long
pub record IsUnended (stage : Stage) (rest : List ℕ) : Type 0 where
  pub short : length rest ≤ room_at stage
  pub whole : NoBreak rest

-- so much of a document was read of the bytes, and these are left
pub record IsReadTo (bytes : List ℕ) (stage : Stage) (rest : List ℕ) : Type 0 where
  pub possible : IsPossible stage
  pub begun : bytes ≡ joined_lines (texts_in stage) ++ rest

-- the lines of a tree with which the bytes begin, up to a line that hasn't ended or is bad
pub record HasLines (bytes : List ℕ) (lines : List Line) : Type 0 where
  pub stage : Stage
  pub rest : List ℕ
  pub read : IsReadTo bytes stage rest
  pub stopped : IsUnended stage rest ⊎ IsBad stage rest
  pub given : lines ≡ lines_in stage

-- a bad line is met in the bytes; lines of the document are counted from 1
pub record MeetsBadLine (bytes : List ℕ) (line : ℕ) : Type 0 where
  pub stage : Stage
  pub rest : List ℕ
  pub read : IsReadTo bytes stage rest
  pub bad : IsBad stage rest
  pub number : line ≡ length (texts_in stage) + 1

-- the bytes have so many lines at least, and some tree document begins with them
pub record BeginsTree (bytes : List ℕ) (count : ℕ) : Type 0 where
  pub texts : List (List ℕ)
  pub rest : List ℕ
  pub format : Format
  pub lines : List Line
  pub more : List (List ℕ)
  pub writable : All (IsWritable format) lines
  pub many : length texts ≡ count
  pub begun : bytes ≡ joined_lines texts ++ rest
  pub continued : document_lines format lines ≡ texts ++ more

-- the first line, counted from 1, of which no tree document begins with the lines so far; a line that is missing counts
pub record IsBadTreeLine (bytes : List ℕ) (line : ℕ) : Type 0 where
  pub none : (lines : List Line) → IsTreeDocument lines bytes → ⊥
  pub positive : 0 < line
  pub before : BeginsTree bytes (line - 1)
  pub here : BeginsTree bytes line → ⊥
