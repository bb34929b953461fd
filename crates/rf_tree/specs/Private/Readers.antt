-- What a reader of lines holds.
use Rattle.std.specs.Prelude.{◌≡◌, ◌⊎◌, ◌+◌, ℕ, List, ◌++◌, length}
use Rattle.rf_tree.specs.Private.Entries.{place_of}
use Rattle.rf_tree.specs.Reading.{IsBad, IsReadTo, IsUnended, Stage, lines_in, texts_in}
use Rattle.rf_tree.specs.declared.entry.Place.TheVariants as place
use Rattle.rf_tree.specs.declared.line.Line.{Line}
use Rattle.rf_tree.specs.declared.line_reader.LineReader.{LineReader}

-- the line that hasn't ended
pub record HoldsLine (reader : LineReader) (stage : Stage) (rest : List ℕ) : Type 0 where
  pub place : reader.place ≡ place_of stage
  pub held : rest ≡ reader.part
  pub unended : IsUnended stage rest

-- a bad line was met
pub record HasMet (reader : LineReader) (stage : Stage) (rest : List ℕ) : Type 0 where
  pub place : reader.place ≡ place.Bad
  pub bad : IsBad stage rest

-- the reader has read these bytes and given these lines
pub record Follows (reader : LineReader) (bytes : List ℕ) (lines : List Line) : Type 0 where
  pub stage : Stage
  pub rest : List ℕ
  pub read : IsReadTo bytes stage rest
  pub held : HoldsLine reader stage rest ⊎ HasMet reader stage rest
  pub number : reader.number ≡ length (texts_in stage) + 1
  pub given : lines ≡ lines_in stage

-- whatever it had read and given, it has read these bytes more and given these lines more
abbrev pub ReadsMore : LineReader → LineReader → List ℕ → List Line → Type 0
ReadsMore old new piece more = (bytes : List ℕ) (lines : List Line) → Follows old bytes lines → Follows new (bytes ++ piece) (lines ++ more)

-- so far in a piece, of which this is left
pub record IsInPiece (old new : LineReader) (piece rest : List ℕ) (more : List Line) : Type 0 where
  pub taken : List ℕ
  pub joined : piece ≡ taken ++ rest
  pub read : ReadsMore old new taken more
