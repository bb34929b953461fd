-- What a reader of tree documents has read.
use Rattle.std.specs.Prelude.{◌≡◌, ℕ, List, length}
use Rattle.rf_tree.specs.Private.Readers.{Follows}
use Rattle.rf_tree.specs.declared.line.Line.{Line}
use Rattle.rf_tree.specs.declared.reader.TreeReader.{TreeReader}

-- how many bytes were fed to it
abbrev pub fed : TreeReader → ℕ
fed reader = reader.fed

-- these bytes were fed to it, and it has given these lines of a tree; it holds the line that hasn't ended, or knows the bad line that was met
pub record HasRead (reader : TreeReader) (bytes : List ℕ) (lines : List Line) : Type 0 where
  pub follows : Follows reader.lines bytes lines
  pub counted : reader.fed ≡ length bytes
