use Rattle.std.specs.Prelude.{List, ◌∷◌, ◌++◌, Option}
use Rattle.rf_syntax.specs.declared.name.Name.{Name}
use Rattle.rf_syntax.specs.Name.{name_pieces}
use Rattle.rf_syntax.specs.Parts.{dot_or_braces, separated_or_none}
use Rattle.rf_syntax.specs.Piece.{Piece, terminal}
use Rattle.rf_syntax.specs.Terminals.{enum_word, comma}

-- "." | "{" [ NAME { "," NAME } ] "}"
abbrev pub enum_body_pieces : Option (List Name) → List Piece
enum_body_pieces literals = dot_or_braces (separated_or_none comma name_pieces) literals

-- "enum" NAME ( "." | "{" [ NAME { "," NAME } ] "}" )
abbrev pub enum_pieces : Name → Option (List Name) → List Piece
enum_pieces name literals = terminal enum_word ∷ name_pieces name ++ enum_body_pieces literals
