use Rattle.std.specs.Prelude.{List, [], ◌∷◌, ◌++◌, Some, if◌then◌else◌}
use Rattle.rf_lexer.specs.declared.token.Kind.{Kind}
use Rattle.rf_lexer.specs.declared.token.Kind.TheVariants.{Quoted, Name as Identifier}
use Rattle.rf_syntax.specs.declared.name.Name.{Name}
use Rattle.rf_syntax.specs.declared.name.SymbolName.{SymbolName}
use Rattle.rf_syntax.specs.Parts.{optional_after}
use Rattle.rf_syntax.specs.Piece.{Piece}
use Rattle.rf_syntax.specs.Terminals.{colon_colon}

-- an identifier that isn't a keyword, or a quoted name
abbrev pub kind_of_name : Name → Kind
kind_of_name n = (if n.quoted then Quoted n.text else Identifier n.text)

-- NAME
abbrev pub name_pieces : Name → List Piece
name_pieces n = record { kind = kind_of_name n; at = Some n.at } ∷ []

-- symbol = NAME [ "::" NAME ]
abbrev pub symbol_pieces : SymbolName → List Piece
symbol_pieces s = name_pieces s.name ++ optional_after colon_colon name_pieces s.member
