use Rattle.std.specs.Prelude.{List, [], ◌∷◌, ◌++◌, if◌then◌else◌}
use Rattle.std.specs.List.{flat_map}
use Rattle.rf_lexer.specs.declared.token.Kind.{Kind}
use Rattle.rf_syntax.specs.declared.statement.Ast.{Ast}
use Rattle.rf_syntax.specs.declared.statement.Bound.{Bound}
use Rattle.rf_syntax.specs.declared.statement.Item.{Item}
use Rattle.rf_syntax.specs.declared.statement.Statement.{Statement}
use Rattle.rf_syntax.specs.declared.statement.Statement.TheVariants.{Class, Enum, Predicate, Declare, Multi, Atoms, Scope, Assert}
use Rattle.rf_syntax.specs.Assertion.{assertion_pieces}
use Rattle.rf_syntax.specs.Class.{class_pieces}
use Rattle.rf_syntax.specs.Enum.{enum_pieces}
use Rattle.rf_syntax.specs.Name.{name_pieces}
use Rattle.rf_syntax.specs.Parts.{flagged, optional_after, separated}
use Rattle.rf_syntax.specs.Piece.{Piece, kinds_of, terminal}
use Rattle.rf_syntax.specs.Predicate.{predicate_pieces}
use Rattle.rf_syntax.specs.Range.{range_pieces}
use Rattle.rf_syntax.specs.Terminals.{atom_word, declare_word, default_word, multi_word, scope_word, comma, dot, equal, plus_equal}

-- item = NAME [ "=" range ]
abbrev pub item_pieces : Item → List Piece
item_pieces i = name_pieces i.name ++ optional_after equal range_pieces i.range

-- bound = NAME ( "=" | "+=" ) range
abbrev pub bound_pieces : Bound → List Piece
bound_pieces b =
    name_pieces b.name
    ++ terminal (if b.only_new then plus_equal else equal) ∷ range_pieces b.range

-- a statement, by its production
abbrev pub statement_pieces : Statement → List Piece
statement_pieces (Class is_abstract name supers body) = class_pieces is_abstract name supers body
statement_pieces (Enum name literals) = enum_pieces name literals
statement_pieces (Predicate start name params clauses) = predicate_pieces start name params clauses
statement_pieces (Declare names) =
    terminal declare_word ∷ separated comma name_pieces names ++ terminal dot ∷ []
statement_pieces (Multi items) =
    terminal multi_word ∷ separated comma item_pieces items ++ terminal dot ∷ []
statement_pieces (Atoms names) =
    terminal atom_word ∷ separated comma name_pieces names ++ terminal dot ∷ []
statement_pieces (Scope bounds) =
    terminal scope_word ∷ separated comma bound_pieces bounds ++ terminal dot ∷ []
statement_pieces (Assert is_default assertion) =
    flagged is_default default_word ++ assertion_pieces assertion ++ terminal dot ∷ []

-- the kinds of the tokens of a statement
abbrev pub spelled_statement : Statement → List Kind
spelled_statement statement = kinds_of (statement_pieces statement)

-- text = { statement }: the pieces of a whole text
abbrev pub pieces_of : Ast → List Piece
pieces_of ast = flat_map statement_pieces ast.statements

-- the kinds of the tokens of a whole text
abbrev pub spelling_of : Ast → List Kind
spelling_of ast = kinds_of (pieces_of ast)
