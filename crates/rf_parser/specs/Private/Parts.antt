-- Parts of the grammar that aren't productions of their own.
use Rattle.std.specs.Prelude.{◌≡◌, ◌⊎◌, Bool, false, List, [], ◌∷◌, ◌++◌, Option, Some, if◌then◌else◌}
use Rattle.std.specs.List.{flat_map}
use Rattle.rf_lexer.specs.declared.token.Kind.{Kind}
use Rattle.rf_lexer.specs.declared.token.Kind.TheVariants.{Word as WordKind, Mark as MarkKind}
use Rattle.rf_syntax.specs.declared.class.Feature.{Feature}
use Rattle.rf_syntax.specs.declared.class.MultPlace.{MultPlace}
use Rattle.rf_syntax.specs.declared.non_empty.NonEmpty.{NonEmpty}
use Rattle.rf_syntax.specs.declared.name.Name.{Name}
use Rattle.rf_syntax.specs.declared.predicate.BodyLiteral.{BodyLiteral}
use Rattle.rf_syntax.specs.declared.predicate.BodyLiteral.TheVariants.{Call as CallLiteral, Same as SameLiteral, Differ as DifferLiteral}
use Rattle.rf_syntax.specs.declared.statement.Statement.{Statement}
use Rattle.rf_syntax.specs.Class.{feature_pieces, with_mult_pieces}
use Rattle.rf_syntax.specs.Name.{name_pieces}
use Rattle.rf_syntax.specs.Parts.{flagged, in_parens, optional_after, separated, separated_or_none}
use Rattle.rf_syntax.specs.Piece.{Piece, terminal}
use Rattle.rf_syntax.specs.Statement.{statement_pieces}
use Rattle.rf_syntax.specs.Terminals.{abstract_word, atom_word, class_word, declare_word, enum_word, error_word, multi_word, pred_word, scope_word, bang_equal, colon_colon, comma, dot, equal, equal_equal, plus, plus_equal, right_brace}
use Rattle.rf_parser.specs.declared.predicates.CallTail.{CallTail}
use Rattle.rf_parser.specs.declared.predicates.LiteralTail.{LiteralTail}
use Rattle.rf_parser.specs.declared.predicates.LiteralTail.TheVariants.{Same, Differ, Call}
use Rattle.rf_parser.specs.declared.terminals.Terminal.{Terminal}
use Rattle.rf_parser.specs.declared.terminals.Terminal.TheVariants.{Word, Mark}

-- the kind of a terminal
abbrev pub kind_of : Terminal → Kind
kind_of (Word word) = WordKind word
kind_of (Mark mark) = MarkKind mark

-- a terminal alone
abbrev pub single : Kind → Unit {0} → List Piece
single kind nothing = terminal kind ∷ []

-- [ mult ] NAME | NAME mult
abbrev pub mult_and_name : MultPlace × Name → List Piece
mult_and_name p = with_mult_pieces p.0 p.1

-- [ part { "," part } ] close
abbrev pub listed_to : {T : Type 0} → Kind → (T → List Piece) → List T → List Piece
listed_to close pieces parts = separated_or_none comma pieces parts ++ terminal close ∷ []

-- "(" [ part { "," part } ] ")"
abbrev pub listed_in_parens : {T : Type 0} → (T → List Piece) → List T → List Piece
listed_in_parens pieces parts = in_parens (separated_or_none comma pieces parts)

-- part { "," part } "."
abbrev pub list_to_dot : {T : Type 0} → (T → List Piece) → NonEmpty T → List Piece
list_to_dot pieces parts = separated comma pieces parts ++ terminal dot ∷ []

-- { feature } "}"
abbrev pub features_to_brace : List Feature → List Piece
features_to_brace features = flat_map feature_pieces features ++ terminal right_brace ∷ []

-- { statement }
abbrev pub statements_pieces : List Statement → List Piece
statements_pieces statements = flat_map statement_pieces statements

-- "=" | "+="
abbrev pub bound_mark : Bool → List Piece
bound_mark only_new = terminal (if only_new then plus_equal else equal) ∷ []

-- what follows the first name of a call: [ "::" NAME ] [ "+" ] "(" [ NAME { "," NAME } ] ")"
abbrev pub call_tail_pieces : CallTail → List Piece
call_tail_pieces tail =
    optional_after colon_colon name_pieces tail.member
    ++ flagged tail.closure plus
    ++ listed_in_parens name_pieces tail.args

-- what follows the first name of a literal without a "!": ( "==" | "!=" ) NAME, or in a call
abbrev pub literal_tail_pieces : LiteralTail → List Piece
literal_tail_pieces (Same right) = terminal equal_equal ∷ name_pieces right
literal_tail_pieces (Differ right) = terminal bang_equal ∷ name_pieces right
literal_tail_pieces (Call tail) = call_tail_pieces tail

-- the literals that are made of a first name and what follows it
abbrev pub call_with : Bool → Name → CallTail → BodyLiteral
call_with negated name tail =
    CallLiteral negated (record { name = name; member = tail.member }) tail.closure tail.args

abbrev pub literal_with : Name → LiteralTail → BodyLiteral
literal_with left (Same right) = SameLiteral left right
literal_with left (Differ right) = DifferLiteral left right
literal_with left (Call tail) = call_with false left tail

-- a class statement begins with the kind
abbrev pub BeginsClass : Option Kind → Type 0
BeginsClass first = (first ≡ Some abstract_word) ⊎ (first ≡ Some class_word)

-- a predicate's statement begins with the kind
abbrev pub BeginsPredicate : Option Kind → Type 0
BeginsPredicate first = (first ≡ Some pred_word) ⊎ (first ≡ Some error_word)

-- no statement but an assertion begins with the kind
pub record BeginsNoWord (first : Option Kind) : Type 0 where
  pub no_class : BeginsClass first → ⊥
  pub no_enum : first ≡ Some enum_word → ⊥
  pub no_predicate : BeginsPredicate first → ⊥
  pub no_declare : first ≡ Some declare_word → ⊥
  pub no_multi : first ≡ Some multi_word → ⊥
  pub no_atoms : first ≡ Some atom_word → ⊥
  pub no_scope : first ≡ Some scope_word → ⊥
