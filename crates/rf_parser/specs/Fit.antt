-- Which trees stand for the tokens of a text.
use Rattle.std.specs.Prelude.{◌≡◌, List, [], ◌∷◌, IfSome, map}
use Rattle.rf_lexer.specs.declared.token.Kind.{Kind}
use Rattle.rf_lexer.specs.declared.token.Token.{Token}
use Rattle.rf_syntax.specs.declared.statement.Ast.{Ast}
use Rattle.rf_syntax.specs.Piece.{Piece}
use Rattle.rf_syntax.specs.Statement.{pieces_of}

-- the kinds of tokens
abbrev pub token_kinds : List Token → List Kind
token_kinds tokens = map (λ token. token.kind) tokens

-- the token is of the piece's kind, and begins at its offset, where the piece has one
pub record FitsPiece (token : Token) (piece : Piece) : Type 0 where
  pub kind : token.kind ≡ piece.kind
  pub at : IfSome piece.at (λ offset. offset ≡ token.start)

-- there are as many tokens as pieces, and each fits its piece
abbrev pub Fits : List Token → List Piece → Type 0
Fits [] [] = Unit {0}
Fits [] (piece ∷ pieces) = ⊥
Fits (token ∷ tokens) [] = ⊥
Fits (token ∷ tokens) (piece ∷ pieces) = FitsPiece token piece × Fits tokens pieces

-- the tokens are those of a text with this tree, which has the offsets of its tokens
abbrev pub IsTreeOf : List Token → Ast → Type 0
IsTreeOf tokens ast = Fits tokens (pieces_of ast)
