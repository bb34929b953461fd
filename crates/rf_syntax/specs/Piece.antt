-- What stands for a token in the spelling of a tree.
use Rattle.std.specs.Prelude.{ℕ, List, Option, None, map}
use Rattle.rf_lexer.specs.declared.token.Kind.{Kind}

-- the kind of a token and, where the tree keeps the token's offset, that offset
pub record Piece : Type 0 where
  pub kind : Kind
  pub at : Option ℕ

-- a token whose offset the tree doesn't keep
abbrev pub terminal : Kind → Piece
terminal k = record { kind = k; at = None }

-- the kinds of the tokens for which the pieces stand
abbrev pub kinds_of : List Piece → List Kind
kinds_of pieces = map (λ piece. piece.kind) pieces
