-- How the pieces of a whole are made of those of its parts.
use Rattle.std.specs.Prelude.{Bool, true, false, List, [], ◌∷◌, ◌++◌, Option, None, Some}
use Rattle.std.specs.List.{flat_map}
use Rattle.rf_lexer.specs.declared.token.Kind.{Kind}
use Rattle.rf_syntax.specs.declared.non_empty.NonEmpty.{NonEmpty}
use Rattle.rf_syntax.specs.Piece.{Piece, terminal}
use Rattle.rf_syntax.specs.Terminals.{dot, left_brace, left_paren, right_brace, right_paren}

-- [ kind ]: the kind, where a flag is set
abbrev pub flagged : Bool → Kind → List Piece
flagged true kind = terminal kind ∷ []
flagged false kind = []

-- [ part ]
abbrev pub optional : {T : Type 0} → (T → List Piece) → Option T → List Piece
optional pieces None = []
optional pieces (Some part) = pieces part

-- [ kind part ]
abbrev pub optional_after : {T : Type 0} → Kind → (T → List Piece) → Option T → List Piece
optional_after kind pieces None = []
optional_after kind pieces (Some part) = terminal kind ∷ pieces part

-- { kind part }
abbrev pub each_after : {T : Type 0} → Kind → (T → List Piece) → List T → List Piece
each_after kind pieces parts = flat_map (λ part. terminal kind ∷ pieces part) parts

-- part { kind part }
abbrev pub separated : {T : Type 0} → Kind → (T → List Piece) → NonEmpty T → List Piece
separated kind pieces parts = pieces parts.first ++ each_after kind pieces parts.rest

-- [ part { kind part } ]
abbrev pub separated_or_none : {T : Type 0} → Kind → (T → List Piece) → List T → List Piece
separated_or_none kind pieces [] = []
separated_or_none kind pieces (part ∷ parts) = pieces part ++ each_after kind pieces parts

-- "(" inner ")"
abbrev pub in_parens : List Piece → List Piece
in_parens inner = terminal left_paren ∷ inner ++ terminal right_paren ∷ []

-- "." | "{" part "}"
abbrev pub dot_or_braces : {T : Type 0} → (T → List Piece) → Option T → List Piece
dot_or_braces pieces None = terminal dot ∷ []
dot_or_braces pieces (Some part) = terminal left_brace ∷ pieces part ++ terminal right_brace ∷ []
