-- The tokens of a text.
use Rattle.std.specs.Prelude.{◌≡◌, ℕ, ◌+◌, List, [], ◌∷◌, length}
use Rattle.std.specs.Str.{chars, encode_utf8_all}
use Rattle.rf_lexer.specs.Gap.{IsGap}
use Rattle.rf_lexer.specs.Kind.{IsBigNumber, IsLongest, IsLongName}
use Rattle.rf_lexer.specs.declared.token.Token.{Token}

-- of `size` bytes the first `offset` are before the characters rest, which are the last ones
abbrev pub StandsAt : ℕ → ℕ → List ℕ → Type 0
StandsAt size offset rest = offset + length (encode_utf8_all rest) ≡ size

-- in a text of `size` bytes the token is the longest lexeme that cs begin with, and rest follows it
pub record IsToken (size : ℕ) (token : Token) (cs rest : List ℕ) : Type 0 where
  pub longest : IsLongest token.kind cs rest
  pub short : IsLongName token.kind → ⊥
  pub small : IsBigNumber token.kind → ⊥
  pub start : StandsAt size token.start cs
  pub stop : StandsAt size token.end rest

-- cs are these tokens, in order, with only spaces and comments between, before and after them, and then rest
abbrev pub AreTokens : ℕ → List ℕ → List Token → List ℕ → Type 0
AreTokens size cs [] rest = IsGap cs rest
AreTokens size cs (token ∷ tokens) rest =
    (here : List ℕ) × (after : List ℕ) × IsGap cs here × IsToken size token here after × AreTokens size after tokens rest

-- the text is these tokens, and spaces and comments
abbrev pub Lexemes : List ℕ → List Token → Type 0
Lexemes text tokens = AreTokens (length text) (chars text) tokens []
