-- Where a text stops being tokens, and why.
use Rattle.std.specs.Prelude.{◌≡◌, ℕ, ◌<◌, List, ◌∷◌, ◌++◌, codes, length}
use Rattle.std.specs.Str.{chars}
use Rattle.rf_text.specs.Identifier.{EachPasses, is_in_quotes}
use Rattle.rf_lexer.specs.Characters.{StandsIn, StopsAt}
use Rattle.rf_lexer.specs.Gap.{BeginsNoGap, is_in_line}
use Rattle.rf_lexer.specs.Kind.{IsBigNumber, IsLongest, IsLongName, Spells}
use Rattle.rf_lexer.specs.Tokens.{AreTokens, StandsAt}
use Rattle.rf_lexer.specs.declared.token.Kind.{Kind}
use Rattle.rf_lexer.specs.declared.token.Token.{Token}
use Rattle.rf_lexer.specs.declared.error.LexError.{LexError}
use Rattle.rf_lexer.specs.declared.error.LexError.TheVariants.{BadCharacter, OpenComment, OpenQuote, LongName, BigNumber}

-- there is a character, no space, comment or lexeme begins with it, and it is neither a quote nor the beginning of `/*`
pub record IsBadCharacter (cs : List ℕ) : Type 0 where
  pub more : 0 < length cs
  pub no_gap : BeginsNoGap cs
  pub no_lexeme : (kind : Kind) (prefix suffix : List ℕ) → Spells kind prefix → cs ≡ prefix ++ suffix → ⊥
  pub no_comment : (suffix : List ℕ) → cs ≡ codes "/*" ++ suffix → ⊥
  pub no_quote : (suffix : List ℕ) → cs ≡ 39 ∷ suffix → ⊥

-- `/*` is there, and no `*/` follows it
pub record IsOpenComment (cs : List ℕ) : Type 0 where
  pub suffix : List ℕ
  pub begun : cs ≡ codes "/*" ++ suffix
  pub open_ended : StandsIn (codes "*/") suffix → ⊥

-- a quote is there, and the line or the text ends before the next one
pub record IsOpenQuote (cs : List ℕ) : Type 0 where
  pub name : List ℕ
  pub suffix : List ℕ
  pub begun : cs ≡ 39 ∷ (name ++ suffix)
  pub plain : EachPasses is_in_quotes name
  pub ended : StopsAt is_in_line suffix

-- the longest lexeme there is a name of more than 255 bytes
pub record IsLongNameAt (cs : List ℕ) : Type 0 where
  pub kind : Kind
  pub rest : List ℕ
  pub longest : IsLongest kind cs rest
  pub long : IsLongName kind

-- the longest lexeme there is a number above 1,000,000
pub record IsBigNumberAt (cs : List ℕ) : Type 0 where
  pub kind : Kind
  pub rest : List ℕ
  pub longest : IsLongest kind cs rest
  pub big : IsBigNumber kind

-- the error names this offset, and cs, the characters from there on, are its cause
abbrev pub IsCause : LexError → ℕ → List ℕ → Type 0
IsCause (BadCharacter at) offset cs = (at ≡ offset) × IsBadCharacter cs
IsCause (OpenComment at) offset cs = (at ≡ offset) × IsOpenComment cs
IsCause (OpenQuote at) offset cs = (at ≡ offset) × IsOpenQuote cs
IsCause (LongName at) offset cs = (at ≡ offset) × IsLongNameAt cs
IsCause (BigNumber at) offset cs = (at ≡ offset) × IsBigNumberAt cs

-- up to some offset the text is tokens, and the cause of the error is there
pub record LexFault (text : List ℕ) (error : LexError) : Type 0 where
  pub tokens : List Token
  pub rest : List ℕ
  pub offset : ℕ
  pub lexed : AreTokens (length text) (chars text) tokens rest
  pub stands : StandsAt (length text) offset rest
  pub cause : IsCause error offset rest
