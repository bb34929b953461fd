-- What spells a kind of token, and which lexeme is the longest.
use Rattle.std.specs.Prelude.{◌≡◌, ℕ, ◌<◌, ◌≤◌, List, ◌++◌, length}
use Rattle.std.specs.Str.{encode_utf8_all}
use Rattle.std.specs.Str.Parse.{digits_value}
use Rattle.rf_bounds.specs.declared.TheConstants.{GREATEST_NUMBER, MOST_NAME_BYTES}
use Rattle.rf_text.specs.Identifier.{IsIdentifier, IsQuoted}
use Rattle.rf_lexer.specs.Lexeme.{IsNumber}
use Rattle.rf_lexer.specs.Spelling.{keyword_spelling, mark_spelling}
use Rattle.rf_lexer.specs.declared.keyword.Keyword.{Keyword}
use Rattle.rf_lexer.specs.declared.token.Kind.{Kind}
use Rattle.rf_lexer.specs.declared.token.Kind.TheVariants.{Word, Name, Quoted, Number, Mark}

-- the characters are a lexeme of this kind; a name is seen as its bytes
abbrev pub Spells : Kind → List ℕ → Type 0
Spells (Word k) cs = IsIdentifier cs × (cs ≡ keyword_spelling k)
Spells (Name t) cs = IsIdentifier cs × ((k : Keyword) → cs ≡ keyword_spelling k → ⊥) × (t ≡ encode_utf8_all cs)
Spells (Quoted t) cs = (name : List ℕ) × IsQuoted name cs × (t ≡ encode_utf8_all name)
Spells (Number n) cs = IsNumber cs × (n ≡ digits_value 10 cs)
Spells (Mark m) cs = cs ≡ mark_spelling m

-- the longest lexeme that cs begin with is of this kind, and rest follows it
pub record IsLongest (kind : Kind) (cs rest : List ℕ) : Type 0 where
  pub lexeme : List ℕ
  pub joined : cs ≡ lexeme ++ rest
  pub spelled : Spells kind lexeme
  pub longest : (other : Kind) (prefix suffix : List ℕ) → Spells other prefix → cs ≡ prefix ++ suffix → length prefix ≤ length lexeme

-- a name of more than 255 bytes
abbrev pub IsLongName : Kind → Type 0
IsLongName (Word k) = ⊥
IsLongName (Name t) = MOST_NAME_BYTES < length t
IsLongName (Quoted t) = MOST_NAME_BYTES < length t
IsLongName (Number n) = ⊥
IsLongName (Mark m) = ⊥

-- a number above 1,000,000
abbrev pub IsBigNumber : Kind → Type 0
IsBigNumber (Word k) = ⊥
IsBigNumber (Name t) = ⊥
IsBigNumber (Quoted t) = ⊥
IsBigNumber (Number n) = GREATEST_NUMBER < n
IsBigNumber (Mark m) = ⊥
