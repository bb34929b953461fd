-- What the scanner's functions find, over lists of characters.
use Rattle.std.specs.Prelude.{◌≡◌, ℕ, ◌≤◌, Bool, List, ◌++◌, codes, length}
use Rattle.std.specs.Char.{is_ascii_digit}
use Rattle.unicode_ident.specs.Ident.{is_xid_continue}
use Rattle.rf_text.specs.Identifier.{EachPasses, IsIdentifier, is_in_quotes}
use Rattle.rf_lexer.specs.Characters.{StandsIn, StopsAt}
use Rattle.rf_lexer.specs.Gap.{is_in_line}
use Rattle.rf_lexer.specs.Lexeme.{IsNumber}
use Rattle.rf_lexer.specs.Kind.{IsBigNumber, IsLongest, IsLongName}
use Rattle.rf_lexer.specs.Spelling.{mark_spelling}
use Rattle.rf_failure.specs.declared.Failure.{Failure}
use Rattle.rf_failure.specs.Answers.{IfFault}
use Rattle.rf_lexer.specs.Fault.{IsCause}
use Rattle.rf_lexer.specs.declared.character.CharSet.{CharSet}
use Rattle.rf_lexer.specs.declared.character.CharSet.TheVariants.{InName, InLine, InQuotes, Digit}
use Rattle.rf_lexer.specs.declared.error.LexError.{LexError}
use Rattle.rf_lexer.specs.declared.mark.Mark.{Mark}
use Rattle.rf_lexer.specs.declared.token.Kind.{Kind}

-- which characters a set has
abbrev pub set_test : CharSet → ℕ → Bool
set_test InName = is_xid_continue
set_test InLine = is_in_line
set_test InQuotes = is_in_quotes
set_test Digit = is_ascii_digit

-- the characters before rest pass the test, and the next one doesn't
pub record IsSpan (test : ℕ → Bool) (cs rest : List ℕ) : Type 0 where
  pub prefix : List ℕ
  pub joined : cs ≡ prefix ++ rest
  pub each : EachPasses test prefix
  pub ends : StopsAt test rest

-- the characters end with rest
pub record IsEnd (cs rest : List ℕ) : Type 0 where
  pub prefix : List ℕ
  pub joined : cs ≡ prefix ++ rest

-- rest follows the first `*/`
pub record IsClosed (cs rest : List ℕ) : Type 0 where
  pub body : List ℕ
  pub joined : cs ≡ body ++ (codes "*/" ++ rest)
  pub next : StandsIn (codes "*/") body → ⊥

abbrev pub IsNotClosed : List ℕ → Type 0
IsNotClosed cs = StandsIn (codes "*/") cs → ⊥

-- cs begin with an identifier that goes as far as it can
pub record IsIdentifierTo (cs rest : List ℕ) : Type 0 where
  pub word : List ℕ
  pub joined : cs ≡ word ++ rest
  pub identifier : IsIdentifier word
  pub ends : StopsAt is_xid_continue rest

-- cs begin with a number that goes as far as it can
pub record IsNumberTo (cs rest : List ℕ) : Type 0 where
  pub digits : List ℕ
  pub joined : cs ≡ digits ++ rest
  pub number : IsNumber digits
  pub ends : (prefix suffix : List ℕ) → IsNumber prefix → cs ≡ prefix ++ suffix → length prefix ≤ length digits

-- the longest mark that cs begin with
pub record IsLongestMark (mark : Mark) (cs rest : List ℕ) : Type 0 where
  pub joined : cs ≡ mark_spelling mark ++ rest
  pub longest : (other : Mark) (suffix : List ℕ) → cs ≡ mark_spelling other ++ suffix → length (mark_spelling other) ≤ length (mark_spelling mark)

-- cs begin with this mark, of so many characters
pub record IsMarkOf (size : ℕ) (mark : Mark) (cs rest : List ℕ) : Type 0 where
  pub joined : cs ≡ mark_spelling mark ++ rest
  pub sized : length (mark_spelling mark) ≡ size

-- cs begin with no mark of so many characters
abbrev pub HasNoMarkOf : ℕ → List ℕ → Type 0
HasNoMarkOf size cs = (mark : Mark) (rest : List ℕ) → length (mark_spelling mark) ≡ size → cs ≡ mark_spelling mark ++ rest → ⊥

-- the longest lexeme that cs begin with is of this kind, and within the limits
pub record Takes (kind : Kind) (cs rest : List ℕ) : Type 0 where
  pub longest : IsLongest kind cs rest
  pub short : IsLongName kind → ⊥
  pub small : IsBigNumber kind → ⊥

-- memory ran out, or the fault names this offset and its cause is there
abbrev pub Fails : Failure LexError → ℕ → List ℕ → Type 0
Fails failure offset cs = IfFault failure (λ e. IsCause e offset cs)
