-- What the bytes of a file stand for, from UTF-8 to names.
use Rattle.std.specs.Prelude.{◌≡◌, ℕ, List, map, length, slice_index_or, IsUtf8}
use Rattle.std.specs.Str.{IsValidUpTo}
use Rattle.rf_lexer.specs.Fault.{LexFault}
use Rattle.rf_lexer.specs.Tokens.{Lexemes}
use Rattle.rf_lexer.specs.declared.token.Token.{Token}
use Rattle.rf_parser.specs.Fit.{IsTreeOf}
use Rattle.rf_parser.specs.Refusal.{IsFirstRefused}
use Rattle.rf_problem.specs.declared.problem.Problem.{Problem}
use Rattle.rf_resolve.specs.Fault.{NameFault, Resolves}
use Rattle.rf_syntax.specs.declared.statement.Ast.{Ast}
use Rattle.rf_source.specs.declared.error.SourceError.{SourceError}
use Rattle.rf_source.specs.declared.error.SourceError.TheVariants.{NotUtf8, Lexical, Unexpected, Names}

-- the bytes are UTF-8, and their text is these tokens
pub record IsLexed (bytes : List ℕ) (tokens : List Token) : Type 0 where
  pub utf8 : IsUtf8 bytes
  pub lexemes : Lexemes bytes tokens

-- the bytes are a text of this tree
pub record IsParsed (bytes : List ℕ) (ast : Ast) : Type 0 where
  pub tokens : List Token
  pub lexed : IsLexed bytes tokens
  pub tree : IsTreeOf tokens ast

-- the bytes are a text of this problem
pub record IsSource (bytes : List ℕ) (p : Problem) : Type 0 where
  pub ast : Ast
  pub parsed : IsParsed bytes ast
  pub resolved : Resolves ast p

-- the byte offset of the token of this number, or the end of the text after the last one
abbrev pub offset_of_token : List Token → ℕ → ℕ → ℕ
offset_of_token tokens end k = slice_index_or (map (λ token. token.start) tokens) k end

-- the tokens of the bytes are not a text of the grammar, and this is the first that none has there
pub record IsUnexpected (bytes : List ℕ) (token at : ℕ) : Type 0 where
  pub tokens : List Token
  pub lexed : IsLexed bytes tokens
  pub refused : IsFirstRefused tokens token
  pub offset : at ≡ offset_of_token tokens (length bytes) token

-- why bytes are not a problem: the first stage that refuses them decides
abbrev pub SourceFault : List ℕ → SourceError → Type 0
SourceFault bytes (NotUtf8 at) = (IsUtf8 bytes → ⊥) × IsValidUpTo bytes at
SourceFault bytes (Lexical e) = IsUtf8 bytes × LexFault bytes e
SourceFault bytes (Unexpected token at) = IsUnexpected bytes token at
SourceFault bytes (Names e) = (ast : Ast) × IsParsed bytes ast × NameFault ast e
