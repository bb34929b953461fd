-- Where a list of tokens stops being the beginning of a text of the grammar.
use Rattle.std.specs.Prelude.{◌≡◌, ℕ, ◌+◌, ◌<◌, ◌≤◌, List, ◌++◌, length, take}
use Rattle.rf_lexer.specs.declared.token.Kind.{Kind}
use Rattle.rf_lexer.specs.declared.token.Token.{Token}
use Rattle.rf_syntax.specs.declared.statement.Ast.{Ast}
use Rattle.rf_syntax.specs.Statement.{spelling_of}
use Rattle.rf_parser.specs.Fit.{token_kinds}
use Rattle.rf_parser.specs.declared.error.ParseError.{ParseError}
use Rattle.rf_parser.specs.declared.error.ParseError.TheVariants.{Unexpected}

-- a text of the grammar begins with the kinds
pub record BeginsText (kinds : List Kind) : Type 0 where
  pub ast : Ast
  pub more : List Kind
  pub joined : kinds ++ more ≡ spelling_of ast

-- the kinds are a text of the grammar
pub record IsText (kinds : List Kind) : Type 0 where
  pub ast : Ast
  pub spelled : kinds ≡ spelling_of ast

-- a text of the grammar begins with the first k tokens, but none goes on as the tokens do: with
-- the next token or, where there is none, by ending there
pub record IsFirstRefused (tokens : List Token) (k : ℕ) : Type 0 where
  pub within : k ≤ length tokens
  pub begun : BeginsText (take k (token_kinds tokens))
  pub next : k < length tokens → BeginsText (take (k + 1) (token_kinds tokens)) → ⊥
  pub last : k ≡ length tokens → IsText (token_kinds tokens) → ⊥

-- why tokens are not a text of the grammar
abbrev pub ParseFault : List Token → ParseError → Type 0
ParseFault tokens (Unexpected k) = IsFirstRefused tokens k
