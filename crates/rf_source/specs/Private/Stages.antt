-- What each stage of reading answers, of what the stage before it found.
use Rattle.std.specs.Prelude.{◌≡◌, ℕ, List}
use Rattle.rf_lexer.specs.declared.token.Token.{Token}
use Rattle.rf_parser.specs.Fit.{IsTreeOf}
use Rattle.rf_parser.specs.Refusal.{IsFirstRefused}
use Rattle.rf_parser.specs.declared.error.ParseError.{ParseError}
use Rattle.rf_parser.specs.declared.error.ParseError.TheVariants.{Unexpected as Refused}
use Rattle.rf_problem.specs.declared.problem.Problem.{Problem}
use Rattle.rf_resolve.specs.Fault.{NameFault, Resolves}
use Rattle.rf_syntax.specs.declared.statement.Ast.{Ast}
use Rattle.rf_source.specs.Source.{offset_of_token}
use Rattle.rf_source.specs.declared.error.SourceError.{SourceError}
use Rattle.rf_source.specs.declared.error.SourceError.TheVariants.{NotUtf8, Lexical, Unexpected, Names}

-- why a tree is not a problem
abbrev pub TreeFault : Ast → SourceError → Type 0
TreeFault ast (NotUtf8 at) = ⊥
TreeFault ast (Lexical e) = ⊥
TreeFault ast (Unexpected token at) = ⊥
TreeFault ast (Names e) = NameFault ast e

-- the tokens are those of a text of this problem
abbrev pub IsTokens : List Token → Problem → Type 0
IsTokens tokens p = (ast : Ast) × IsTreeOf tokens ast × Resolves ast p

-- the fault of a text whose tokens are refused so, with the offset of the token
abbrev pub located_fault : List Token → ℕ → ParseError → SourceError
located_fault tokens end (Refused token) = Unexpected token (offset_of_token tokens end token)

-- why the tokens of a text, which ends at this offset, are not a problem
abbrev pub TokensFault : List Token → ℕ → SourceError → Type 0
TokensFault tokens end (NotUtf8 at) = ⊥
TokensFault tokens end (Lexical e) = ⊥
TokensFault tokens end (Unexpected token at) = IsFirstRefused tokens token × (at ≡ offset_of_token tokens end token)
TokensFault tokens end (Names e) = (ast : Ast) × IsTreeOf tokens ast × NameFault ast e
