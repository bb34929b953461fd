-- How keywords and marks are written.
use Rattle.std.specs.Prelude.{ℕ, List, codes}
use Rattle.rf_lexer.specs.declared.keyword.Keyword.{Keyword}
use Rattle.rf_lexer.specs.declared.keyword.Keyword.TheVariants.{Abstract, Atom, Class, Container, Contains, Declare, Default, Enum, Error, Extends, False, Multi, Opposite, Pred, Refers, Scope, True, Unknown}
use Rattle.rf_lexer.specs.declared.mark.Mark.{Mark}
use Rattle.rf_lexer.specs.declared.mark.Mark.TheVariants.{Dot, DotDot, Comma, Semicolon, Colon, ColonColon, LeftParen, RightParen, LeftBracket, RightBracket, LeftBrace, RightBrace, Bang, Question, Star, Plus, Equal, PlusEqual, EqualEqual, BangEqual, Iff}

abbrev pub keyword_spelling : Keyword → List ℕ
keyword_spelling Abstract = codes "abstract"
keyword_spelling Atom = codes "atom"
keyword_spelling Class = codes "class"
keyword_spelling Container = codes "container"
keyword_spelling Contains = codes "contains"
keyword_spelling Declare = codes "declare"
keyword_spelling Default = codes "default"
keyword_spelling Enum = codes "enum"
keyword_spelling Error = codes "error"
keyword_spelling Extends = codes "extends"
keyword_spelling False = codes "false"
keyword_spelling Multi = codes "multi"
keyword_spelling Opposite = codes "opposite"
keyword_spelling Pred = codes "pred"
keyword_spelling Refers = codes "refers"
keyword_spelling Scope = codes "scope"
keyword_spelling True = codes "true"
keyword_spelling Unknown = codes "unknown"

abbrev pub mark_spelling : Mark → List ℕ
mark_spelling Dot = codes "."
mark_spelling DotDot = codes ".."
mark_spelling Comma = codes ","
mark_spelling Semicolon = codes ";"
mark_spelling Colon = codes ":"
mark_spelling ColonColon = codes "::"
mark_spelling LeftParen = codes "("
mark_spelling RightParen = codes ")"
mark_spelling LeftBracket = codes "["
mark_spelling RightBracket = codes "]"
mark_spelling LeftBrace = codes "{"
mark_spelling RightBrace = codes "}"
mark_spelling Bang = codes "!"
mark_spelling Question = codes "?"
mark_spelling Star = codes "*"
mark_spelling Plus = codes "+"
mark_spelling Equal = codes "="
mark_spelling PlusEqual = codes "+="
mark_spelling EqualEqual = codes "=="
mark_spelling BangEqual = codes "!="
mark_spelling Iff = codes "<->"
