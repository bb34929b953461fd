-- The lines that name refusals on the error output.
use Rattle.std.specs.Prelude.{ℕ, List, ◌++◌, codes, decimal}
use Rattle.rf_lexer.specs.declared.error.LexError.{LexError}
use Rattle.rf_lexer.specs.declared.error.LexError.TheVariants.{BadCharacter, OpenComment, OpenQuote, LongName, BigNumber}
use Rattle.rf_limits.specs.declared.kind.LimitKind.{LimitKind}
use Rattle.rf_limits.specs.declared.kind.LimitKind.TheVariants.{Classes, References, Predicates, Scopes, Parameters, Clauses, Literals, Variables, Objects, Assertions}
use Rattle.rf_resolve.specs.declared.error.NameError.{NameError}
use Rattle.rf_resolve.specs.declared.error.NameError.TheVariants.{Twice, Unknown, Ambiguous, ClassCycle, BadOpposite, BadContainer, BadRange, Arity, LooseVariable, Recursive, EqualsTwo, Limit}
use Rattle.rf_source.specs.declared.error.SourceError.{SourceError}
use Rattle.rf_source.specs.declared.error.SourceError.TheVariants.{NotUtf8, Lexical, Unexpected, Names}
use Rattle.rf_run.specs.declared.refusal.Refusal.{Refusal}
use Rattle.rf_run.specs.declared.refusal.Refusal.TheVariants.{TooLong, Problem as NoProblem, BadLine}
use Rattle.rf_run.specs.declared.refusal.File.{File as Sort}
use Rattle.rf_run.specs.declared.refusal.File.TheVariants.{Problem as OfProblem, Graph, Script, Tree}

-- a fault of the problem at a byte place
abbrev pub fault_line : List ℕ → ℕ → List ℕ
fault_line fault at = codes "problem: " ++ fault ++ codes " at " ++ decimal at ++ codes "\n"

abbrev pub lexical_line : LexError → List ℕ
lexical_line (BadCharacter at) = fault_line (codes "bad character") at
lexical_line (OpenComment at) = fault_line (codes "open comment") at
lexical_line (OpenQuote at) = fault_line (codes "open quote") at
lexical_line (LongName at) = fault_line (codes "long name") at
lexical_line (BigNumber at) = fault_line (codes "big number") at

abbrev pub limit_word : LimitKind → List ℕ
limit_word Classes = codes "limit classes"
limit_word References = codes "limit references"
limit_word Predicates = codes "limit predicates"
limit_word Scopes = codes "limit scopes"
limit_word Parameters = codes "limit parameters"
limit_word Clauses = codes "limit clauses"
limit_word Literals = codes "limit literals"
limit_word Variables = codes "limit variables"
limit_word Objects = codes "limit objects"
limit_word Assertions = codes "limit assertions"

abbrev pub name_line : NameError → List ℕ
name_line (Twice at) = fault_line (codes "twice") at
name_line (Unknown at) = fault_line (codes "unknown") at
name_line (Ambiguous at) = fault_line (codes "ambiguous") at
name_line (ClassCycle at) = fault_line (codes "class cycle") at
name_line (BadOpposite at) = fault_line (codes "bad opposite") at
name_line (BadContainer at) = fault_line (codes "bad container") at
name_line (BadRange at) = fault_line (codes "bad range") at
name_line (Arity at) = fault_line (codes "arity") at
name_line (LooseVariable at) = fault_line (codes "loose variable") at
name_line (Recursive at) = fault_line (codes "recursive") at
name_line (EqualsTwo at) = fault_line (codes "equals two") at
name_line (Limit kind at) = fault_line (limit_word kind) at

-- why the bytes of the file are no problem; a token is counted from 0
abbrev pub source_line : SourceError → List ℕ
source_line (NotUtf8 at) = fault_line (codes "not utf-8") at
source_line (Lexical e) = lexical_line e
source_line (Unexpected token at) = fault_line (codes "unexpected token " ++ decimal token) at
source_line (Names e) = name_line e

-- the word for a file of this sort
abbrev pub file_word : Sort → List ℕ
file_word OfProblem = codes "problem"
file_word Graph = codes "graph"
file_word Script = codes "script"
file_word Tree = codes "tree"

-- the line on the error output that names a refusal
abbrev pub line_of : Refusal → List ℕ
line_of (TooLong sort) = file_word sort ++ codes ": too long\n"
line_of (NoProblem fault) = source_line fault
line_of (BadLine sort line) = file_word sort ++ codes ": bad line " ++ decimal line ++ codes "\n"
