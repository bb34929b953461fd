-- Where statements begin and end in a list of kinds.
use Rattle.std.specs.Prelude.{◌≡◌, Bool, true, false, not, List, [], ◌∷◌, ◌++◌, map, if◌then◌else◌}
use Rattle.std.specs.List.{flat_map, list_all}
use Rattle.rf_lexer.specs.declared.mark.Mark.TheVariants.{Dot, RightBrace}
use Rattle.rf_lexer.specs.declared.token.Kind.{Kind}
use Rattle.rf_lexer.specs.declared.token.Kind.TheVariants.{Mark}
use Rattle.rf_syntax.specs.declared.assertion.AssertionForm.{AssertionForm}
use Rattle.rf_syntax.specs.declared.assertion.AssertionForm.TheVariants.{Plain, Not, Maybe, Valued}
use Rattle.rf_syntax.specs.declared.predicate.PredicateWord.{PredicateWord}
use Rattle.rf_syntax.specs.declared.predicate.PredicateWord.TheVariants.{Pred, Error, ErrorPred}
use Rattle.rf_syntax.specs.declared.statement.Statement.{Statement}
use Rattle.rf_syntax.specs.declared.statement.Statement.TheVariants.{Class, Enum, Predicate, Declare, Multi, Atoms, Scope, Assert}
use Rattle.rf_syntax.specs.Name.{kind_of_name}
use Rattle.rf_syntax.specs.Statement.{spelled_statement}
use Rattle.rf_syntax.specs.Terminals.{abstract_word, atom_word, class_word, declare_word, default_word, enum_word, error_word, multi_word, pred_word, scope_word, bang, question}

-- the kind with which an assertion begins
abbrev pub first_of_assertion : AssertionForm → Kind
first_of_assertion (Plain atom) = kind_of_name atom.symbol.name
first_of_assertion (Not atom) = bang
first_of_assertion (Maybe atom) = question
first_of_assertion (Valued atom value) = kind_of_name atom.symbol.name

-- the kind with which the statement of a predicate begins
abbrev pub first_of_predicate : PredicateWord → Kind
first_of_predicate Pred = pred_word
first_of_predicate Error = error_word
first_of_predicate ErrorPred = error_word

-- the kind with which a statement begins
abbrev pub first_of_statement : Statement → Kind
first_of_statement (Class is_abstract name supers body) =
    (if is_abstract then abstract_word else class_word)
first_of_statement (Enum name literals) = enum_word
first_of_statement (Predicate start name params clauses) = first_of_predicate start
first_of_statement (Declare names) = declare_word
first_of_statement (Multi items) = multi_word
first_of_statement (Atoms names) = atom_word
first_of_statement (Scope bounds) = scope_word
first_of_statement (Assert is_default assertion) =
    (if is_default then default_word else first_of_assertion assertion)

-- whether a kind ends a statement: a full stop, or a closing brace
abbrev pub ends_statement : Kind → Bool
ends_statement (Mark Dot) = true
ends_statement (Mark RightBrace) = true
ends_statement _ = false

-- the last of the kinds ends a statement, and no kind before it does
pub record EndsOnce (kinds : List Kind) : Type 0 where
  pub prefix : List Kind
  pub last : Kind
  pub joined : kinds ≡ prefix ++ last ∷ []
  pub inside : list_all (λ kind. not (ends_statement kind)) prefix ≡ true
  pub ended : ends_statement last ≡ true

-- the spelling of a statement isn't empty, and begins with this kind
abbrev pub StatementBegins : Type 0
StatementBegins =
    (s : Statement) → (rest : List Kind) × (spelled_statement s ≡ first_of_statement s ∷ rest)

-- a statement goes as far as the first kind that ends one
abbrev pub StatementEndsOnce : Type 0
StatementEndsOnce = (s : Statement) → EndsOnce (spelled_statement s)

-- where the statements of two lists have the same kinds one after another, they have them one by
-- one
abbrev pub StatementsAreApart : Type 0
StatementsAreApart =
    (ss ts : List Statement)
    → flat_map spelled_statement ss ≡ flat_map spelled_statement ts
    → map spelled_statement ss ≡ map spelled_statement ts
