-- What is parsed of assertions.
use Rattle.std.proofs.Common.{◌≡◌, ◌⊎◌, Bool, List, [], ◌∷◌, ◌++◌, Option, None, Some, inl, inr, length, refl, sym, ◌∙◌, append_assoc}
use Rattle.rf_lexer.specs.declared.mark.Mark.TheVariants.{Star as StarMark, Bang, Question, RightParen}
use Rattle.rf_lexer.specs.declared.keyword.Keyword.TheVariants.{Default}
use Rattle.rf_lexer.specs.declared.token.Kind.{Kind}
use Rattle.rf_lexer.specs.declared.token.Token.{Token}
use Rattle.rf_syntax.specs.declared.assertion.Arg.{Arg}
use Rattle.rf_syntax.specs.declared.assertion.Arg.TheVariants.{Star, Symbol}
use Rattle.rf_syntax.specs.declared.assertion.AssertionForm.{AssertionForm}
use Rattle.rf_syntax.specs.declared.assertion.AssertionForm.TheVariants.{Plain, Not, Maybe, Valued}
use Rattle.rf_syntax.specs.declared.assertion.AtomForm.{AtomForm}
use Rattle.rf_syntax.specs.declared.assertion.ValueWord.{ValueWord}
use Rattle.rf_syntax.specs.declared.assertion.ValueWord.TheVariants.{True, False, Unknown, Error}
use Rattle.rf_syntax.specs.declared.name.SymbolName.{SymbolName}
use Rattle.rf_syntax.specs.declared.statement.Statement.{Statement}
use Rattle.rf_syntax.specs.declared.statement.Statement.TheVariants.{Class, Enum, Predicate, Declare, Multi, Atoms, Scope, Assert}
use Rattle.rf_syntax.specs.Assertion.{arg_pieces, assertion_pieces, atom_pieces, value_pieces}
use Rattle.rf_syntax.specs.Name.{symbol_pieces}
use Rattle.rf_syntax.specs.Parts.{flagged, optional_after}
use Rattle.rf_syntax.specs.Piece.{kinds_of, terminal}
use Rattle.rf_syntax.specs.Statement.{statement_pieces}
use Rattle.rf_syntax.specs.Terminals.{bang, colon, colon_colon, default_word, dot, error_word, false_word, question, right_paren, star, true_word, unknown_word}
use Rattle.rf_parser.specs.Fit.{token_kinds}
use Rattle.rf_parser.specs.Private.Parts.{BeginsNoWord, listed_in_parens, single}
use Rattle.rf_parser.specs.Private.Parsing.{Halts, IsStuck, NeverBegins, either, first_kind, never}
use Rattle.rf_parser.proofs.Beginnings.{begun}
use Rattle.rf_parser.proofs.Prefixes.{append_nil, halts_never}
use Rattle.rf_parser.proofs.NameParts.{a_name, name_no_mark, name_no_word}
use Rattle.rf_parser.proofs.Wholes.{Apart, Begins, IsCase, pair, stuck_here}

-- arguments
pub star_arg : (next : Option Kind) → next ≡ Some star → IsCase (single star) never arg_pieces (either colon_colon never) next (λ u. Star)
star_arg next e = record { same = λ u. refl; ends = λ more h. halts_never more; cases = cases } where
  cases : (a : Arg) → ((u : Unit {0}) × (Star ≡ a)) ⊎ Begins arg_pieces (either colon_colon never) next a
  cases Star = inl (tt, refl)
  cases (Symbol s) = inr (λ more h f. name_no_mark s.name StarMark (let both = f ∙ e in cc))

pub symbol_arg : (next : Option Kind) → (next ≡ Some star → ⊥) → IsCase symbol_pieces (either colon_colon never) arg_pieces (either colon_colon never) next (λ s. Symbol s)
symbol_arg next none = record { same = λ s. refl; ends = λ more h. h; cases = cases } where
  cases : (a : Arg) → ((s : SymbolName) × (Symbol s ≡ a)) ⊎ Begins arg_pieces (either colon_colon never) next a
  cases Star = inr (λ more h e. none (sym e))
  cases (Symbol s) = inl (s, refl)

pub arg_begins : NeverBegins arg_pieces right_paren
arg_begins Star more e = cc
arg_begins (Symbol s) more e = name_no_mark s.name RightParen (let both = e in cc)

pub args_apart : Apart (either colon_colon never) (listed_in_parens arg_pieces) never
args_apart b more h = λ e. elim e [ inl same ↦ cc | inr other ↦ other ]

pub atom_case : (next : Option Kind) → IsCase (pair symbol_pieces (listed_in_parens arg_pieces)) never atom_pieces never next (λ p. record { symbol = p.0; args = p.1 })
atom_case next = record { same = λ p. refl; ends = λ more h. h; cases = λ a. inl ((a.symbol, a.args), refl) }

pub an_atom : AtomForm
an_atom = record { symbol = record { name = a_name; member = None }; args = [] }

-- values
pub true_value : (next : Option Kind) → next ≡ Some true_word → IsCase (single true_word) never value_pieces never next (λ u. True)
true_value next e = record { same = λ u. refl; ends = λ more h. h; cases = cases } where
  cases : (v : ValueWord) → ((u : Unit {0}) × (True ≡ v)) ⊎ Begins value_pieces never next v
  cases True = inl (tt, refl)
  cases False = inr (λ more h f. let both : Some false_word ≡ Some true_word = f ∙ e in cc)
  cases Unknown = inr (λ more h f. let both : Some unknown_word ≡ Some true_word = f ∙ e in cc)
  cases Error = inr (λ more h f. let both : Some error_word ≡ Some true_word = f ∙ e in cc)

pub false_value : (next : Option Kind) → next ≡ Some false_word → IsCase (single false_word) never value_pieces never next (λ u. False)
false_value next e = record { same = λ u. refl; ends = λ more h. h; cases = cases } where
  cases : (v : ValueWord) → ((u : Unit {0}) × (False ≡ v)) ⊎ Begins value_pieces never next v
  cases True = inr (λ more h f. let both : Some true_word ≡ Some false_word = f ∙ e in cc)
  cases False = inl (tt, refl)
  cases Unknown = inr (λ more h f. let both : Some unknown_word ≡ Some false_word = f ∙ e in cc)
  cases Error = inr (λ more h f. let both : Some error_word ≡ Some false_word = f ∙ e in cc)

pub unknown_value : (next : Option Kind) → next ≡ Some unknown_word → IsCase (single unknown_word) never value_pieces never next (λ u. Unknown)
unknown_value next e = record { same = λ u. refl; ends = λ more h. h; cases = cases } where
  cases : (v : ValueWord) → ((u : Unit {0}) × (Unknown ≡ v)) ⊎ Begins value_pieces never next v
  cases True = inr (λ more h f. let both : Some true_word ≡ Some unknown_word = f ∙ e in cc)
  cases False = inr (λ more h f. let both : Some false_word ≡ Some unknown_word = f ∙ e in cc)
  cases Unknown = inl (tt, refl)
  cases Error = inr (λ more h f. let both : Some error_word ≡ Some unknown_word = f ∙ e in cc)

pub error_value : (next : Option Kind) → next ≡ Some error_word → IsCase (single error_word) never value_pieces never next (λ u. Error)
error_value next e = record { same = λ u. refl; ends = λ more h. h; cases = cases } where
  cases : (v : ValueWord) → ((u : Unit {0}) × (Error ≡ v)) ⊎ Begins value_pieces never next v
  cases True = inr (λ more h f. let both : Some true_word ≡ Some error_word = f ∙ e in cc)
  cases False = inr (λ more h f. let both : Some false_word ≡ Some error_word = f ∙ e in cc)
  cases Unknown = inr (λ more h f. let both : Some unknown_word ≡ Some error_word = f ∙ e in cc)
  cases Error = inl (tt, refl)

pub no_value : {ts : List Token} → (first_kind (token_kinds ts) ≡ Some true_word → ⊥) → (first_kind (token_kinds ts) ≡ Some false_word → ⊥)
    → (first_kind (token_kinds ts) ≡ Some unknown_word → ⊥) → (first_kind (token_kinds ts) ≡ Some error_word → ⊥) → IsStuck value_pieces never ts (length ts)
no_value {ts} a b c d = stuck_here True cases where
  cases : (v : ValueWord) → Begins value_pieces never (first_kind (token_kinds ts)) v
  cases True = λ more h e. a (sym e)
  cases False = λ more h e. b (sym e)
  cases Unknown = λ more h e. c (sym e)
  cases Error = λ more h e. d (sym e)

-- assertions
pub not_case : (next : Option Kind) → next ≡ Some bang → IsCase (pair (single bang) atom_pieces) never assertion_pieces (either colon never) next (λ p. Not p.1)
not_case next e = record { same = λ p. refl; ends = λ more h. halts_never more; cases = cases } where
  cases : (a : AssertionForm) → ((p : Unit {0} × AtomForm) × (Not p.1 ≡ a)) ⊎ Begins assertion_pieces (either colon never) next a
  cases (Plain a) = inr (λ more h f. name_no_mark a.symbol.name Bang (let both = f ∙ e in cc))
  cases (Not a) = inl ((tt, a), refl)
  cases (Maybe a) = inr (λ more h f. let both : Some question ≡ Some bang = f ∙ e in cc)
  cases (Valued a v) = inr (λ more h f. name_no_mark a.symbol.name Bang (let both = f ∙ e in cc))

pub maybe_case : (next : Option Kind) → next ≡ Some question → IsCase (pair (single question) atom_pieces) never assertion_pieces (either colon never) next (λ p. Maybe p.1)
maybe_case next e = record { same = λ p. refl; ends = λ more h. halts_never more; cases = cases } where
  cases : (a : AssertionForm) → ((p : Unit {0} × AtomForm) × (Maybe p.1 ≡ a)) ⊎ Begins assertion_pieces (either colon never) next a
  cases (Plain a) = inr (λ more h f. name_no_mark a.symbol.name Question (let both = f ∙ e in cc))
  cases (Not a) = inr (λ more h f. let both : Some bang ≡ Some question = f ∙ e in cc)
  cases (Maybe a) = inl ((tt, a), refl)
  cases (Valued a v) = inr (λ more h f. name_no_mark a.symbol.name Question (let both = f ∙ e in cc))

abbrev pub plain_of : AtomForm → Option ValueWord → AssertionForm
plain_of atom None = Plain atom
plain_of atom (Some value) = Valued atom value

pub plain_case : (next : Option Kind) → (next ≡ Some bang → ⊥) → (next ≡ Some question → ⊥)
    → IsCase (pair atom_pieces (optional_after colon value_pieces)) (either colon never) assertion_pieces (either colon never) next (λ p. plain_of p.0 p.1)
plain_case next no_bang no_question = record { same = λ p. same p.0 p.1; ends = λ more h. h; cases = cases } where
  same : (a : AtomForm) (v : Option ValueWord) → assertion_pieces (plain_of a v) ≡ atom_pieces a ++ optional_after colon value_pieces v
  same a None = sym (append_nil (atom_pieces a))
  same a (Some v) = refl

  cases : (a : AssertionForm) → ((p : AtomForm × Option ValueWord) × (plain_of p.0 p.1 ≡ a)) ⊎ Begins assertion_pieces (either colon never) next a
  cases (Plain a) = inl ((a, None), refl)
  cases (Not a) = inr (λ more h e. no_bang (sym e))
  cases (Maybe a) = inr (λ more h e. no_question (sym e))
  cases (Valued a v) = inl ((a, Some v), refl)

pub an_assertion : AssertionForm
an_assertion = Plain an_atom

-- the statement of an assertion
pub default_apart : Apart (either default_word never) (pair assertion_pieces (single dot)) never
default_apart b more h = apart b.0 where
  apart : (a : AssertionForm) → Halts (either default_word never) (kinds_of (pair assertion_pieces (single dot) (a, tt)) ++ more)
  apart (Plain a) = λ e. elim e [ inl same ↦ name_no_word a.symbol.name Default same | inr other ↦ other ]
  apart (Not a) = λ e. elim e [ inl same ↦ cc | inr other ↦ other ]
  apart (Maybe a) = λ e. elim e [ inl same ↦ cc | inr other ↦ other ]
  apart (Valued a v) = λ e. elim e [ inl same ↦ name_no_word a.symbol.name Default same | inr other ↦ other ]

pub dot_apart : Apart (either colon never) (single dot) never
dot_apart b more h = λ e. elim e [ inl same ↦ cc | inr other ↦ other ]

pub assert_case : (next : Option Kind) → BeginsNoWord next
    → IsCase (pair (λ (b : Bool). flagged b default_word) (pair assertion_pieces (single dot))) never statement_pieces never next (λ p. Assert p.0 p.1.0)
assert_case next none = record { same = λ p. append_assoc (flagged p.0 default_word) (assertion_pieces p.1.0) (terminal dot ∷ []); ends = λ more h. h; cases = cases } where
  cases : (s : Statement) → ((p : Bool × (AssertionForm × Unit {0})) × (Assert p.0 p.1.0 ≡ s)) ⊎ Begins statement_pieces never next s
  cases (Class a n s b) = inr (λ more h e. none.no_class (begun (Class a n s b) more next e))
  cases (Enum n ls) = inr (λ more h e. none.no_enum (begun (Enum n ls) more next e))
  cases (Predicate a n p c) = inr (λ more h e. none.no_predicate (begun (Predicate a n p c) more next e))
  cases (Declare names) = inr (λ more h e. none.no_declare (begun (Declare names) more next e))
  cases (Multi items) = inr (λ more h e. none.no_multi (begun (Multi items) more next e))
  cases (Atoms names) = inr (λ more h e. none.no_atoms (begun (Atoms names) more next e))
  cases (Scope bounds) = inr (λ more h e. none.no_scope (begun (Scope bounds) more next e))
  cases (Assert b a) = inl ((b, (a, tt)), refl)
