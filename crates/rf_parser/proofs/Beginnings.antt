-- With which kinds statements begin.
use Rattle.std.proofs.Common.{◌≡◌, ◌⊎◌, Bool, true, false, List, ◌∷◌, ◌++◌, Option, Some, inl, inr, sym, ◌∙◌}
use Rattle.rf_lexer.specs.declared.keyword.Keyword.{Keyword}
use Rattle.rf_lexer.specs.declared.keyword.Keyword.TheVariants.{Abstract, Atom, Class as ClassWord, Declare as DeclareWord, Default, Enum as EnumWord, Error as ErrorWord, Multi as MultiWord, Pred as PredWord, Scope as ScopeWord}
use Rattle.rf_lexer.specs.declared.token.Kind.{Kind}
use Rattle.rf_lexer.specs.declared.token.Kind.TheVariants.{Word}
use Rattle.rf_syntax.specs.declared.assertion.AssertionForm.{AssertionForm}
use Rattle.rf_syntax.specs.declared.assertion.AssertionForm.TheVariants.{Plain, Not, Maybe, Valued}
use Rattle.rf_syntax.specs.declared.predicate.PredicateWord.TheVariants.{Pred, Error, ErrorPred}
use Rattle.rf_syntax.specs.declared.name.Name.{Name}
use Rattle.rf_syntax.specs.declared.statement.Statement.{Statement}
use Rattle.rf_syntax.specs.declared.statement.Statement.TheVariants.{Class, Enum, Predicate, Declare, Multi, Atoms, Scope, Assert}
use Rattle.rf_syntax.specs.Name.{kind_of_name}
use Rattle.rf_syntax.specs.Piece.{Piece, kinds_of, terminal}
use Rattle.rf_syntax.specs.Statement.{statement_pieces}
use Rattle.rf_syntax.specs.Terminals.{atom_word, bang, declare_word, default_word, enum_word, multi_word, question, scope_word}
use Rattle.rf_parser.specs.Private.Parts.{BeginsClass, BeginsNoWord, BeginsPredicate, single}
use Rattle.rf_parser.specs.Private.Parsing.{first_kind, never}
use Rattle.rf_parser.proofs.NameParts.{name_no_word}
use Rattle.rf_parser.proofs.Wholes.{IsCase, pair}

-- the kind is one with which such a statement begins
abbrev pub Begun : Statement → Option Kind → Type 0
Begun (Class is_abstract name supers body) first = BeginsClass first
Begun (Enum name literals) first = first ≡ Some enum_word
Begun (Predicate start name params clauses) first = BeginsPredicate first
Begun (Declare names) first = first ≡ Some declare_word
Begun (Multi items) first = first ≡ Some multi_word
Begun (Atoms names) first = first ≡ Some atom_word
Begun (Scope bounds) first = first ≡ Some scope_word
Begun (Assert is_default assertion) first = BeginsNoWord first

-- a kind that is none of the words, except `default`
no_word : (first : Option Kind) (k : Kind) → Some k ≡ first → ((w : Keyword) → (w ≡ Default → ⊥) → k ≡ Word w → ⊥) → BeginsNoWord first
no_word first k e apart = record {
  no_class = λ s. elim s [ inl x ↦ other Abstract (λ y. cc) x | inr x ↦ other ClassWord (λ y. cc) x ];
  no_enum = other EnumWord (λ y. cc);
  no_predicate = λ s. elim s [ inl x ↦ other PredWord (λ y. cc) x | inr x ↦ other ErrorWord (λ y. cc) x ];
  no_declare = other DeclareWord (λ y. cc);
  no_multi = other MultiWord (λ y. cc);
  no_atoms = other Atom (λ y. cc);
  no_scope = other ScopeWord (λ y. cc);
} where
  other : (w : Keyword) → (w ≡ Default → ⊥) → first ≡ Some (Word w) → ⊥
  other w d x = apart w d (let both : Some k ≡ Some (Word w) = e ∙ x in cc)

named : (first : Option Kind) (n : Name) → Some (kind_of_name n) ≡ first → BeginsNoWord first
named first n e = no_word first (kind_of_name n) e (λ w d. name_no_word n w)

assert_begun : (is_default : Bool) (a : AssertionForm) (more : List Kind) (next : Option Kind) → first_kind (kinds_of (statement_pieces (Assert is_default a)) ++ more) ≡ next → BeginsNoWord next
assert_begun true a more next e = no_word next default_word e (λ w d x. d cc)
assert_begun false (Plain a) more next e = named next a.symbol.name e
assert_begun false (Not a) more next e = no_word next bang e (λ w d x. cc)
assert_begun false (Maybe a) more next e = no_word next question e (λ w d x. cc)
assert_begun false (Valued a v) more next e = named next a.symbol.name e

pub begun : (s : Statement) (more : List Kind) (next : Option Kind) → first_kind (kinds_of (statement_pieces s) ++ more) ≡ next → Begun s next
begun (Class true name supers body) more next e = inl (sym e)
begun (Class false name supers body) more next e = inr (sym e)
begun (Enum name literals) more next e = sym e
begun (Predicate Pred name params clauses) more next e = inl (sym e)
begun (Predicate Error name params clauses) more next e = inr (sym e)
begun (Predicate ErrorPred name params clauses) more next e = inr (sym e)
begun (Declare names) more next e = sym e
begun (Multi items) more next e = sym e
begun (Atoms names) more next e = sym e
begun (Scope bounds) more next e = sym e
begun (Assert is_default a) more next e = assert_begun is_default a more next e

-- where a word is first, a statement is made so of what follows the word
pub word_case : {A : Type 0} (word : Kind) (rest : A → List Piece) (make : A → Statement) → ((a : A) → statement_pieces (make a) ≡ terminal word ∷ rest a)
    → ((s : Statement) → ((a : A) × (make a ≡ s)) ⊎ (Begun s (Some word) → ⊥))
    → (next : Option Kind) → next ≡ Some word → IsCase (pair (single word) rest) never statement_pieces never next (λ p. make p.1)
word_case word rest make same cases next e = record {
  same = λ p. same p.1;
  ends = λ more h. h;
  cases = λ s. elim (cases s) [
    | inl made ↦ inl ((tt, made.0), made.1)
    | inr other ↦ inr (λ more h f. other (begun s more (Some word) (f ∙ e)))
  ];
}
