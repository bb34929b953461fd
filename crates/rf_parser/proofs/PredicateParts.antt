-- What is parsed of predicates.
use Rattle.std.proofs.Common.{◌≡◌, ◌⊎◌, Bool, true, false, List, [], ◌∷◌, ◌++◌, Option, None, Some, inl, inr, refl, sym, ◌∙◌, append_assoc}
use Rattle.rf_lexer.specs.declared.keyword.Keyword.TheVariants.{Pred as PredKeyword}
use Rattle.rf_lexer.specs.declared.mark.Mark.TheVariants.{Bang, RightParen}
use Rattle.rf_lexer.specs.declared.token.Kind.{Kind}
use Rattle.rf_syntax.specs.declared.non_empty.NonEmpty.{NonEmpty}
use Rattle.rf_syntax.specs.declared.name.Name.{Name}
use Rattle.rf_syntax.specs.declared.predicate.BodyLiteral.{BodyLiteral}
use Rattle.rf_syntax.specs.declared.predicate.BodyLiteral.TheVariants.{Call as CallLiteral, Same as SameLiteral, Differ as DifferLiteral}
use Rattle.rf_syntax.specs.declared.predicate.Param.{Param}
use Rattle.rf_syntax.specs.declared.predicate.PredicateWord.{PredicateWord}
use Rattle.rf_syntax.specs.declared.predicate.PredicateWord.TheVariants.{Pred, Error, ErrorPred}
use Rattle.rf_syntax.specs.declared.statement.Statement.{Statement}
use Rattle.rf_syntax.specs.declared.statement.Statement.TheVariants.{Class, Enum, Predicate, Declare, Multi, Atoms, Scope, Assert}
use Rattle.rf_syntax.specs.Name.{name_pieces}
use Rattle.rf_syntax.specs.Parts.{flagged, optional, optional_after, separated}
use Rattle.rf_syntax.specs.Piece.{Piece, kinds_of, terminal}
use Rattle.rf_syntax.specs.Predicate.{clause_pieces, literal_pieces, param_pieces, start_pieces}
use Rattle.rf_syntax.specs.Statement.{statement_pieces}
use Rattle.rf_syntax.specs.Terminals.{bang, bang_equal, colon_colon, comma, dot, equal_equal, error_word, iff, left_paren, plus, pred_word, right_paren, semicolon}
use Rattle.rf_parser.specs.declared.predicates.CallTail.{CallTail}
use Rattle.rf_parser.specs.declared.predicates.LiteralTail.{LiteralTail}
use Rattle.rf_parser.specs.declared.predicates.LiteralTail.TheVariants.{Same, Differ, Call}
use Rattle.rf_parser.specs.Private.Parts.{BeginsPredicate, call_tail_pieces, call_with, listed_in_parens, literal_tail_pieces, literal_with, single}
use Rattle.rf_parser.specs.Private.Parsing.{Halts, IsNameKind, NeverBegins, either, first_kind, never}
use Rattle.rf_parser.proofs.Beginnings.{begun}
use Rattle.rf_parser.proofs.Prefixes.{halts_never}
use Rattle.rf_parser.proofs.NameParts.{a_name, name_no_mark, name_no_word}
use Rattle.rf_parser.proofs.Wholes.{Apart, Begins, IsCase, pair}

-- how the statement begins
abbrev pub error_of : Bool → PredicateWord
error_of true = ErrorPred
error_of false = Error

pub error_case : (next : Option Kind) → next ≡ Some error_word
    → IsCase (pair (single error_word) (λ (b : Bool). flagged b pred_word)) (either pred_word never) start_pieces (either pred_word never) next (λ p. error_of p.1)
error_case next e = record { same = λ p. same p.1; ends = λ more h. h; cases = cases } where
  same : (b : Bool) → start_pieces (error_of b) ≡ terminal error_word ∷ flagged b pred_word
  same true = refl
  same false = refl

  cases : (w : PredicateWord) → ((p : Unit {0} × Bool) × (error_of p.1 ≡ w)) ⊎ Begins start_pieces (either pred_word never) next w
  cases Pred = inr (λ more h f. let both : Some pred_word ≡ Some error_word = f ∙ e in cc)
  cases Error = inl ((tt, false), refl)
  cases ErrorPred = inl ((tt, true), refl)

pub pred_case : (next : Option Kind) → (next ≡ Some error_word → ⊥) → IsCase (single pred_word) never start_pieces (either pred_word never) next (λ u. Pred)
pred_case next none = record { same = λ u. refl; ends = λ more h. halts_never more; cases = cases } where
  cases : (w : PredicateWord) → ((u : Unit {0}) × (Pred ≡ w)) ⊎ Begins start_pieces (either pred_word never) next w
  cases Pred = inl (tt, refl)
  cases Error = inr (λ more h e. none (sym e))
  cases ErrorPred = inr (λ more h e. none (sym e))

-- parameters
abbrev pub param_of : Name → Option Name → Param
param_of first None = record { class = None; name = first }
param_of first (Some second) = record { class = Some first; name = second }

pub param_case : (next : Option Kind) → IsCase (pair name_pieces (optional name_pieces)) IsNameKind param_pieces IsNameKind next (λ p. param_of p.0 p.1)
param_case next = record { same = λ p. same p.0 p.1; ends = λ more h. h; cases = λ p. inl (made p.class p.name) } where
  same : (first : Name) (second : Option Name) → param_pieces (param_of first second) ≡ name_pieces first ++ optional name_pieces second
  same first None = refl
  same first (Some second) = refl

  made : (class : Option Name) (name : Name) → (p : Name × Option Name) × (param_of p.0 p.1 ≡ record { class = class; name = name })
  made None name = ((name, None), refl)
  made (Some first) name = ((first, Some name), refl)

pub param_begins : NeverBegins param_pieces right_paren
param_begins p more e = begins p.class p.name more e where
  begins : (class : Option Name) (name : Name) (more : List Kind) → first_kind (kinds_of (optional name_pieces class ++ name_pieces name) ++ more) ≡ Some right_paren → ⊥
  begins None name more e = name_no_mark name RightParen (let both = e in cc)
  begins (Some first) name more e = name_no_mark first RightParen (let both = e in cc)

-- calls
abbrev pub flag_and_args : Bool × List Name → List Piece
flag_and_args p = pair (λ (b : Bool). flagged b plus) (listed_in_parens name_pieces) p

pub call_tail_case : (next : Option Kind)
    → IsCase (pair (optional_after colon_colon name_pieces) flag_and_args) never call_tail_pieces never next (λ p. record { member = p.0; closure = p.1.0; args = p.1.1 })
call_tail_case next = record {
  same = λ p. append_assoc (optional_after colon_colon name_pieces p.0) (flagged p.1.0 plus) (listed_in_parens name_pieces p.1.1);
  ends = λ more h. h;
  cases = λ t. inl ((t.member, (t.closure, t.args)), refl);
}

pub member_apart : Apart (either colon_colon never) flag_and_args never
member_apart b more h = apart b.0 b.1 where
  apart : (closure : Bool) (args : List Name) → Halts (either colon_colon never) (kinds_of (flag_and_args (closure, args)) ++ more)
  apart true args = λ e. elim e [ inl same ↦ cc | inr other ↦ other ]
  apart false args = λ e. elim e [ inl same ↦ cc | inr other ↦ other ]

pub plus_apart : Apart (either plus never) (listed_in_parens name_pieces) never
plus_apart b more h = λ e. elim e [ inl same ↦ cc | inr other ↦ other ]

-- a call's tail begins with one of three marks
call_tail_begins : (t : CallTail) (more : List Kind) (k : Kind) → (colon_colon ≡ k → ⊥) → (plus ≡ k → ⊥) → (left_paren ≡ k → ⊥) → first_kind (kinds_of (call_tail_pieces t) ++ more) ≡ Some k → ⊥
call_tail_begins t more k a b c e = begins t.member t.closure t.args e where
  begins : (member : Option Name) (closure : Bool) (args : List Name) → first_kind (kinds_of (call_tail_pieces (record { member = member; closure = closure; args = args })) ++ more) ≡ Some k → ⊥
  begins None true args e = b (let both = e in cc)
  begins None false args e = c (let both = e in cc)
  begins (Some n) closure args e = a (let both = e in cc)

pub same_case : (next : Option Kind) → next ≡ Some equal_equal → IsCase (pair (single equal_equal) name_pieces) never literal_tail_pieces never next (λ p. Same p.1)
same_case next e = record { same = λ p. refl; ends = λ more h. h; cases = cases } where
  cases : (t : LiteralTail) → ((p : Unit {0} × Name) × (Same p.1 ≡ t)) ⊎ Begins literal_tail_pieces never next t
  cases (Same right) = inl ((tt, right), refl)
  cases (Differ right) = inr (λ more h f. let both : Some bang_equal ≡ Some equal_equal = f ∙ e in cc)
  cases (Call t) = inr (λ more h f. call_tail_begins t more equal_equal (λ x. cc) (λ x. cc) (λ x. cc) (f ∙ e))

pub differ_case : (next : Option Kind) → next ≡ Some bang_equal → IsCase (pair (single bang_equal) name_pieces) never literal_tail_pieces never next (λ p. Differ p.1)
differ_case next e = record { same = λ p. refl; ends = λ more h. h; cases = cases } where
  cases : (t : LiteralTail) → ((p : Unit {0} × Name) × (Differ p.1 ≡ t)) ⊎ Begins literal_tail_pieces never next t
  cases (Same right) = inr (λ more h f. let both : Some equal_equal ≡ Some bang_equal = f ∙ e in cc)
  cases (Differ right) = inl ((tt, right), refl)
  cases (Call t) = inr (λ more h f. call_tail_begins t more bang_equal (λ x. cc) (λ x. cc) (λ x. cc) (f ∙ e))

pub call_case : (next : Option Kind) → (next ≡ Some equal_equal → ⊥) → (next ≡ Some bang_equal → ⊥) → IsCase call_tail_pieces never literal_tail_pieces never next (λ t. Call t)
call_case next no_same no_differ = record { same = λ t. refl; ends = λ more h. h; cases = cases } where
  cases : (t : LiteralTail) → ((s : CallTail) × (Call s ≡ t)) ⊎ Begins literal_tail_pieces never next t
  cases (Same right) = inr (λ more h e. no_same (sym e))
  cases (Differ right) = inr (λ more h e. no_differ (sym e))
  cases (Call t) = inl (t, refl)

-- literals
pub negated_case : (next : Option Kind) → next ≡ Some bang → IsCase (pair (single bang) (pair name_pieces call_tail_pieces)) never literal_pieces never next (λ p. call_with true p.1.0 p.1.1)
negated_case next e = record { same = λ p. refl; ends = λ more h. h; cases = cases } where
  cases : (l : BodyLiteral) → ((p : Unit {0} × (Name × CallTail)) × (call_with true p.1.0 p.1.1 ≡ l)) ⊎ Begins literal_pieces never next l
  cases (CallLiteral true s closure args) = inl ((tt, (s.name, record { member = s.member; closure = closure; args = args })), refl)
  cases (CallLiteral false s closure args) = inr (λ more h f. name_no_mark s.name Bang (let both = f ∙ e in cc))
  cases (SameLiteral left right) = inr (λ more h f. name_no_mark left Bang (let both = f ∙ e in cc))
  cases (DifferLiteral left right) = inr (λ more h f. name_no_mark left Bang (let both = f ∙ e in cc))

pub literal_case : (next : Option Kind) → (next ≡ Some bang → ⊥) → IsCase (pair name_pieces literal_tail_pieces) never literal_pieces never next (λ p. literal_with p.0 p.1)
literal_case next none = record { same = λ p. same p.0 p.1; ends = λ more h. h; cases = cases } where
  same : (n : Name) (t : LiteralTail) → literal_pieces (literal_with n t) ≡ name_pieces n ++ literal_tail_pieces t
  same n (Same right) = refl
  same n (Differ right) = refl
  same n (Call t) = refl

  cases : (l : BodyLiteral) → ((p : Name × LiteralTail) × (literal_with p.0 p.1 ≡ l)) ⊎ Begins literal_pieces never next l
  cases (CallLiteral true s closure args) = inr (λ more h e. none (sym e))
  cases (CallLiteral false s closure args) = inl ((s.name, Call (record { member = s.member; closure = closure; args = args })), refl)
  cases (SameLiteral left right) = inl ((left, Same right), refl)
  cases (DifferLiteral left right) = inl ((left, Differ right), refl)

-- parts, where any will do
pub a_tail : CallTail
a_tail = record { member = None; closure = false; args = [] }

pub a_clause : NonEmpty BodyLiteral
a_clause = record { first = SameLiteral a_name a_name; rest = [] }

pub a_body : NonEmpty (NonEmpty BodyLiteral)
a_body = record { first = a_clause; rest = [] }

-- statements
abbrev pub predicate_end : NonEmpty (NonEmpty BodyLiteral) × Unit {0} → List Piece
predicate_end p = pair (separated semicolon clause_pieces) (single dot) p

abbrev pub predicate_body : Unit {0} × (NonEmpty (NonEmpty BodyLiteral) × Unit {0}) → List Piece
predicate_body p = pair (single iff) predicate_end p

abbrev pub predicate_rest : List Param × (Unit {0} × (NonEmpty (NonEmpty BodyLiteral) × Unit {0})) → List Piece
predicate_rest p = pair (listed_in_parens param_pieces) predicate_body p

abbrev pub predicate_named : Name × (List Param × (Unit {0} × (NonEmpty (NonEmpty BodyLiteral) × Unit {0}))) → List Piece
predicate_named p = pair name_pieces predicate_rest p

joined_parts : (a b c d e : List Piece) → (((a ++ b) ++ c) ++ d) ++ e ≡ a ++ (b ++ (c ++ (d ++ e)))
joined_parts a b c d e = simp append_assoc

pub predicate_case : (next : Option Kind) → BeginsPredicate next
    → IsCase (pair start_pieces predicate_named) never statement_pieces never next (λ p. Predicate p.0 p.1.0 p.1.1.0 p.1.1.1.1.0)
predicate_case next begins = record {
  same = λ p. joined_parts (start_pieces p.0) (name_pieces p.1.0) (listed_in_parens param_pieces p.1.1.0) (terminal iff ∷ separated semicolon clause_pieces p.1.1.1.1.0) (terminal dot ∷ []);
  ends = λ more h. h;
  cases = cases;
} where
  not_both : (k : Kind) → (k ≡ pred_word → ⊥) → (k ≡ error_word → ⊥) → Some k ≡ next → ⊥
  not_both k a b e = elim begins [ inl x ↦ a (let both = e ∙ x in cc) | inr x ↦ b (let both = e ∙ x in cc) ]

  cases : (s : Statement) → ((p : PredicateWord × (Name × (List Param × (Unit {0} × (NonEmpty (NonEmpty BodyLiteral) × Unit {0}))))) × (Predicate p.0 p.1.0 p.1.1.0 p.1.1.1.1.0 ≡ s)) ⊎ Begins statement_pieces never next s
  cases (Class true n s b) = inr (λ more h e. not_both _ (λ x. cc) (λ x. cc) e)
  cases (Class false n s b) = inr (λ more h e. not_both _ (λ x. cc) (λ x. cc) e)
  cases (Enum n ls) = inr (λ more h e. not_both _ (λ x. cc) (λ x. cc) e)
  cases (Predicate start name params clauses) = inl ((start, (name, (params, (tt, (clauses, tt))))), refl)
  cases (Declare names) = inr (λ more h e. not_both _ (λ x. cc) (λ x. cc) e)
  cases (Multi items) = inr (λ more h e. not_both _ (λ x. cc) (λ x. cc) e)
  cases (Atoms names) = inr (λ more h e. not_both _ (λ x. cc) (λ x. cc) e)
  cases (Scope bounds) = inr (λ more h e. not_both _ (λ x. cc) (λ x. cc) e)
  cases (Assert b a) = inr (λ more h e. (begun (Assert b a) more next e).no_predicate begins)

pub start_apart : Apart (either pred_word never) predicate_named never
start_apart b more h = λ e. elim e [ inl same ↦ name_no_word b.0 PredKeyword same | inr other ↦ other ]

pub clauses_apart : Apart (either semicolon (either comma never)) (single dot) never
clauses_apart b more h = λ e. elim e [ inl same ↦ cc | inr other ↦ elim other [ inl same ↦ cc | inr none ↦ none ] ]
