-- The kinds at which statements end.
use Rattle.std.proofs.Common.{◌≡◌, Bool, true, false, not, List, [], ◌∷◌, ◌++◌, Option, None, Some, if◌then◌else◌, refl, sym, ap, ◌∙◌, append_assoc, true≢false}
use Rattle.std.proofs.lemmas.Bool.{and_parts, and_from}
use Rattle.std.specs.List.{flat_map, list_all}
use Rattle.rf_lexer.specs.declared.token.Kind.{Kind}
use Rattle.rf_lexer.specs.declared.token.Kind.TheVariants.{Quoted, Name as Identifier}
use Rattle.rf_syntax.specs.declared.non_empty.NonEmpty.{NonEmpty}
use Rattle.rf_syntax.specs.declared.assertion.Arg.{Arg}
use Rattle.rf_syntax.specs.declared.assertion.Arg.TheVariants.{Star, Symbol}
use Rattle.rf_syntax.specs.declared.assertion.AssertionForm.{AssertionForm}
use Rattle.rf_syntax.specs.declared.assertion.AssertionForm.TheVariants.{Plain, Not, Maybe, Valued}
use Rattle.rf_syntax.specs.declared.assertion.AtomForm.{AtomForm}
use Rattle.rf_syntax.specs.declared.assertion.ValueWord.{ValueWord}
use Rattle.rf_syntax.specs.declared.assertion.ValueWord.TheVariants.{True, False, Unknown, Error as ErrorValue}
use Rattle.rf_syntax.specs.declared.class.Feature.{Feature}
use Rattle.rf_syntax.specs.declared.class.FeatureWord.{FeatureWord}
use Rattle.rf_syntax.specs.declared.class.FeatureWord.TheVariants.{Contains, Container, Refers}
use Rattle.rf_syntax.specs.declared.class.MultPlace.{MultPlace}
use Rattle.rf_syntax.specs.declared.class.MultPlace.TheVariants.{Absent, AfterType, AfterName}
use Rattle.rf_syntax.specs.declared.name.Name.{Name}
use Rattle.rf_syntax.specs.declared.name.SymbolName.{SymbolName}
use Rattle.rf_syntax.specs.declared.predicate.BodyLiteral.{BodyLiteral}
use Rattle.rf_syntax.specs.declared.predicate.BodyLiteral.TheVariants.{Call, Same, Differ}
use Rattle.rf_syntax.specs.declared.predicate.Param.{Param}
use Rattle.rf_syntax.specs.declared.predicate.PredicateWord.{PredicateWord}
use Rattle.rf_syntax.specs.declared.predicate.PredicateWord.TheVariants.{Pred, Error, ErrorPred}
use Rattle.rf_syntax.specs.declared.range.Mult.{Mult}
use Rattle.rf_syntax.specs.declared.range.Range.{Range}
use Rattle.rf_syntax.specs.declared.range.Upper.{Upper}
use Rattle.rf_syntax.specs.declared.range.Upper.TheVariants.{Absent as NoUpper, Star as StarUpper, Number}
use Rattle.rf_syntax.specs.declared.statement.Bound.{Bound}
use Rattle.rf_syntax.specs.declared.statement.Item.{Item}
use Rattle.rf_syntax.specs.declared.statement.Statement.{Statement}
use Rattle.rf_syntax.specs.declared.statement.Statement.TheVariants.{Class, Enum, Predicate, Declare, Multi, Atoms, Scope, Assert}
use Rattle.rf_syntax.specs.Assertion.{arg_pieces, assertion_pieces, atom_pieces, value_pieces}
use Rattle.rf_syntax.specs.Class.{feature_pieces, feature_word_pieces, with_mult_pieces}
use Rattle.rf_syntax.specs.Laws.{EndsOnce, StatementEndsOnce, StatementsAreApart, ends_statement, first_of_statement}
use Rattle.rf_syntax.specs.Name.{name_pieces, symbol_pieces}
use Rattle.rf_syntax.specs.Piece.{Piece, kinds_of, terminal}
use Rattle.rf_syntax.specs.Parts.{each_after, flagged, in_parens, optional, optional_after, separated, separated_or_none}
use Rattle.rf_syntax.specs.Predicate.{clause_pieces, literal_pieces, param_pieces, start_pieces}
use Rattle.rf_syntax.specs.Range.{mult_pieces, range_pieces, upper_pieces}
use Rattle.rf_syntax.specs.Statement.{bound_pieces, item_pieces, spelled_statement}
use Rattle.rf_syntax.specs.Terminals.{abstract_word, atom_word, class_word, declare_word, default_word, enum_word, extends_word, multi_word, opposite_word, scope_word, bang, colon_colon, comma, dot, equal, left_brace, plus, plus_equal, right_brace, semicolon}
use Rattle.rf_syntax.proofs.Beginnings.{statement_begins}
use Rattle.rf_syntax.proofs.Joined.{kinds_joined}

-- whether a statement goes on after a kind
abbrev goes_on : Kind → Bool
goes_on kind = not (ends_statement kind)

-- no statement ends within these pieces
record Inside (pieces : List Piece) : Type 0 where
  passed : list_all goes_on (kinds_of pieces) ≡ true

-- how lists of such pieces are made
nothing : Inside []
nothing = record { passed = refl }

after : {piece : Piece} {pieces : List Piece} → goes_on piece.kind ≡ true → Inside pieces → Inside (piece ∷ pieces)
after {piece} {pieces} h rest = record { passed = and_from (goes_on piece.kind) (list_all goes_on (kinds_of pieces)) h rest.passed }

alone : {piece : Piece} → goes_on piece.kind ≡ true → Inside (piece ∷ [])
alone h = after h nothing

-- two of them joined are one
all_joined : (xs ys : List Piece) → list_all goes_on (kinds_of xs) ≡ true → list_all goes_on (kinds_of ys) ≡ true → list_all goes_on (kinds_of (xs ++ ys)) ≡ true
all_joined [] ys a b = b
all_joined (x ∷ xs) ys a b =
    let parts = and_parts (goes_on x.kind) (list_all goes_on (kinds_of xs)) a in
    and_from (goes_on x.kind) (list_all goes_on (kinds_of (xs ++ ys))) parts.0 (all_joined xs ys parts.1 b)

join : {xs ys : List Piece} → Inside xs → Inside ys → Inside (xs ++ ys)
join {xs} {ys} a b = record { passed = all_joined xs ys a.passed b.passed }

-- the parts of which statements are made, from the smallest on
in_flagged : (flag : Bool) (kind : Kind) → goes_on kind ≡ true → Inside (flagged flag kind)
in_flagged true kind h = alone h
in_flagged false kind h = nothing

module _ {T : Type 0} {pieces : T → List Piece} (inner : (part : T) → Inside (pieces part)) where
  in_optional : (part : Option T) → Inside (optional pieces part)
  in_optional None = nothing
  in_optional (Some part) = inner part

  in_optional_after : (kind : Kind) → goes_on kind ≡ true → (part : Option T) → Inside (optional_after kind pieces part)
  in_optional_after kind h None = nothing
  in_optional_after kind h (Some part) = after h (inner part)

  in_each : (parts : List T) → Inside (flat_map pieces parts)
  in_each [] = nothing
  in_each (part ∷ parts) = join (inner part) (in_each parts)

  in_each_after : (kind : Kind) → goes_on kind ≡ true → (parts : List T) → Inside (each_after kind pieces parts)
  in_each_after kind h [] = nothing
  in_each_after kind h (part ∷ parts) = join (after h (inner part)) (in_each_after kind h parts)

  in_separated : (kind : Kind) → goes_on kind ≡ true → (parts : NonEmpty T) → Inside (separated kind pieces parts)
  in_separated kind h parts = join (inner parts.first) (in_each_after kind h parts.rest)

  in_separated_or_none : (kind : Kind) → goes_on kind ≡ true → (parts : List T) → Inside (separated_or_none kind pieces parts)
  in_separated_or_none kind h [] = nothing
  in_separated_or_none kind h (part ∷ parts) = join (inner part) (in_each_after kind h parts)

in_parentheses : {inner : List Piece} → Inside inner → Inside (in_parens inner)
in_parentheses h = join (after refl h) (alone refl)

in_name : (n : Name) → Inside (name_pieces n)
in_name n = elim n.quoted as (λ q. Inside (record { kind = (if q then Quoted n.text else Identifier n.text); at = Some n.at } ∷ [])) [ true ↦ alone refl | false ↦ alone refl ]

in_symbol : (s : SymbolName) → Inside (symbol_pieces s)
in_symbol s = join (in_name s.name) (in_optional_after in_name colon_colon refl s.member)

in_upper : (u : Upper) → Inside (upper_pieces u)
in_upper NoUpper = nothing
in_upper StarUpper = after refl (alone refl)
in_upper (Number n) = after refl (alone refl)

in_range : (r : Range) → Inside (range_pieces r)
in_range r = after refl (in_upper r.hi)

in_mult : (m : Mult) → Inside (mult_pieces m)
in_mult m = join (after refl (in_optional in_range m.range)) (alone refl)

in_feature_word : (w : FeatureWord) → Inside (feature_word_pieces w)
in_feature_word Contains = alone refl
in_feature_word Container = alone refl
in_feature_word Refers = alone refl

in_with_mult : (place : MultPlace) (name : Name) → Inside (with_mult_pieces place name)
in_with_mult Absent name = in_name name
in_with_mult (AfterType mult) name = join (in_mult mult) (in_name name)
in_with_mult (AfterName mult) name = join (in_name name) (in_mult mult)

in_feature : (f : Feature) → Inside (feature_pieces f)
in_feature f =
    let word = in_optional in_feature_word f.word in
    let named = join (join word (in_name f.target)) (in_with_mult f.mult f.name) in
    join (join named (in_optional_after in_name opposite_word refl f.opposite)) (in_flagged f.semicolon semicolon refl)

in_param : (p : Param) → Inside (param_pieces p)
in_param p = join (in_optional in_name p.class) (in_name p.name)

in_literal : (l : BodyLiteral) → Inside (literal_pieces l)
in_literal (Call negated symbol closure args) =
    join (join (join (in_flagged negated bang refl) (in_symbol symbol)) (in_flagged closure plus refl)) (in_parentheses (in_separated_or_none in_name comma refl args))
in_literal (Same left right) = join (in_name left) (after refl (in_name right))
in_literal (Differ left right) = join (in_name left) (after refl (in_name right))

in_clause : (literals : NonEmpty BodyLiteral) → Inside (clause_pieces literals)
in_clause literals = in_separated in_literal comma refl literals

in_start : (start : PredicateWord) → Inside (start_pieces start)
in_start Pred = alone refl
in_start Error = alone refl
in_start ErrorPred = after refl (alone refl)

in_arg : (a : Arg) → Inside (arg_pieces a)
in_arg Star = alone refl
in_arg (Symbol symbol) = in_symbol symbol

in_atom : (a : AtomForm) → Inside (atom_pieces a)
in_atom a = join (in_symbol a.symbol) (in_parentheses (in_separated_or_none in_arg comma refl a.args))

in_value : (v : ValueWord) → Inside (value_pieces v)
in_value True = alone refl
in_value False = alone refl
in_value Unknown = alone refl
in_value ErrorValue = alone refl

in_assertion : (a : AssertionForm) → Inside (assertion_pieces a)
in_assertion (Plain atom) = in_atom atom
in_assertion (Not atom) = after refl (in_atom atom)
in_assertion (Maybe atom) = after refl (in_atom atom)
in_assertion (Valued atom value) = join (in_atom atom) (after refl (in_value value))

in_item : (i : Item) → Inside (item_pieces i)
in_item i = join (in_name i.name) (in_optional_after in_range equal refl i.range)

in_equal : (only_new : Bool) → goes_on (if only_new then plus_equal else equal) ≡ true
in_equal true = refl
in_equal false = refl

in_bound : (b : Bound) → Inside (bound_pieces b)
in_bound b = join (in_name b.name) (after (in_equal b.only_new) (in_range b.range))

-- pieces within a statement, and one that ends it
ended_at : {pieces prefix : List Piece} (last : Kind) → pieces ≡ prefix ++ terminal last ∷ [] → ends_statement last ≡ true → Inside prefix → EndsOnce (kinds_of pieces)
ended_at {pieces} {prefix} last e h inside = record {
  prefix = kinds_of prefix;
  last = last;
  joined = ap (λ (ps : List Piece). kinds_of ps) e ∙ kinds_joined prefix (terminal last ∷ []);
  inside = inside.passed;
  ended = h;
}

ended : {prefix : List Piece} (last : Kind) → ends_statement last ≡ true → Inside prefix → EndsOnce (kinds_of (prefix ++ terminal last ∷ []))
ended last h inside = ended_at last refl h inside

-- the pieces of a class before its body
abbrev head_of_class : Bool → Name → Option (NonEmpty Name) → List Piece
head_of_class is_abstract name supers =
    flagged is_abstract abstract_word ++ terminal class_word ∷ name_pieces name ++ optional_after extends_word (separated comma name_pieces) supers

in_head : (is_abstract : Bool) (name : Name) (supers : Option (NonEmpty Name)) → Inside (head_of_class is_abstract name supers)
in_head is_abstract name supers =
    join (join (in_flagged is_abstract abstract_word refl) (after refl (in_name name))) (in_optional_after (in_separated in_name comma refl) extends_word refl supers)

pub statement_ends : StatementEndsOnce
statement_ends (Class is_abstract name supers None) = ended dot refl (in_head is_abstract name supers)
statement_ends (Class is_abstract name supers (Some features)) =
    ended_at right_brace (sym (append_assoc (head_of_class is_abstract name supers) (terminal left_brace ∷ flat_map feature_pieces features) (terminal right_brace ∷ []))) refl
    (join (in_head is_abstract name supers) (after refl (in_each in_feature features)))
statement_ends (Enum name None) = ended dot refl (after {piece = terminal enum_word} refl (in_name name))
statement_ends (Enum name (Some literals)) =
    ended_at right_brace (sym (append_assoc (terminal enum_word ∷ name_pieces name) (terminal left_brace ∷ separated_or_none comma name_pieces literals) (terminal right_brace ∷ []))) refl
    (join (after {piece = terminal enum_word} refl (in_name name)) (after refl (in_separated_or_none in_name comma refl literals)))
statement_ends (Predicate start name params clauses) =
    ended dot refl
    (join
    (join (join (in_start start) (in_name name)) (in_parentheses (in_separated_or_none in_param comma refl params)))
    (after refl (in_separated in_clause semicolon refl clauses)))
statement_ends (Declare names) = ended dot refl (after {piece = terminal declare_word} refl (in_separated in_name comma refl names))
statement_ends (Multi items) = ended dot refl (after {piece = terminal multi_word} refl (in_separated in_item comma refl items))
statement_ends (Atoms names) = ended dot refl (after {piece = terminal atom_word} refl (in_separated in_name comma refl names))
statement_ends (Scope bounds) = ended dot refl (after {piece = terminal scope_word} refl (in_separated in_bound comma refl bounds))
statement_ends (Assert is_default assertion) = ended dot refl (join (in_flagged is_default default_word refl) (in_assertion assertion))

-- no kind both ends a statement and goes on
clash : (ends : Bool) → ends ≡ true → not ends ≡ true → ⊥
clash true h k = true≢false (sym k)
clash false h k = true≢false (sym h)

-- two lists of kinds that go on after a first end have the same kinds up to it, and after it
first_end : (xs ys : List Kind) (x y : Kind) (more rest : List Kind) → list_all goes_on xs ≡ true → list_all goes_on ys ≡ true → ends_statement x ≡ true → ends_statement y ≡ true
    → xs ++ x ∷ more ≡ ys ++ y ∷ rest → (xs ++ x ∷ [] ≡ ys ++ y ∷ []) × (more ≡ rest)
first_end [] [] x y more rest h k m n e = (cc, cc)
first_end [] (b ∷ ys) x y more rest h k m n e =
    let same : x ≡ b = cc in
    absurd (clash (ends_statement b) (sym (ap ends_statement same) ∙ m) (and_parts (goes_on b) (list_all goes_on ys) k).0)
first_end (a ∷ xs) [] x y more rest h k m n e =
    let same : a ≡ y = cc in
    absurd (clash (ends_statement a) (ap ends_statement same ∙ n) (and_parts (goes_on a) (list_all goes_on xs) h).0)
first_end (a ∷ xs) (b ∷ ys) x y more rest h k m n e =
    let same : a ≡ b = cc in
    let after_it : xs ++ x ∷ more ≡ ys ++ y ∷ rest = cc in
    let left = (and_parts (goes_on a) (list_all goes_on xs) h).1 in
    let right = (and_parts (goes_on b) (list_all goes_on ys) k).1 in
    let both = first_end xs ys x y more rest left right m n after_it in
    (cc, both.1)

-- what follows a statement comes after its last kind
rejoin : (prefix : List Kind) (last : Kind) (kinds more : List Kind) → kinds ≡ prefix ++ last ∷ [] → kinds ++ more ≡ prefix ++ last ∷ more
rejoin prefix last kinds more e = ap (λ ks. ks ++ more) e ∙ append_assoc prefix (last ∷ []) more

-- a statement has a kind
not_nothing : (t : Statement) (more : List Kind) → [] ≡ spelled_statement t ++ more → ⊥
not_nothing t more e =
    let begun = statement_begins t in
    let whole : [] ≡ first_of_statement t ∷ (begun.0 ++ more) = e ∙ ap (λ ks. ks ++ more) begun.1 in
    cc

pub statements_apart : StatementsAreApart
statements_apart [] [] e = refl
statements_apart [] (t ∷ ts) e = absurd (not_nothing t (flat_map spelled_statement ts) e)
statements_apart (s ∷ ss) [] e = absurd (not_nothing s (flat_map spelled_statement ss) (sym e))
statements_apart (s ∷ ss) (t ∷ ts) e =
    let a = statement_ends s in
    let b = statement_ends t in
    let more = flat_map spelled_statement ss in
    let rest = flat_map spelled_statement ts in
    let whole = sym (rejoin a.prefix a.last (spelled_statement s) more a.joined) ∙ e ∙ rejoin b.prefix b.last (spelled_statement t) rest b.joined in
    let both = first_end a.prefix b.prefix a.last b.last more rest a.inside b.inside a.ended b.ended whole in
    let here : spelled_statement s ≡ spelled_statement t = a.joined ∙ both.0 ∙ sym b.joined in
    let later = statements_apart ss ts both.1 in
    cc
