-- What trees of texts declare has names and numbers of texts.
use Rattle.std.proofs.Common.{◌≡◌, ℕ, suc, ◌≤◌, List, [], ◌∷◌, ◌++◌, codes, map, All, Option, Some, None, subst, inl, inr, arith}
use Rattle.std.specs.Prelude.{option_to_list}
use Rattle.std.specs.List.{flat_map}
use Rattle.std.specs.Option.{ForSome}
use Rattle.std.proofs.lemmas.Bool.{cases_Bool}
use Rattle.std.proofs.lemmas.List.Elements.{All-append, All-cons, All-filter, All-head, All-map, All-nil, All-tail, All-weaker}
use Rattle.rf_lexer.specs.declared.token.Kind.{Kind}
use Rattle.rf_bounds.specs.declared.TheConstants.{GREATEST_NUMBER}
use Rattle.rf_syntax.specs.Assertion.{arg_pieces, assertion_pieces, atom_pieces, value_pieces}
use Rattle.rf_syntax.specs.Class.{body_pieces, feature_pieces, feature_word_pieces, with_mult_pieces}
use Rattle.rf_syntax.specs.Enum.{enum_body_pieces}
use Rattle.rf_syntax.specs.Name.{kind_of_name, name_pieces, symbol_pieces}
use Rattle.rf_syntax.specs.Parts.{each_after, flagged, in_parens, optional, optional_after, separated, separated_or_none}
use Rattle.rf_syntax.specs.Piece.{Piece, terminal}
use Rattle.rf_syntax.specs.Predicate.{clause_pieces, literal_pieces, param_pieces, start_pieces}
use Rattle.rf_syntax.specs.Range.{mult_pieces, range_pieces, upper_pieces}
use Rattle.rf_syntax.specs.Statement.{bound_pieces, item_pieces, pieces_of, statement_pieces}
use Rattle.rf_syntax.specs.Terminals.{abstract_word, atom_word, bang, bang_equal, class_word, colon, colon_colon, comma, declare_word, default_word, dot, enum_word, equal, equal_equal, extends_word, iff, left_brace, left_paren, multi_word, opposite_word, plus, right_bracket, right_brace, right_paren, scope_word, semicolon}
use Rattle.rf_syntax.specs.declared.assertion.Arg.{Arg}
use Rattle.rf_syntax.specs.declared.assertion.Arg.TheVariants.{Star, Symbol as OfSymbol}
use Rattle.rf_syntax.specs.declared.assertion.AssertionForm.{AssertionForm}
use Rattle.rf_syntax.specs.declared.assertion.AssertionForm.TheVariants.{Maybe, Not, Plain, Valued}
use Rattle.rf_syntax.specs.declared.assertion.AtomForm.{AtomForm}
use Rattle.rf_syntax.specs.declared.class.Feature.{Feature}
use Rattle.rf_syntax.specs.declared.class.MultPlace.{MultPlace}
use Rattle.rf_syntax.specs.declared.class.MultPlace.TheVariants.{Absent as NoMult, AfterType, AfterName}
use Rattle.rf_syntax.specs.declared.name.Name.{Name}
use Rattle.rf_syntax.specs.declared.non_empty.NonEmpty.{NonEmpty}
use Rattle.rf_syntax.specs.declared.predicate.BodyLiteral.{BodyLiteral}
use Rattle.rf_syntax.specs.declared.predicate.BodyLiteral.TheVariants.{Call, Same, Differ}
use Rattle.rf_syntax.specs.declared.predicate.Param.{Param}
use Rattle.rf_syntax.specs.declared.range.Mult.{Mult}
use Rattle.rf_syntax.specs.declared.range.Range.{Range}
use Rattle.rf_syntax.specs.declared.range.Upper.{Upper}
use Rattle.rf_syntax.specs.declared.range.Upper.TheVariants.{Absent, Star as Unbounded, Number}
use Rattle.rf_syntax.specs.declared.statement.Ast.{Ast}
use Rattle.rf_syntax.specs.declared.statement.Bound.{Bound}
use Rattle.rf_syntax.specs.declared.statement.Item.{Item}
use Rattle.rf_syntax.specs.declared.statement.Statement.{Statement}
use Rattle.rf_syntax.specs.declared.statement.Statement.TheVariants.{Assert, Atoms, Class as ClassOf, Declare, Enum, Multi, Predicate as PredicateOf, Scope}
use Rattle.rf_text.specs.Written.{CanBeQuoted}
use Rattle.rf_names.specs.Texts.{reads}
use Rattle.rf_names.specs.Declarations.{ClassDecl, PredicateDecl, ReferenceDecl, argument_names, asserted_atom, atoms_in, atoms_in_clause, bounds_in, classes_in, declared_in, is_atom_argument, items_in, items_of, listed_or_none, mentions_in, object_in, object_name, predicates_in, references_of}
use Rattle.rf_resolve.specs.Readable.{IsReadable, IsReadableDeclared, IsReadableTree, IsSmallMult, IsSmallRange}
use Rattle.rf_build.specs.Resolved.{upper_end}
use Rattle.rf_resolve.proofs.PairFacts.{All-back, All-flat_map, All-flatten, All-prefix, All-unmap}

-- the token of a piece is one of texts
abbrev IsRead : Piece → Type 0
IsRead p = IsReadable p.kind

abbrev AreRead : List Piece → Type 0
AreRead ps = All IsRead ps

prefix : (xs ys : List Piece) → AreRead (xs ++ ys) → AreRead xs
prefix xs ys all = All-prefix IsRead xs ys all

back : (xs ys : List Piece) → AreRead (xs ++ ys) → AreRead ys
back xs ys all = All-back IsRead xs ys all

tail : (x : Piece) (xs : List Piece) → AreRead (x ∷ xs) → AreRead xs
tail x xs all = All-tail IsRead x xs all

module _ {T : Type 0} (pieces : T → List Piece) where
  read_optional : (part : Option T) → AreRead (optional pieces part) → ForSome part (λ p. AreRead (pieces p))
  read_optional None all p e = let never : ⊥ = cc in absurd never
  read_optional (Some q) all p e = let same : q ≡ p = cc in subst (λ r. AreRead (pieces r)) same all

  read_behind : (kind : Kind) (part : Option T) → AreRead (optional_after kind pieces part) →
      ForSome part (λ p. AreRead (pieces p))
  read_behind kind None all p e = let never : ⊥ = cc in absurd never
  read_behind kind (Some q) all p e = let same : q ≡ p = cc in subst (λ r. AreRead (pieces r)) same (tail (terminal kind) (pieces q) all)

  read_each : (kind : Kind) (parts : List T) → AreRead (each_after kind pieces parts) →
      All (λ p. AreRead (pieces p)) parts
  read_each kind parts all = All-weaker (λ p. AreRead (terminal kind ∷ pieces p)) (λ p. AreRead (pieces p))
      (λ p read. tail (terminal kind) (pieces p) read) parts (All-flat_map IsRead (λ part. terminal kind ∷ pieces part) parts all)

  read_separated : (kind : Kind) (parts : _) → AreRead (separated kind pieces parts) →
      All (λ p. AreRead (pieces p)) (items_of parts)
  read_separated kind parts all = All-cons (λ p. AreRead (pieces p)) parts.first parts.rest
      (prefix (pieces parts.first) (each_after kind pieces parts.rest) all)
      (read_each kind parts.rest (back (pieces parts.first) (each_after kind pieces parts.rest) all))

  read_separated_or_none : (kind : Kind) (parts : List T) → AreRead (separated_or_none kind pieces parts) →
      All (λ p. AreRead (pieces p)) parts
  read_separated_or_none kind [] all = All-nil (λ p. AreRead (pieces p))
  read_separated_or_none kind (p ∷ ps) all = All-cons (λ p. AreRead (pieces p)) p ps
      (prefix (pieces p) (each_after kind pieces ps) all) (read_each kind ps (back (pieces p) (each_after kind pieces ps) all))

-- names
read_name : (n : Name) → AreRead (name_pieces n) → CanBeQuoted n.text
read_name n all =
    let first : IsReadable (kind_of_name n) = All-head IsRead record { kind = kind_of_name n; at = Some n.at } [] all in
    elim (cases_Bool n.quoted) [ inl e ↦ (rw e at first) | inr e ↦ (rw e at first) ]

-- ranges and multiplicities
read_upper : (lo : ℕ) (hi : Upper) → lo ≤ GREATEST_NUMBER → AreRead (upper_pieces hi) →
    ForSome (upper_end lo hi) (λ n. n ≤ GREATEST_NUMBER)
read_upper lo Absent l all n e = let same : lo ≡ n = cc in subst (λ m. m ≤ GREATEST_NUMBER) same l
read_upper lo Unbounded l all n e = let never : ⊥ = cc in absurd never
read_upper lo (Number m) l all n e = let same : m ≡ n = cc in subst (λ m. m ≤ GREATEST_NUMBER) same (all 1 (terminal dot) (omega arith))

read_range : (r : Range) → AreRead (range_pieces r) → IsSmallRange r
read_range r all =
    let lo : r.lo ≤ GREATEST_NUMBER = all 0 (terminal dot) (omega arith) in
    record { lower = lo; upper = read_upper r.lo r.hi lo (tail _ (upper_pieces r.hi) all) }

read_small : (r : Option Range) → ForSome r (λ r. AreRead (range_pieces r)) → ForSome r IsSmallRange
read_small r all s e = read_range s (all s e)

read_mult : (m : Mult) → AreRead (mult_pieces m) → ForSome m.range IsSmallRange
read_mult m all = read_small m.range (read_optional range_pieces m.range
    (prefix (optional range_pieces m.range) (terminal right_bracket ∷ []) (tail _ (optional range_pieces m.range ++ terminal right_bracket ∷ []) all)))

-- references
abbrev IsReadFeature : Feature → Type 0
IsReadFeature f = CanBeQuoted f.name.text × IsSmallMult f.mult

read_with_mult : (m : MultPlace) (name : Name) → AreRead (with_mult_pieces m name) →
    CanBeQuoted name.text × IsSmallMult m
read_with_mult NoMult name all = (read_name name all, tt)
read_with_mult (AfterType m) name all =
    (read_name name (back (mult_pieces m) (name_pieces name) all), read_mult m (prefix (mult_pieces m) (name_pieces name) all))
read_with_mult (AfterName m) name all =
    (read_name name (prefix (name_pieces name) (mult_pieces m) all), read_mult m (back (name_pieces name) (mult_pieces m) all))

read_feature : (f : Feature) → AreRead (feature_pieces f) → IsReadFeature f
read_feature f all =
    let word : List Piece = optional feature_word_pieces f.word in
    let named : List Piece = with_mult_pieces f.mult f.name in
    let opposite : List Piece = optional_after opposite_word name_pieces f.opposite in
    read_with_mult f.mult f.name (back (word ++ name_pieces f.target) named
    (prefix (word ++ name_pieces f.target ++ named) opposite
    (prefix (word ++ name_pieces f.target ++ named ++ opposite) (flagged f.semicolon semicolon) all)))

read_body : (body : Option (List Feature)) → AreRead (body_pieces body) → All IsReadFeature (listed_or_none body)
read_body None all = All-nil IsReadFeature
read_body (Some features) all = All-weaker (λ f. AreRead (feature_pieces f)) IsReadFeature read_feature features
    (All-flat_map IsRead feature_pieces features
    (prefix (flat_map feature_pieces features) (terminal right_brace ∷ []) (tail _ (flat_map feature_pieces features ++ terminal right_brace ∷ []) all)))

-- classes
abbrev IsReadClass : ClassDecl → Type 0
IsReadClass c = CanBeQuoted c.name.text × All IsReadFeature c.features

read_class : (s : Statement) → AreRead (statement_pieces s) → All IsReadClass (classes_in s)
read_class (ClassOf is_abstract name supers body) all =
    let start : List Piece = flagged is_abstract abstract_word in
    let named : List Piece = terminal class_word ∷ name_pieces name in
    let above : List Piece = optional_after extends_word (separated comma name_pieces) supers in
    let fore = prefix (start ++ named ++ above) (body_pieces body) all in
    All-cons IsReadClass _ [] (
      read_name name (tail (terminal class_word) (name_pieces name) (back start named (prefix (start ++ named) above fore))),
      read_body body (back (start ++ named ++ above) (body_pieces body) all),
    )
    (All-nil IsReadClass)
read_class (Enum name literals) all =
    let start : List Piece = terminal enum_word ∷ name_pieces name in
    All-cons IsReadClass _ []
    (read_name name (tail (terminal enum_word) (name_pieces name) (prefix start (enum_body_pieces literals) all)), All-nil IsReadFeature)
    (All-nil IsReadClass)
read_class (PredicateOf start name params clauses) all = All-nil IsReadClass
read_class (Declare names) all = All-nil IsReadClass
read_class (Multi items) all = All-nil IsReadClass
read_class (Atoms names) all = All-nil IsReadClass
read_class (Scope bounds) all = All-nil IsReadClass
read_class (Assert is_default assertion) all = All-nil IsReadClass

-- predicates
abbrev IsReadPredicate : PredicateDecl → Type 0
IsReadPredicate p = CanBeQuoted p.name.text

read_predicate : (s : Statement) → AreRead (statement_pieces s) → All IsReadPredicate (predicates_in s)
read_predicate (PredicateOf start name params clauses) all =
    let parens : List Piece = in_parens (separated_or_none comma param_pieces params) in
    let whole : List Piece = terminal iff ∷ separated semicolon clause_pieces clauses in
    All-cons IsReadPredicate _ []
    (read_name name (back (start_pieces start) (name_pieces name)
    (prefix (start_pieces start ++ name_pieces name) parens
    (prefix (start_pieces start ++ name_pieces name ++ parens) whole
    (prefix (start_pieces start ++ name_pieces name ++ parens ++ whole) (terminal dot ∷ []) all)))))
    (All-nil IsReadPredicate)
read_predicate (ClassOf is_abstract name supers body) all = All-nil IsReadPredicate
read_predicate (Enum name literals) all = All-nil IsReadPredicate
read_predicate (Declare names) all = All-nil IsReadPredicate
read_predicate (Multi items) all = All-nil IsReadPredicate
read_predicate (Atoms names) all = All-nil IsReadPredicate
read_predicate (Scope bounds) all = All-nil IsReadPredicate
read_predicate (Assert is_default assertion) all = All-nil IsReadPredicate

-- items of `multi`
abbrev IsReadItem : Item → Type 0
IsReadItem i = CanBeQuoted i.name.text × ForSome i.range IsSmallRange

read_item : (i : Item) → AreRead (item_pieces i) → IsReadItem i
read_item i all = (
  read_name i.name (prefix (name_pieces i.name) (optional_after equal range_pieces i.range) all),
  read_small i.range (read_behind range_pieces equal i.range (back (name_pieces i.name) (optional_after equal range_pieces i.range) all)),
)

read_list : {T : Type 0} (pieces : T → List Piece) (word : Kind) (parts : _) →
    AreRead (terminal word ∷ separated comma pieces parts ++ terminal dot ∷ []) → All (λ p. AreRead (pieces p)) (items_of parts)
read_list pieces word parts all = read_separated pieces comma parts
    (prefix (separated comma pieces parts) (terminal dot ∷ []) (tail (terminal word) (separated comma pieces parts ++ terminal dot ∷ []) all))

read_items : (s : Statement) → AreRead (statement_pieces s) → All IsReadItem (items_in s)
read_items (Multi items) all = All-weaker (λ i. AreRead (item_pieces i)) IsReadItem read_item (items_of items) (read_list item_pieces multi_word items all)
read_items (ClassOf is_abstract name supers body) all = All-nil IsReadItem
read_items (Enum name literals) all = All-nil IsReadItem
read_items (PredicateOf start name params clauses) all = All-nil IsReadItem
read_items (Declare names) all = All-nil IsReadItem
read_items (Atoms names) all = All-nil IsReadItem
read_items (Scope bounds) all = All-nil IsReadItem
read_items (Assert is_default assertion) all = All-nil IsReadItem

-- bounds of `scope`
abbrev IsReadBound : Bound → Type 0
IsReadBound b = IsSmallRange b.range

read_bound : (b : Bound) → AreRead (bound_pieces b) → IsReadBound b
read_bound b all = read_range b.range (tail _ (range_pieces b.range) (back (name_pieces b.name) (_ ∷ range_pieces b.range) all))

read_bounds : (s : Statement) → AreRead (statement_pieces s) → All IsReadBound (bounds_in s)
read_bounds (Scope bounds) all = All-weaker (λ b. AreRead (bound_pieces b)) IsReadBound read_bound (items_of bounds) (read_list bound_pieces scope_word bounds all)
read_bounds (ClassOf is_abstract name supers body) all = All-nil IsReadBound
read_bounds (Enum name literals) all = All-nil IsReadBound
read_bounds (PredicateOf start name params clauses) all = All-nil IsReadBound
read_bounds (Declare names) all = All-nil IsReadBound
read_bounds (Multi items) all = All-nil IsReadBound
read_bounds (Atoms names) all = All-nil IsReadBound
read_bounds (Assert is_default assertion) all = All-nil IsReadBound

-- named objects
abbrev IsReadName : Name → Type 0
IsReadName n = CanBeQuoted n.text

read_member : (name member : Name) → AreRead (name_pieces name ++ terminal colon_colon ∷ name_pieces member) → IsReadName member
read_member name member all =
    read_name member (tail (terminal colon_colon) (name_pieces member) (back (name_pieces name) (terminal colon_colon ∷ name_pieces member) all))

read_object : (name : Name) (member : Option Name) →
    AreRead (name_pieces name ++ optional_after colon_colon name_pieces member) →
    All IsReadName (option_to_list (object_name name member))
read_object name None all = All-cons IsReadName name [] (read_name name (prefix (name_pieces name) [] all)) (All-nil IsReadName)
read_object name (Some member) all = elim (cases_Bool (reads (codes "new") member)) [
  | inl e ↦ rw e (All-nil IsReadName)
  | inr e ↦ rw e (All-cons IsReadName member [] (read_member name member all) (All-nil IsReadName))
]

read_arg : (arg : Arg) → AreRead (arg_pieces arg) → All IsReadName (object_in arg)
read_arg Star all = All-nil IsReadName
read_arg (OfSymbol s) all = read_object s.name s.member all

read_args : (a : AtomForm) → AreRead (atom_pieces a) → All (λ arg. All IsReadName (object_in arg)) a.args
read_args a all =
    let inner : List Piece = separated_or_none comma arg_pieces a.args in
    All-weaker (λ arg. AreRead (arg_pieces arg)) (λ arg. All IsReadName (object_in arg)) read_arg a.args
    (read_separated_or_none arg_pieces comma a.args
    (prefix inner (terminal right_paren ∷ []) (tail (terminal left_paren) (inner ++ terminal right_paren ∷ []) (back (symbol_pieces a.symbol) (in_parens inner) all))))

read_asserted : (a : AssertionForm) → AreRead (assertion_pieces a) → AreRead (atom_pieces (asserted_atom a))
read_asserted (Plain atom) all = all
read_asserted (Not atom) all = tail _ (atom_pieces atom) all
read_asserted (Maybe atom) all = tail _ (atom_pieces atom) all
read_asserted (Valued atom value) all = prefix (atom_pieces atom) (terminal colon ∷ value_pieces value) all

-- arguments of bodies
read_sides : (word : Kind) (a b : Name) → AreRead (name_pieces a ++ terminal word ∷ name_pieces b) → All IsReadName (a ∷ b ∷ [])
read_sides word a b all = All-cons IsReadName a (b ∷ []) (read_name a (prefix (name_pieces a) (terminal word ∷ name_pieces b) all))
    (All-cons IsReadName b [] (read_name b (tail (terminal word) (name_pieces b) (back (name_pieces a) (terminal word ∷ name_pieces b) all)))
    (All-nil IsReadName))

read_literal : (l : BodyLiteral) → AreRead (literal_pieces l) → All IsReadName (argument_names l)
read_literal (Call negated symbol closure args) all =
    let inner : List Piece = separated_or_none comma name_pieces args in
    let called : List Piece = flagged negated bang ++ symbol_pieces symbol ++ flagged closure plus in
    All-weaker (λ n. AreRead (name_pieces n)) IsReadName read_name args
    (read_separated_or_none name_pieces comma args
    (prefix inner (terminal right_paren ∷ []) (tail (terminal left_paren) (inner ++ terminal right_paren ∷ []) (back called (in_parens inner) all))))
read_literal (Same a b) all = read_sides equal_equal a b all
read_literal (Differ a b) all = read_sides bang_equal a b all

read_clause : (atoms : List Name) (params : List Param) (clause : NonEmpty BodyLiteral) → AreRead (clause_pieces clause) →
    All IsReadName (atoms_in_clause atoms params (items_of clause))
read_clause atoms params clause all = All-filter (is_atom_argument atoms params) IsReadName (flat_map argument_names (items_of clause))
    (All-flatten IsReadName argument_names (items_of clause)
    (All-weaker (λ l. AreRead (literal_pieces l)) (λ l. All IsReadName (argument_names l)) read_literal (items_of clause)
    (read_separated literal_pieces comma clause all)))

-- literals of enums
read_literals : (literals : Option (List Name)) → AreRead (enum_body_pieces literals) → All IsReadName (listed_or_none literals)
read_literals None all = All-nil IsReadName
read_literals (Some literals) all =
    let inner : List Piece = separated_or_none comma name_pieces literals in
    All-weaker (λ n. AreRead (name_pieces n)) IsReadName read_name literals
    (read_separated_or_none name_pieces comma literals
    (prefix inner (terminal right_brace ∷ []) (tail (terminal left_brace) (inner ++ terminal right_brace ∷ []) all)))

read_names : (word : Kind) (names : NonEmpty Name) → AreRead (terminal word ∷ separated comma name_pieces names ++ terminal dot ∷ []) →
    All IsReadName (items_of names)
read_names word names all = All-weaker (λ n. AreRead (name_pieces n)) IsReadName read_name (items_of names) (read_list name_pieces word names all)

read_mentions : (atoms : List Name) (s : Statement) → AreRead (statement_pieces s) → All IsReadName (mentions_in atoms s)
read_mentions atoms (Enum name literals) all =
    read_literals literals (back (terminal enum_word ∷ name_pieces name) (enum_body_pieces literals) all)
read_mentions atoms (PredicateOf start name params clauses) all =
    let head : List Piece = start_pieces start ++ name_pieces name ++ in_parens (separated_or_none comma param_pieces params) in
    let bodies : List Piece = separated semicolon clause_pieces clauses in
    All-flatten IsReadName (λ clause. atoms_in_clause atoms params (items_of clause)) (items_of clauses)
    (All-weaker (λ c. AreRead (clause_pieces c)) (λ c. All IsReadName (atoms_in_clause atoms params (items_of c))) (read_clause atoms params)
    (items_of clauses)
    (read_separated clause_pieces semicolon clauses
    (tail (terminal iff) bodies (back head (terminal iff ∷ bodies) (prefix (head ++ terminal iff ∷ bodies) (terminal dot ∷ []) all)))))
read_mentions atoms (Declare names) all = read_names declare_word names all
read_mentions atoms (Multi items) all = All-map IsReadName (λ i. i.name) (items_of items)
    (All-weaker IsReadItem (λ i. IsReadName i.name) (λ i is. is.0) (items_of items) (read_items (Multi items) all))
read_mentions atoms (Atoms names) all = read_names atom_word names all
read_mentions atoms (Assert is_default assertion) all =
    let start : List Piece = flagged is_default default_word in
    let atom : AtomForm = asserted_atom assertion in
    All-flatten IsReadName object_in atom.args (read_args atom (read_asserted assertion
    (back start (assertion_pieces assertion) (prefix (start ++ assertion_pieces assertion) (terminal dot ∷ []) all))))
read_mentions atoms (ClassOf is_abstract name supers body) all = All-nil IsReadName
read_mentions atoms (Scope bounds) all = All-nil IsReadName

-- references of classes
read_references : (n : ℕ) (cs : List ClassDecl) → All IsReadClass cs →
    All (λ r. IsReadFeature r.feature) (references_of n cs)
read_references n [] all = All-nil (λ (r : ReferenceDecl). IsReadFeature r.feature)
read_references n (c ∷ cs) all = All-append (λ (r : ReferenceDecl). IsReadFeature r.feature)
    (map (λ f. record { source = n; feature = f }) c.features) (references_of (suc n) cs)
    (All-map (λ (r : ReferenceDecl). IsReadFeature r.feature) (λ f. record { source = n; feature = f }) c.features (All-head IsReadClass c cs all).1)
    (read_references (suc n) cs (All-tail IsReadClass c cs all))

-- what is in the statements
read_all : {T : Type 0} (R : T → Type 0) (part : Statement → List T) →
    ((s : Statement) → AreRead (statement_pieces s) → All R (part s)) →
    (ss : List Statement) → All (λ s. AreRead (statement_pieces s)) ss → All R (flat_map part ss)
read_all R part h ss all = All-flatten R part ss (All-weaker (λ s. AreRead (statement_pieces s)) (λ s. All R (part s)) h ss all)

pub readable_declared : (ast : Ast) → IsReadableTree ast → IsReadableDeclared (declared_in ast)
readable_declared ast read =
    let ss : List Statement = ast.statements in
    let all = All-flat_map IsRead statement_pieces ss (All-unmap IsReadable (λ (p : Piece). p.kind) (pieces_of ast) read) in
    let classes = read_all IsReadClass classes_in read_class ss all in
    let references = read_references 0 (flat_map classes_in ss) classes in
    record {
      classes = All-weaker IsReadClass (λ c. CanBeQuoted c.name.text) (λ c is. is.0) (flat_map classes_in ss) classes;
      references = All-weaker (λ (r : ReferenceDecl). IsReadFeature r.feature) (λ r. CanBeQuoted r.feature.name.text) (λ r is. is.0) (references_of 0 (flat_map classes_in ss)) references;
      predicates = read_all IsReadPredicate predicates_in read_predicate ss all;
      mentions = read_all IsReadName (mentions_in (flat_map atoms_in ss)) (read_mentions (flat_map atoms_in ss)) ss all;
      mults = All-weaker (λ (r : ReferenceDecl). IsReadFeature r.feature) (λ r. IsSmallMult r.feature.mult) (λ r is. is.1) (references_of 0 (flat_map classes_in ss)) references;
      items = All-weaker IsReadItem (λ i. ForSome i.range IsSmallRange) (λ i is. is.1) (flat_map items_in ss) (read_all IsReadItem items_in read_items ss all);
      bounds = read_all IsReadBound bounds_in read_bounds ss all;
    }
