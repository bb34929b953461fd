-- What is parsed of classes.
use Rattle.std.proofs.Common.{◌≡◌, ◌⊎◌, ℕ, Bool, true, false, List, [], ◌∷◌, ◌++◌, Option, None, Some, inl, inr, refl, sym, ◌∙◌, subst, append_assoc}
use Rattle.std.specs.List.{flat_map}
use Rattle.rf_lexer.specs.declared.keyword.Keyword.TheVariants.{Contains as ContainsWord, Container as ContainerWord, Refers as RefersWord, Opposite}
use Rattle.rf_lexer.specs.declared.mark.Mark.TheVariants.{LeftBracket, RightBrace, Semicolon}
use Rattle.rf_lexer.specs.declared.token.Kind.{Kind}
use Rattle.rf_lexer.specs.declared.token.Token.{Token}
use Rattle.rf_syntax.specs.declared.class.Feature.{Feature}
use Rattle.rf_syntax.specs.declared.class.FeatureWord.{FeatureWord}
use Rattle.rf_syntax.specs.declared.class.FeatureWord.TheVariants.{Contains, Container, Refers}
use Rattle.rf_syntax.specs.declared.class.MultPlace.{MultPlace}
use Rattle.rf_syntax.specs.declared.class.MultPlace.TheVariants.{Absent, AfterType, AfterName}
use Rattle.rf_syntax.specs.declared.non_empty.NonEmpty.{NonEmpty}
use Rattle.rf_syntax.specs.declared.name.Name.{Name}
use Rattle.rf_syntax.specs.declared.range.Mult.{Mult}
use Rattle.rf_syntax.specs.declared.statement.Statement.{Statement}
use Rattle.rf_syntax.specs.declared.statement.Statement.TheVariants.{Class, Enum, Predicate, Declare, Multi, Atoms, Scope, Assert}
use Rattle.rf_syntax.specs.Class.{body_pieces, feature_pieces, feature_word_pieces}
use Rattle.rf_syntax.specs.Name.{kind_of_name, name_pieces}
use Rattle.rf_syntax.specs.Parts.{flagged, optional, optional_after, separated}
use Rattle.rf_syntax.specs.Piece.{Piece, kinds_of, terminal}
use Rattle.rf_syntax.specs.Range.{mult_pieces}
use Rattle.rf_syntax.specs.Statement.{statement_pieces}
use Rattle.rf_syntax.specs.Terminals.{abstract_word, class_word, comma, container_word, contains_word, extends_word, left_bracket, opposite_word, refers_word, right_brace, semicolon}
use Rattle.rf_parser.specs.Fit.{token_kinds}
use Rattle.rf_parser.specs.Private.Parts.{BeginsClass, BeginsPredicate, features_to_brace, mult_and_name, single}
use Rattle.rf_parser.specs.Private.Parsing.{Halts, Parses, IsStuck, StartsWith, either, first_kind, never}
use Rattle.rf_parser.proofs.Beginnings.{begun}
use Rattle.rf_parser.proofs.Prefixes.{halts_fewer, halts_never, halts_not, kinds_then}
use Rattle.rf_parser.proofs.NameParts.{name_no_mark, name_no_word}
use Rattle.rf_parser.proofs.Singles.{starts_first, starts_parsed}
use Rattle.rf_parser.proofs.Wholes.{Apart, Begins, IsCase, pair, parsed_as, parsed_less, parsed_nothing, parsed_then, stuck_as, stuck_first, stuck_then}

-- the word before a feature
abbrev pub word_longer : Kind → Type 0
word_longer = either contains_word (either container_word (either refers_word never))

pub contains_case : (next : Option Kind) → next ≡ Some contains_word → IsCase (single contains_word) never (optional feature_word_pieces) word_longer next (λ u. Some Contains)
contains_case next e = record { same = λ u. refl; ends = λ more h. halts_never more; cases = cases } where
  cases : (o : Option FeatureWord) → ((u : Unit {0}) × (Some Contains ≡ o)) ⊎ Begins (optional feature_word_pieces) word_longer next o
  cases None = inr (λ more h f. halts_not word_longer contains_word more h (inl refl) (f ∙ e))
  cases (Some Contains) = inl (tt, refl)
  cases (Some Container) = inr (λ more h f. let both : Some container_word ≡ Some contains_word = f ∙ e in cc)
  cases (Some Refers) = inr (λ more h f. let both : Some refers_word ≡ Some contains_word = f ∙ e in cc)

pub container_case : (next : Option Kind) → next ≡ Some container_word → IsCase (single container_word) never (optional feature_word_pieces) word_longer next (λ u. Some Container)
container_case next e = record { same = λ u. refl; ends = λ more h. halts_never more; cases = cases } where
  cases : (o : Option FeatureWord) → ((u : Unit {0}) × (Some Container ≡ o)) ⊎ Begins (optional feature_word_pieces) word_longer next o
  cases None = inr (λ more h f. halts_not word_longer container_word more h (inr (inl refl)) (f ∙ e))
  cases (Some Contains) = inr (λ more h f. let both : Some contains_word ≡ Some container_word = f ∙ e in cc)
  cases (Some Container) = inl (tt, refl)
  cases (Some Refers) = inr (λ more h f. let both : Some refers_word ≡ Some container_word = f ∙ e in cc)

pub refers_case : (next : Option Kind) → next ≡ Some refers_word → IsCase (single refers_word) never (optional feature_word_pieces) word_longer next (λ u. Some Refers)
refers_case next e = record { same = λ u. refl; ends = λ more h. halts_never more; cases = cases } where
  cases : (o : Option FeatureWord) → ((u : Unit {0}) × (Some Refers ≡ o)) ⊎ Begins (optional feature_word_pieces) word_longer next o
  cases None = inr (λ more h f. halts_not word_longer refers_word more h (inr (inr (inl refl))) (f ∙ e))
  cases (Some Contains) = inr (λ more h f. let both : Some contains_word ≡ Some refers_word = f ∙ e in cc)
  cases (Some Container) = inr (λ more h f. let both : Some container_word ≡ Some refers_word = f ∙ e in cc)
  cases (Some Refers) = inl (tt, refl)

pub no_word : {ts : List Token} → (first_kind (token_kinds ts) ≡ Some contains_word → ⊥) → (first_kind (token_kinds ts) ≡ Some container_word → ⊥)
    → (first_kind (token_kinds ts) ≡ Some refers_word → ⊥) → Parses (optional feature_word_pieces) word_longer ts None ts
no_word {ts} a b c = parsed_nothing None refl cases where
  cases : (o : Option FeatureWord) → (o ≡ None) ⊎ Begins (optional feature_word_pieces) word_longer (first_kind (token_kinds ts)) o
  cases None = inl refl
  cases (Some Contains) = inr (λ more h e. a (sym e))
  cases (Some Container) = inr (λ more h e. b (sym e))
  cases (Some Refers) = inr (λ more h e. c (sym e))

-- a name with its multiplicity
pub mult_first_case : (next : Option Kind) → next ≡ Some left_bracket → IsCase (pair mult_pieces name_pieces) never mult_and_name (either left_bracket never) next (λ p. (AfterType p.0, p.1))
mult_first_case next e = record { same = λ p. refl; ends = λ more h. halts_never more; cases = λ t. cases t.0 t.1 } where
  cases : (place : MultPlace) (n : Name) → ((p : Mult × Name) × (◌≡◌ {A = MultPlace × Name} (AfterType p.0, p.1) (place, n))) ⊎ Begins mult_and_name (either left_bracket never) next (place, n)
  cases Absent n = inr (λ more h f. name_no_mark n LeftBracket (let both = f ∙ e in cc))
  cases (AfterType mult) n = inl ((mult, n), refl)
  cases (AfterName mult) n = inr (λ more h f. name_no_mark n LeftBracket (let both = f ∙ e in cc))

abbrev pub with_mult_of : Name → Option Mult → MultPlace × Name
with_mult_of n None = (Absent, n)
with_mult_of n (Some mult) = (AfterName mult, n)

pub name_first_case : (next : Option Kind) → (next ≡ Some left_bracket → ⊥)
    → IsCase (pair name_pieces (optional mult_pieces)) (either left_bracket never) mult_and_name (either left_bracket never) next (λ p. with_mult_of p.0 p.1)
name_first_case next none = record { same = λ p. same p.0 p.1; ends = λ more h. h; cases = λ t. cases t.0 t.1 } where
  same : (n : Name) (mult : Option Mult) → mult_and_name (with_mult_of n mult) ≡ name_pieces n ++ optional mult_pieces mult
  same n None = refl
  same n (Some mult) = refl

  cases : (place : MultPlace) (n : Name) → ((p : Name × Option Mult) × (◌≡◌ {A = MultPlace × Name} (with_mult_of p.0 p.1) (place, n))) ⊎ Begins mult_and_name (either left_bracket never) next (place, n)
  cases Absent n = inl ((n, None), refl)
  cases (AfterType mult) n = inr (λ more h e. none (sym e))
  cases (AfterName mult) n = inl ((n, Some mult), refl)

some_mult_case : (next : Option Kind) → next ≡ Some left_bracket → IsCase mult_pieces never (optional mult_pieces) (either left_bracket never) next (λ m. Some m)
some_mult_case next e = record { same = λ m. refl; ends = λ more h. halts_never more; cases = cases } where
  cases : (o : Option Mult) → ((m : Mult) × (Some m ≡ o)) ⊎ Begins (optional mult_pieces) (either left_bracket never) next o
  cases None = inr (λ more h f. halts_not (either left_bracket never) left_bracket more h (inl refl) (f ∙ e))
  cases (Some m) = inl (m, refl)

pub some_mult : {ts rest : List Token} {mult : Mult} → first_kind (token_kinds ts) ≡ Some left_bracket → Parses mult_pieces never ts mult rest → Parses (optional mult_pieces) (either left_bracket never) ts (Some mult) rest
some_mult e h = parsed_as (some_mult_case _ e) h

pub some_mult_stuck : {ts : List Token} {left : ℕ} → first_kind (token_kinds ts) ≡ Some left_bracket → IsStuck mult_pieces never ts left → IsStuck (optional mult_pieces) (either left_bracket never) ts left
some_mult_stuck e h = stuck_as (some_mult_case _ e) h

pub no_mult : {ts : List Token} → (first_kind (token_kinds ts) ≡ Some left_bracket → ⊥) → Parses (optional mult_pieces) (either left_bracket never) ts None ts
no_mult {ts} none = parsed_nothing None refl cases where
  cases : (o : Option Mult) → (o ≡ None) ⊎ Begins (optional mult_pieces) (either left_bracket never) (first_kind (token_kinds ts)) o
  cases None = inl refl
  cases (Some m) = inr (λ more h e. none (sym e))

-- features
abbrev pub feature_longer : Kind → Type 0
feature_longer = either left_bracket (either opposite_word (either semicolon never))

abbrev pub ends_with : Bool → List Piece
ends_with b = flagged b semicolon

abbrev pub feature_end : Option Name × Bool → List Piece
feature_end p = pair (optional_after opposite_word name_pieces) ends_with p

abbrev pub feature_rest : (MultPlace × Name) × (Option Name × Bool) → List Piece
feature_rest p = pair mult_and_name feature_end p

abbrev pub feature_named : Name × ((MultPlace × Name) × (Option Name × Bool)) → List Piece
feature_named p = pair name_pieces feature_rest p

joined_parts : (a b c d e : List Piece) → (((a ++ b) ++ c) ++ d) ++ e ≡ a ++ (b ++ (c ++ (d ++ e)))
joined_parts a b c d e = simp append_assoc

pub feature_case : (next : Option Kind)
    → IsCase (pair (optional feature_word_pieces) feature_named) feature_longer feature_pieces feature_longer next
    (λ p. record { word = p.0; target = p.1.0; name = p.1.1.0.1; mult = p.1.1.0.0; opposite = p.1.1.1.0; semicolon = p.1.1.1.1 })
feature_case next = record {
  same = λ p. joined_parts (optional feature_word_pieces p.0) (name_pieces p.1.0) (mult_and_name p.1.1.0) (optional_after opposite_word name_pieces p.1.1.1.0) (flagged p.1.1.1.1 semicolon);
  ends = λ more h. h;
  cases = λ f. inl ((f.word, (f.target, ((f.mult, f.name), (f.opposite, f.semicolon)))), refl);
}

pub word_apart : Apart word_longer feature_named feature_longer
word_apart b more h = λ e. elim e [
  | inl same ↦ name_no_word b.0 ContainsWord same
  | inr other ↦ elim other [ inl same ↦ name_no_word b.0 ContainerWord same | inr others ↦ elim others [ inl same ↦ name_no_word b.0 RefersWord same | inr none ↦ none ] ]
]

pub mult_apart : Apart (either left_bracket never) feature_end feature_longer
mult_apart b more h = apart b.0 b.1 where
  first : (k : Kind) → either left_bracket never k → feature_longer k
  first k e = elim e [ inl same ↦ inl same | inr none ↦ absurd none ]

  apart : (opposite : Option Name) (b : Bool) → Halts (either left_bracket never) (kinds_of (feature_end (opposite, b)) ++ more)
  apart None true = λ e. elim e [ inl same ↦ cc | inr none ↦ none ]
  apart None false = halts_fewer (either left_bracket never) feature_longer more first h
  apart (Some n) b = λ e. elim e [ inl same ↦ cc | inr none ↦ none ]

pub opposite_apart : Apart (either opposite_word never) ends_with feature_longer
opposite_apart b more h = apart b where
  second : (k : Kind) → either opposite_word never k → feature_longer k
  second k e = elim e [ inl same ↦ inr (inl same) | inr none ↦ absurd none ]

  apart : (b : Bool) → Halts (either opposite_word never) (kinds_of (ends_with b) ++ more)
  apart true = λ e. elim e [ inl same ↦ cc | inr none ↦ none ]
  apart false = halts_fewer (either opposite_word never) feature_longer more second h

third : (k : Kind) → either semicolon never k → feature_longer k
third k e = elim e [ inl same ↦ inr (inr (inl same)) | inr none ↦ absurd none ]

pub semicolon_parsed : {ts rest : List Token} {b : Bool} → Parses (λ b. flagged b semicolon) (either semicolon never) ts b rest → Parses ends_with feature_longer ts b rest
semicolon_parsed h = parsed_less (λ more k. halts_fewer (either semicolon never) feature_longer more third k) h

-- features up to the brace
feature_first : (f : Feature) (more : List Kind) → Halts feature_longer (kinds_of (feature_pieces f) ++ more)
feature_first f more = first f.word f.target f.name f.mult f.opposite f.semicolon where
  named : (n : Name) → feature_longer (kind_of_name n) → ⊥
  named n e = elim e [
    | inl same ↦ name_no_mark n LeftBracket same
    | inr other ↦ elim other [ inl same ↦ name_no_word n Opposite same | inr others ↦ elim others [ inl same ↦ name_no_mark n Semicolon same | inr none ↦ none ] ]
  ]

  word : (k : Kind) → (k ≡ left_bracket → ⊥) → (k ≡ opposite_word → ⊥) → (k ≡ semicolon → ⊥) → feature_longer k → ⊥
  word k a b c e = elim e [ inl same ↦ a same | inr other ↦ elim other [ inl same ↦ b same | inr others ↦ elim others [ inl same ↦ c same | inr none ↦ none ] ] ]

  first : (w : Option FeatureWord) (target name : Name) (mult : MultPlace) (opposite : Option Name) (b : Bool)
      → Halts feature_longer (kinds_of (feature_pieces (record { word = w; target = target; name = name; mult = mult; opposite = opposite; semicolon = b })) ++ more)
  first None target name mult opposite b = named target
  first (Some Contains) target name mult opposite b = word contains_word (λ x. cc) (λ x. cc) (λ x. cc)
  first (Some Container) target name mult opposite b = word container_word (λ x. cc) (λ x. cc) (λ x. cc)
  first (Some Refers) target name mult opposite b = word refers_word (λ x. cc) (λ x. cc) (λ x. cc)

features_apart : Apart feature_longer features_to_brace never
features_apart [] more h = λ e. elim e [ inl same ↦ cc | inr other ↦ elim other [ inl same ↦ cc | inr others ↦ elim others [ inl same ↦ cc | inr none ↦ none ] ] ]
features_apart (f ∷ fs) more h =
    let rest = flat_map feature_pieces fs in
    let whole = kinds_then (feature_pieces f ++ rest) (terminal right_brace ∷ []) more ∙ kinds_then (feature_pieces f) rest (right_brace ∷ more) in
    subst (λ ks. Halts feature_longer ks) (sym whole) (feature_first f (kinds_of rest ++ right_brace ∷ more))

more_features : (next : Option Kind) → (next ≡ Some right_brace → ⊥) → IsCase (pair feature_pieces features_to_brace) never features_to_brace never next (λ p. p.0 ∷ p.1)
more_features next none = record { same = λ p. append_assoc (feature_pieces p.0) (flat_map feature_pieces p.1) (terminal right_brace ∷ []); ends = λ more h. h; cases = cases } where
  cases : (fs : List Feature) → ((p : Feature × List Feature) × (p.0 ∷ p.1 ≡ fs)) ⊎ Begins features_to_brace never next fs
  cases [] = inr (λ more h e. none (sym e))
  cases (f ∷ fs) = inl ((f, fs), refl)

pub feature_more : {ts next : List Token} {f : Feature} → (first_kind (token_kinds ts) ≡ Some right_brace → ⊥) → Parses feature_pieces feature_longer ts f next
    → (fs : List Feature) (after : List Token) → Parses features_to_brace never next fs after → Parses features_to_brace never ts (f ∷ fs) after
feature_more none h fs after k = parsed_as (more_features _ none) (parsed_then features_apart h k)

pub feature_more_stuck : {ts next : List Token} {f : Feature} → (first_kind (token_kinds ts) ≡ Some right_brace → ⊥) → Parses feature_pieces feature_longer ts f next
    → (left : ℕ) → IsStuck features_to_brace never next left → IsStuck features_to_brace never ts left
feature_more_stuck none h left k = stuck_as (more_features _ none) (stuck_then features_apart h k)

pub feature_stuck : {ts : List Token} {left : ℕ} → (first_kind (token_kinds ts) ≡ Some right_brace → ⊥) → IsStuck feature_pieces feature_longer ts left → IsStuck features_to_brace never ts left
feature_stuck none h = stuck_as (more_features _ none) (stuck_first features_to_brace [] features_apart h)

-- a feature doesn't begin with a closing brace
begun_feature : (f : Feature) (fs : List Feature) (more : List Kind) → first_kind (kinds_of (features_to_brace (f ∷ fs)) ++ more) ≡ Some right_brace → ⊥
begun_feature f fs more e = begins f.word f.target f.name f.mult f.opposite f.semicolon e where
  begins : (w : Option FeatureWord) (target name : Name) (mult : MultPlace) (opposite : Option Name) (b : Bool)
      → first_kind (kinds_of (features_to_brace (record { word = w; target = target; name = name; mult = mult; opposite = opposite; semicolon = b } ∷ fs)) ++ more) ≡ Some right_brace → ⊥
  begins None target name mult opposite b e = name_no_mark target RightBrace (let both = e in cc)
  begins (Some Contains) target name mult opposite b e = let both : Some contains_word ≡ Some right_brace = e in cc
  begins (Some Container) target name mult opposite b e = let both : Some container_word ≡ Some right_brace = e in cc
  begins (Some Refers) target name mult opposite b e = let both : Some refers_word ≡ Some right_brace = e in cc

no_features : (next : Option Kind) → next ≡ Some right_brace → IsCase (single right_brace) never features_to_brace never next (λ u. [])
no_features next e = record { same = λ u. refl; ends = λ more h. h; cases = cases } where
  cases : (fs : List Feature) → ((u : Unit {0}) × ([] ≡ fs)) ⊎ Begins features_to_brace never next fs
  cases [] = inl (tt, refl)
  cases (f ∷ fs) = inr (λ more h g. begun_feature f fs more (g ∙ e))

pub features_end : {ts rest : List Token} → StartsWith ts right_brace rest → Parses features_to_brace never ts [] rest
features_end s = parsed_as (no_features _ (starts_first s)) (starts_parsed s)

-- classes
abbrev pub class_flag : Bool → List Piece
class_flag b = flagged b abstract_word

abbrev pub class_supers : Option (NonEmpty Name) → List Piece
class_supers supers = optional_after extends_word (separated comma name_pieces) supers

abbrev pub class_end : Option (NonEmpty Name) × Option (List Feature) → List Piece
class_end p = pair class_supers body_pieces p

abbrev pub class_named : Name × (Option (NonEmpty Name) × Option (List Feature)) → List Piece
class_named p = pair name_pieces class_end p

abbrev pub class_rest : Unit {0} × (Name × (Option (NonEmpty Name) × Option (List Feature))) → List Piece
class_rest p = pair (single class_word) class_named p

four_parts : (a b c d : List Piece) → ((a ++ b) ++ c) ++ d ≡ a ++ (b ++ (c ++ d))
four_parts a b c d = simp append_assoc

pub class_case : (next : Option Kind) → BeginsClass next → IsCase (pair (λ (b : Bool). flagged b abstract_word) class_rest) never statement_pieces never next (λ p. Class p.0 p.1.1.0 p.1.1.1.0 p.1.1.1.1)
class_case next begins = record {
  same = λ p. four_parts (flagged p.0 abstract_word) (terminal class_word ∷ name_pieces p.1.1.0) (class_supers p.1.1.1.0) (body_pieces p.1.1.1.1);
  ends = λ more h. h;
  cases = cases;
} where
  not_both : (k : Kind) → (k ≡ abstract_word → ⊥) → (k ≡ class_word → ⊥) → Some k ≡ next → ⊥
  not_both k a b e = elim begins [ inl x ↦ a (let both = e ∙ x in cc) | inr x ↦ b (let both = e ∙ x in cc) ]

  predicate : BeginsPredicate next → ⊥
  predicate h = elim h [ inl x ↦ not_both _ (λ y. cc) (λ y. cc) (sym x) | inr x ↦ not_both _ (λ y. cc) (λ y. cc) (sym x) ]

  cases : (s : Statement) → ((p : Bool × (Unit {0} × (Name × (Option (NonEmpty Name) × Option (List Feature))))) × (Class p.0 p.1.1.0 p.1.1.1.0 p.1.1.1.1 ≡ s)) ⊎ Begins statement_pieces never next s
  cases (Class a n s b) = inl ((a, (tt, (n, (s, b)))), refl)
  cases (Enum n ls) = inr (λ more h e. not_both _ (λ x. cc) (λ x. cc) e)
  cases (Predicate a n p c) = inr (λ more h e. predicate (begun (Predicate a n p c) more next e))
  cases (Declare names) = inr (λ more h e. not_both _ (λ x. cc) (λ x. cc) e)
  cases (Multi items) = inr (λ more h e. not_both _ (λ x. cc) (λ x. cc) e)
  cases (Atoms names) = inr (λ more h e. not_both _ (λ x. cc) (λ x. cc) e)
  cases (Scope bounds) = inr (λ more h e. not_both _ (λ x. cc) (λ x. cc) e)
  cases (Assert b a) = inr (λ more h e. (begun (Assert b a) more next e).no_class begins)

pub abstract_apart : Apart (either abstract_word never) class_rest never
abstract_apart b more h = λ e. elim e [ inl same ↦ cc | inr other ↦ other ]

pub supers_apart : Apart (either extends_word (either comma never)) body_pieces never
supers_apart b more h = apart b where
  apart : (body : Option (List Feature)) → Halts (either extends_word (either comma never)) (kinds_of (body_pieces body) ++ more)
  apart None = λ e. elim e [ inl same ↦ cc | inr other ↦ elim other [ inl same ↦ cc | inr none ↦ none ] ]
  apart (Some fs) = λ e. elim e [ inl same ↦ cc | inr other ↦ elim other [ inl same ↦ cc | inr none ↦ none ] ]
