-- What a literal's symbol stands for, where it is known and not ambiguous.
use Rattle.std.proofs.Common.{◌≡◌, ◌∙◌, ℕ, Bool, true, false, not, ◌&&◌, List, [], ◌∷◌, ◌++◌, length, map, Option, None, Some, refl, sym, ap, arith, true≢false}
use Rattle.std.specs.Prelude.{◌==◌, nat_lt}
use Rattle.std.specs.List.{list_all}
use Rattle.std.proofs.lemmas.Bool.{and_from, lt-ltb, not-false}
use Rattle.std.proofs.lemmas.List.Folds.{list_all-append, list_all-map}
use Rattle.std.proofs.lemmas.List.Quantifiers.{position-Some}
use Rattle.rf_problem.specs.Valid.{is_declared}
use Rattle.rf_problem.specs.declared.symbol.Symbol.{Symbol}
use Rattle.rf_problem.specs.declared.symbol.Symbol.TheVariants.{Class, Reference, Predicate as Defined}
use Rattle.rf_syntax.specs.declared.name.Name.{Name}
use Rattle.rf_syntax.specs.declared.name.SymbolName.{SymbolName}
use Rattle.rf_syntax.specs.declared.predicate.BodyLiteral.TheVariants.{Call}
use Rattle.rf_names.specs.Declarations.{Declared}
use Rattle.rf_names.specs.LookUp.{class_named, extends_somehow, inherited_members, literal_symbols, members_of_some, no_class_decl, no_predicate_decl, own_members, own_or_inherited, predicate_named, references_named, sense_of, symbol_of_some, symbols_named, symbols_or_members}
use Rattle.rf_names.specs.Texts.{reads}
use Rattle.rf_name_rules.specs.NameOffsets.{ambiguous_literal, is_ambiguous, is_unknown, last_offset, unknown_class, unknown_literal, unknown_symbol}
use Rattle.rf_structure_rules.specs.StructureOffsets.{bad_arity, fits_call, literal_arity}
use Rattle.rf_names.specs.Offsets.{offset_if}
use Rattle.rf_names.specs.declared.sense.Sense.{Sense}
use Rattle.rf_names.specs.declared.sense.Sense.TheVariants.{Nothing, One, Several}
use Rattle.rf_resolve.proofs.ClearOffsets.{nil-right, offset_if-nil}
use Rattle.rf_resolve.proofs.NegationLemmas.{numbers_where-below}

-- all of two lists
pub all-both : {X : Type 0} (p : X → Bool) (xs ys : List X) → list_all p xs ≡ true → list_all p ys ≡ true → list_all p (xs ++ ys) ≡ true
all-both p xs ys left right = list_all-append p xs ys ∙ and_from (list_all p xs) (list_all p ys) left right

-- a number that is there passes
all-some :
    (test : Symbol → Bool) (symbol : ℕ → Symbol) (o : Option ℕ) → ((n : ℕ) → o ≡ Some n → test (symbol n) ≡ true) →
    list_all test (symbol_of_some symbol o) ≡ true
all-some test symbol None h = refl
all-some test symbol (Some n) h = and_from (test (symbol n)) true (h n refl) refl

all-or_inherited :
    (p : ℕ → Bool) (own inherited : List ℕ) → list_all p own ≡ true → list_all p inherited ≡ true → list_all p (own_or_inherited own inherited) ≡ true
all-or_inherited p [] inherited left right = right
all-or_inherited p (r ∷ rs) inherited left right = left

-- where a list of symbols says one thing, that is the one in it
pub one-from_sense : (test : Symbol → Bool) (xs : List Symbol) (s : Symbol) → sense_of xs ≡ One s → list_all test xs ≡ true → test s ≡ true
one-from_sense test [] s e all = let never : ⊥ = cc in absurd never
one-from_sense test (x ∷ []) s e all = let same : x ≡ s = cc in ap test (sym same) ∙ first (test x) all
  where
    first : (b : Bool) → (b && true) ≡ true → b ≡ true
    first true h = refl
    first false h = h
one-from_sense test (x ∷ y ∷ ys) s e all = let never : ⊥ = cc in absurd never

-- what is neither unknown nor ambiguous is one symbol
pub one-from_clear : (sense : Sense) → is_unknown sense ≡ false → is_ambiguous sense ≡ false → (s : Symbol) × (sense ≡ One s)
one-from_clear Nothing known clear = absurd (true≢false known)
one-from_clear (One s) known clear = (s, refl)
one-from_clear Several known clear = absurd (true≢false clear)

pub known-from_nil : (d : Declared) (sense : Sense) (name : Name) (member : Option Name) → unknown_symbol d sense name member ≡ [] → is_unknown sense ≡ false
known-from_nil d sense name None e = offset_if-nil (is_unknown sense) name.at e
known-from_nil d sense name (Some member) e =
    offset_if-nil (is_unknown sense) member.at (nil-right (unknown_class d name) (offset_if (is_unknown sense) member.at) e)

pub fits-from_nil :
    (d : Declared) (sense : Sense) (s : Symbol) (closure : Bool) (args at : ℕ) → sense ≡ One s → bad_arity d sense closure args at ≡ [] →
    fits_call d s closure args ≡ true
fits-from_nil d sense s closure args at e none =
    not-false (fits_call d s closure args)
    (offset_if-nil (not (fits_call d s closure args)) at (ap (λ x. bad_arity d x closure args at) (sym e) ∙ none))

module _ (d : Declared) where
  -- whether a symbol stands for what is declared
  abbrev pub is_there : Symbol → Bool
  is_there s = is_declared (length d.classes) (length d.references) (length d.predicates) s

  all_references-there : (ns : List ℕ) → list_all (λ r. nat_lt r (length d.references)) ns ≡ true → list_all is_there (map Reference ns) ≡ true
  all_references-there ns h = list_all-map is_there Reference ns ∙ h

  symbols_named-there : (text : List ℕ) → list_all is_there (symbols_named d text) ≡ true
  symbols_named-there text =
      let classes : list_all is_there (symbol_of_some Class (class_named d text)) ≡ true =
      all-some is_there Class (class_named d text)
      (λ n e. lt-ltb n (length d.classes) (position-Some (λ c. reads text c.name) d.classes n no_class_decl e).0) in
      let predicates : list_all is_there (symbol_of_some Defined (predicate_named d text)) ≡ true =
      all-some is_there Defined (predicate_named d text)
      (λ n e. lt-ltb n (length d.predicates) (position-Some (λ p. reads text p.name) d.predicates n no_predicate_decl e).0) in
      let references : list_all is_there (map Reference (references_named d text)) ≡ true =
      all_references-there (references_named d text)
      (numbers_where-below (λ r. reads text r.feature.name) 0 d.references (length d.references) (omega arith)) in
      all-both is_there (symbol_of_some Class (class_named d text) ++ symbol_of_some Defined (predicate_named d text))
      (map Reference (references_named d text))
      (all-both is_there (symbol_of_some Class (class_named d text)) (symbol_of_some Defined (predicate_named d text)) classes predicates)
      references

  members-there : (o : Option ℕ) (text : List ℕ) → list_all (λ r. nat_lt r (length d.references)) (members_of_some d o text) ≡ true
  members-there None text = refl
  members-there (Some c) text =
      all-or_inherited (λ r. nat_lt r (length d.references)) (own_members d c text) (inherited_members d c text)
      (numbers_where-below (λ r. (r.source == c) && reads text r.feature.name) 0 d.references (length d.references) (omega arith))
      (numbers_where-below (λ r. extends_somehow d c r.source && reads text r.feature.name) 0 d.references (length d.references) (omega arith))

  symbols_or_members-there :
      (alone : List Symbol) (name : Name) (member : Option Name) → list_all is_there alone ≡ true →
      list_all is_there (symbols_or_members d alone name member) ≡ true
  symbols_or_members-there alone name None h = h
  symbols_or_members-there alone name (Some member) h =
      all_references-there (members_of_some d (class_named d name.text) member.text) (members-there (class_named d name.text) member.text)

  -- what a literal's name stands for is declared
  pub literal_symbols-there : (s : SymbolName) → list_all is_there (literal_symbols d s) ≡ true
  literal_symbols-there s = symbols_or_members-there (symbols_named d s.name.text) s.name s.member (symbols_named-there s.name.text)

  -- a call that breaks no rule is of one symbol that is declared, by its number of arguments
  pub record IsCallOf (symbol : SymbolName) (closure : Bool) (args : ℕ) (s : Symbol) : Type 0 where
    pub one : sense_of (literal_symbols d symbol) ≡ One s
    pub there : is_there s ≡ true
    pub fits : fits_call d s closure args ≡ true

  pub IsCallOf-from_nil :
      (negated : Bool) (symbol : SymbolName) (closure : Bool) (args : List Name) → unknown_literal d (Call negated symbol closure args) ≡ [] →
      ambiguous_literal d (Call negated symbol closure args) ≡ [] → literal_arity d (Call negated symbol closure args) ≡ [] →
      (s : Symbol) × IsCallOf symbol closure (length args) s
  IsCallOf-from_nil negated symbol closure args known clear arity =
      let sense : Sense = sense_of (literal_symbols d symbol) in
      let one =
      one-from_clear sense (known-from_nil d sense symbol.name symbol.member known)
      (offset_if-nil (is_ambiguous sense) (last_offset symbol.name symbol.member) clear) in (
        one.0,
        record {
          one = one.1;
          there = one-from_sense is_there (literal_symbols d symbol) one.0 one.1 (literal_symbols-there symbol);
          fits = fits-from_nil d sense one.0 closure (length args) symbol.name.at one.1 arity;
        },
      )
