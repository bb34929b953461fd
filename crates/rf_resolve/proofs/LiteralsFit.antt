-- The literals of a clause fit, but for where its variables range.
use Rattle.std.proofs.Common.{◌≡◌, ◌∙◌, ℕ, suc, ◌+◌, ◌≤◌, ◌<◌, Bool, true, not, ◌&&◌, ◌||◌, List, [], ◌∷◌, ◌++◌, length, All, Option, None, Some, refl, sym, ap, subst, inl, inr, arith, true≢false}
use Rattle.std.specs.Prelude.{◌==◌, nat_lt}
use Rattle.std.specs.List.{list_all}
use Rattle.std.specs.Option.{is_none}
use Rattle.std.proofs.lemmas.Bool.{and_from, and_parts, cases_Bool, eq-eqb, eqb-true, lt-ltb, or_cases, or_left, or_right}
use Rattle.std.proofs.lemmas.List.{length-map}
use Rattle.std.proofs.lemmas.List.Elements.{All-head, All-tail}
use Rattle.std.proofs.lemmas.List.Folds.{list_all-append}
use Rattle.rf_problem.specs.Parts.{arity_of}
use Rattle.rf_problem.specs.Valid.{has_steps, is_declared}
use Rattle.rf_problem.specs.declared.object.ObjectDecl.{ObjectDecl}
use Rattle.rf_problem.specs.declared.predicate.Literal.{Literal}
use Rattle.rf_problem.specs.declared.predicate.Literal.TheVariants.{Call as Calls, Same as IsSame, Differ as Differs}
use Rattle.rf_problem.specs.declared.predicate.Term.{Term}
use Rattle.rf_problem.specs.declared.predicate.Term.TheVariants.{Var, Atom as AtomOf}
use Rattle.rf_problem.specs.declared.symbol.Symbol.{Symbol}
use Rattle.rf_problem.specs.declared.symbol.Symbol.TheVariants.{Class, Reference, Predicate as Defined, Exists, Equals}
use Rattle.rf_syntax.specs.declared.name.Name.{Name}
use Rattle.rf_syntax.specs.declared.name.SymbolName.{SymbolName}
use Rattle.rf_syntax.specs.declared.predicate.BodyLiteral.{BodyLiteral}
use Rattle.rf_syntax.specs.declared.predicate.BodyLiteral.TheVariants.{Call, Same, Differ}
use Rattle.rf_syntax.specs.declared.predicate.Param.{Param}
use Rattle.rf_names.specs.Bodies.{clause_names, literal_names, term_of, terms_of, variable_number, with_argument, with_variable, with_variables}
use Rattle.rf_names.specs.Declarations.{Declared, is_among, is_atom_argument, param_names}
use Rattle.rf_names.specs.LookUp.{can_be_closed, class_named, literal_symbols, parameters_of, sense_of, the_number, the_symbol}
use Rattle.rf_names.specs.Texts.{is_blank, reads}
use Rattle.rf_name_rules.specs.NameOffsets.{ambiguous_literal, unknown_literal, unknown_param_class}
use Rattle.rf_structure_rules.specs.StructureOffsets.{literal_arity}
use Rattle.rf_build.specs.Arguments.{with_arguments}
use Rattle.rf_build.specs.Resolved.{class_literal, class_literals, resolved_literal, resolved_literals}
use Rattle.rf_resolve.proofs.CallsFit.{predicate_at-made, predicates_made}
use Rattle.rf_resolve.proofs.ClearOffsets.{offset_if-nil}
use Rattle.rf_resolve.proofs.ObjectsThere.{AreAtomsThere, is_atom_object}
use Rattle.rf_resolve.proofs.SenseLemmas.{IsCallOf, IsCallOf-from_nil, is_there}
use Rattle.rf_build.proofs.TermLemmas.{length-terms_of, one_is_few, two_arguments, with_arguments-longer, with_arguments-step}
use Rattle.rf_names.proofs.VariableLemmas.{position-some, variable_number-below, with_variables-append, with_variables-longer}

module _ (d : Declared) (objects : List ObjectDecl) where
  -- whether a term is a variable below m, or an atom
  abbrev pub term_within : ℕ → Term → Bool
  term_within m (Var v) = nat_lt v m
  term_within m (AtomOf o) = is_atom_object objects o

  -- whether a literal calls what is there by its number of arguments, with such terms
  abbrev pub fits_within : ℕ → Literal → Bool
  fits_within m (Calls negated closure symbol args) =
      is_declared (length d.classes) (length d.references) (length (predicates_made d)) symbol
      && ((length args == arity_of (predicates_made d) symbol)
      && ((not closure || has_steps (predicates_made d) symbol)
      && list_all (term_within m) args))
  fits_within m (IsSame a b) = term_within m a && term_within m b
  fits_within m (Differs a b) = term_within m a && term_within m b

module _ (d : Declared) where
  -- a literal of the text breaks no rule of symbols
  pub record IsSound (l : BodyLiteral) : Type 0 where
    pub known : unknown_literal d l ≡ []
    pub clear : ambiguous_literal d l ≡ []
    pub arity : literal_arity d l ≡ []

  -- symbols have as many arguments as they are declared with
  arity-made : (s : Symbol) → arity_of (predicates_made d) s ≡ parameters_of d s
  arity-made (Class c) = refl
  arity-made (Reference r) = refl
  arity-made (Defined q) = ap (λ p. p.arity) (predicate_at-made d q)
  arity-made Exists = refl
  arity-made Equals = refl

  steps-made : (s : Symbol) → is_there d s ≡ true → can_be_closed d s ≡ true → has_steps (predicates_made d) s ≡ true
  steps-made (Class c) there closed = absurd (true≢false (sym closed))
  steps-made (Reference r) there closed = refl
  steps-made (Defined q) there closed = ap (λ p. p.arity == 2) (predicate_at-made d q) ∙ closed
  steps-made Exists there closed = absurd (true≢false (sym there))
  steps-made Equals there closed = absurd (true≢false (sym there))

  closure-made :
      (s : Symbol) (closure : Bool) → is_there d s ≡ true → (not closure || can_be_closed d s) ≡ true →
      (not closure || has_steps (predicates_made d) s) ≡ true
  closure-made s closure there h = elim (or_cases (not closure) (can_be_closed d s) h) [
    | inl none ↦ or_left (not closure) (has_steps (predicates_made d) s) none
    | inr closed ↦ or_right (not closure) (has_steps (predicates_made d) s) (steps-made s there closed)
  ]

module _ (d : Declared) (objects : List ObjectDecl) (atoms : AreAtomsThere d objects) (params : List Param) where
  abbrev within : ℕ → Term → Bool
  within m t = term_within d objects m t

  -- the terms of arguments are atoms, or variables after them
  term-within :
      (m : ℕ) (known : List Name) (n : Name) → length (with_argument d params known n) ≤ m → within m (term_of d params known n) ≡ true
  term-within m known n l = elim (cases_Bool (is_atom_argument d.atoms params n)) [
    | inl e ↦ (let is = and_parts (not (is_blank n)) (not (is_among (param_names params) n) && is_among d.atoms n) e in
        let among = and_parts (not (is_among (param_names params) n)) (is_among d.atoms n) is.1 in
        rw e (atoms n.text among.1))
    | inr e ↦ (let few : length (with_variable known n) ≤ m = rw e at l in
        let below = variable_number-below known n in
        let less : nat_lt (variable_number known n) m ≡ true = lt-ltb (variable_number known n) m (omega arith) in
        rw e less)
  ]

  terms-within :
      (m : ℕ) (known ns : List Name) → length (with_arguments d params known ns) ≤ m → list_all (within m) (terms_of d params known ns) ≡ true
  terms-within m known [] l = refl
  terms-within m known (n ∷ ns) l =
      let after : List Name = with_argument d params known n in
      let all : length (with_arguments d params after ns) ≤ m =
      subst (λ vs. length vs ≤ m) (with_arguments-step d params known n ns) l in
      let longer = with_arguments-longer d params after ns in
      and_from (within m (term_of d params known n)) (list_all (within m) (terms_of d params after ns))
      (term-within m known n (omega arith)) (terms-within m after ns all)

  call-within :
      (m : ℕ) (known : List Name) (negated : Bool) (symbol : SymbolName) (closure : Bool) (args : List Name) (s : Symbol) →
      IsCallOf d symbol closure (length args) s → length (with_arguments d params known args) ≤ m →
      fits_within d objects m (Calls negated closure s (terms_of d params known args)) ≡ true
  call-within m known negated symbol closure args s is l =
      let terms : List Term = terms_of d params known args in
      let parts = and_parts (length args == parameters_of d s) (not closure || can_be_closed d s) is.fits in
      let there : is_declared (length d.classes) (length d.references) (length (predicates_made d)) s ≡ true =
      ap (λ n. is_declared (length d.classes) (length d.references) n s) (length-map d.predicates _) ∙ is.there in
      let count : length terms ≡ arity_of (predicates_made d) s =
      length-terms_of d params known args ∙ eqb-true (length args) (parameters_of d s) parts.0 ∙ sym (arity-made d s) in
      and_from (is_declared (length d.classes) (length d.references) (length (predicates_made d)) s)
      ((length terms == arity_of (predicates_made d) s)
      && ((not closure || has_steps (predicates_made d) s) && list_all (within m) terms))
      there
      (and_from (length terms == arity_of (predicates_made d) s)
      ((not closure || has_steps (predicates_made d) s) && list_all (within m) terms)
      (eq-eqb (length terms) (arity_of (predicates_made d) s) count)
      (and_from (not closure || has_steps (predicates_made d) s) (list_all (within m) terms)
      (closure-made d s closure is.there parts.1) (terms-within m known args l)))

  two-within :
      (m : ℕ) (known : List Name) (a b : Name) → length (with_arguments d params known (a ∷ b ∷ [])) ≤ m →
      (within m (term_of d params known a) && within m (term_of d params (with_argument d params known a) b)) ≡ true
  two-within m known a b l =
      let both = ap length (two_arguments d params known a b) in
      and_from (within m (term_of d params known a)) (within m (term_of d params (with_argument d params known a) b))
      (term-within m known a (one_is_few d params known a b m l))
      (term-within m (with_argument d params known a) b (omega arith))

  literal-within :
      (m : ℕ) (known : List Name) (l : BodyLiteral) → IsSound d l → length (with_variables known (literal_names d params l)) ≤ m →
      fits_within d objects m (resolved_literal d params known l) ≡ true
  literal-within m known (Call negated symbol closure args) is l =
      let one = IsCallOf-from_nil d negated symbol closure args is.known is.clear is.arity in
      let same : the_symbol (sense_of (literal_symbols d symbol)) ≡ one.0 = ap the_symbol one.1.one in
      ap (λ s. fits_within d objects m (Calls negated closure s (terms_of d params known args))) same
      ∙ call-within m known negated symbol closure args one.0 one.1 l
  literal-within m known (Same a b) is l = two-within m known a b l
  literal-within m known (Differ a b) is l = two-within m known a b l

  literals-within :
      (m : ℕ) (known : List Name) (ls : List BodyLiteral) → All (IsSound d) ls →
      length (with_variables known (clause_names d params ls)) ≤ m →
      list_all (fits_within d objects m) (resolved_literals d params known ls) ≡ true
  literals-within m known [] all l = refl
  literals-within m known (x ∷ xs) all l =
      let after : List Name = with_variables known (literal_names d params x) in
      let whole : length (with_variables after (clause_names d params xs)) ≤ m =
      subst (λ ns. length ns ≤ m) (with_variables-append known (literal_names d params x) (clause_names d params xs)) l in
      let longer = with_variables-longer after (clause_names d params xs) in
      and_from (fits_within d objects m (resolved_literal d params known x))
      (list_all (fits_within d objects m) (resolved_literals d params after xs))
      (literal-within m known x (All-head (IsSound d) x xs all) (omega arith))
      (literals-within m after xs (All-tail (IsSound d) x xs all) whole)

  -- the literals of typed parameters
  class_literal-within :
      (m n : ℕ) (o : Option Name) → unknown_param_class d o ≡ [] → n < m → list_all (fits_within d objects m) (class_literal d n o) ≡ true
  class_literal-within m n None known l = refl
  class_literal-within m n (Some class) known l =
      let there : nat_lt (the_number (class_named d class.text)) (length d.classes) ≡ true =
      lt-ltb (the_number (class_named d class.text)) (length d.classes)
      (position-some (λ c. reads class.text c.name) d.classes (offset_if-nil (is_none (class_named d class.text)) class.at known)) in
      let below : nat_lt n m ≡ true = lt-ltb n m l in
      rw (there, below) refl

  class_literals-within :
      (m n : ℕ) (ps : List Param) → All (λ p. unknown_param_class d p.class ≡ []) ps → n + length ps ≤ m →
      list_all (fits_within d objects m) (class_literals d n ps) ≡ true
  class_literals-within m n [] all l = refl
  class_literals-within m n (p ∷ ps) all l =
      list_all-append (fits_within d objects m) (class_literal d n p.class) (class_literals d (suc n) ps)
      ∙ and_from (list_all (fits_within d objects m) (class_literal d n p.class))
      (list_all (fits_within d objects m) (class_literals d (suc n) ps))
      (class_literal-within m n p.class (All-head (λ q. unknown_param_class d q.class ≡ []) p ps all) (omega arith))
      (class_literals-within m (suc n) ps (All-tail (λ q. unknown_param_class d q.class ≡ []) p ps all) (omega arith))

  -- all literals of a clause
  pub all_literals-within :
      (m : ℕ) (known : List Name) (ls : List BodyLiteral) (ps : List Param) → All (IsSound d) ls →
      All (λ p. unknown_param_class d p.class ≡ []) ps → length (with_variables known (clause_names d params ls)) ≤ m → length ps ≤ m →
      list_all (fits_within d objects m) (resolved_literals d params known ls ++ class_literals d 0 ps) ≡ true
  all_literals-within m known ls ps sound typed few enough =
      list_all-append (fits_within d objects m) (resolved_literals d params known ls) (class_literals d 0 ps)
      ∙ and_from (list_all (fits_within d objects m) (resolved_literals d params known ls))
      (list_all (fits_within d objects m) (class_literals d 0 ps))
      (literals-within m known ls sound few) (class_literals-within m 0 ps typed (omega arith))
