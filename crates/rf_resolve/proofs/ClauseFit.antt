-- Clauses fit that break no rule.
use Rattle.std.proofs.Common.{◌≡◌, ◌∙◌, ℕ, zero, suc, ◌+◌, ◌≤◌, ◌<◌, Bool, true, false, not, ◌&&◌, ◌||◌, List, [], ◌∷◌, length, get_or, take, map, All, Option, None, refl, ap, subst, inl, inr, arith}
use Rattle.std.specs.Prelude.{◌==◌, nat_lt}
use Rattle.std.specs.List.{list_all, list_any, range_with_len}
use Rattle.std.proofs.lemmas.Bool.{and_from, and_parts, cases_Bool, eq-eqb, lt-ltb, ltb-true, or_left, or_right}
use Rattle.std.proofs.lemmas.List.{length-append, length-map}
use Rattle.std.proofs.lemmas.List.FromFn.{get_or-map-range_with_len, length-map-range_with_len, take-map-range_with_len}
use Rattle.rf_bounds.specs.declared.TheConstants.{MOST_LITERALS, MOST_VARIABLES}
use Rattle.rf_problem.specs.Parts.{arity_of}
use Rattle.rf_problem.specs.Valid.{FitsClause, fit_literals, fits_literal, fits_term, has_steps, is_declared, is_free, may_stand, ranges_over}
use Rattle.rf_problem.specs.declared.object.ObjectDecl.{ObjectDecl}
use Rattle.rf_problem.specs.declared.predicate.Literal.{Literal}
use Rattle.rf_problem.specs.declared.predicate.Literal.TheVariants.{Call as Calls, Same as IsSame, Differ as Differs}
use Rattle.rf_problem.specs.declared.predicate.Predicate.{Predicate}
use Rattle.rf_problem.specs.declared.predicate.Term.{Term}
use Rattle.rf_problem.specs.declared.predicate.Term.TheVariants.{Var, Atom as AtomOf}
use Rattle.rf_syntax.specs.declared.predicate.BodyLiteral.{BodyLiteral}
use Rattle.rf_syntax.specs.declared.predicate.Param.{Param}
use Rattle.rf_names.specs.Bodies.{clause_names, clause_variables}
use Rattle.rf_names.specs.Declarations.{Declared, param_names}
use Rattle.rf_name_rules.specs.NameOffsets.{unknown_param_class}
use Rattle.rf_build.specs.Resolved.{all_literals, class_literals, entry_of, is_variable, mentions, resolved_clause, resolved_literals}
use Rattle.rf_resolve.proofs.CallsFit.{predicates_made}
use Rattle.rf_build.proofs.LiteralCounts.{length-class_literals, length-resolved_literals}
use Rattle.rf_resolve.proofs.LiteralsFit.{IsSound, all_literals-within, fits_within, term_within}
use Rattle.rf_resolve.proofs.NegationLemmas.{is_negation, negation_around-fits}
use Rattle.rf_resolve.proofs.ObjectsThere.{AreAtomsThere}
use Rattle.rf_names.proofs.VariableLemmas.{with_variables-longer}

list_all-at : {X : Type 0} (p : X → Bool) (xs : List X) (k : ℕ) (e : X) → list_all p xs ≡ true → k < length xs → p (get_or xs k e) ≡ true
list_all-at p [] k e all l = absurd (omega arith)
list_all-at p (x ∷ xs) zero e all l = (and_parts (p x) (list_all p xs) all).0
list_all-at p (x ∷ xs) (suc k) e all l = list_all-at p xs k e (and_parts (p x) (list_all p xs) all).1 (omega arith)

-- literals fit that do so one by one
fit_literals-from_each :
    (c r : ℕ) (os : List ObjectDecl) (ps : List Predicate) (vs : List (Option ℕ)) (i : ℕ) (ls : List Literal) →
    ((k : ℕ) (e : Literal) → k < length ls → fits_literal c r os ps vs (i + k) (get_or ls k e) ≡ true) → fit_literals c r os ps vs i ls ≡ true
fit_literals-from_each c r os ps vs i [] h = refl
fit_literals-from_each c r os ps vs i (l ∷ ls) h =
    let here : i + 0 ≡ i = omega arith in
    and_from (fits_literal c r os ps vs i l) (fit_literals c r os ps vs (suc i) ls)
    (subst (λ n. fits_literal c r os ps vs n l ≡ true) here (h 0 l (omega arith)))
    (fit_literals-from_each c r os ps vs (suc i) ls (λ k e less.
    let next : i + suc k ≡ suc i + k = omega arith in
    subst (λ n. fits_literal c r os ps vs n (get_or ls k e) ≡ true) next (h (suc k) e (omega arith))))

-- the entries of the first variables say that they range over the clause
free-front : (arity : ℕ) (all : List Literal) (a n : ℕ) → a + n ≤ arity → list_all is_free (map (entry_of arity all) (range_with_len a n)) ≡ true
free-front arity all a zero l = refl
free-front arity all a (suc n) l =
    let below : nat_lt a arity ≡ true = lt-ltb a arity (omega arith) in
    rw below (free-front arity all (a + 1) n (omega arith))

module _ (d : Declared) (objects : List ObjectDecl) (arity : ℕ) (all : List Literal) (m : ℕ) where
  -- the variables of a clause with these literals
  abbrev variables_made : List (Option ℕ)
  variables_made = map (entry_of arity all) (range_with_len 0 m)

  entry-fits :
      (k : ℕ) (e : Literal) (v : ℕ) → k < length all → mentions v (get_or all k e) ≡ true →
      ranges_over (entry_of arity all v) k (is_negation (get_or all k e)) ≡ true
  entry-fits k e v l has = elim (cases_Bool (nat_lt v arity)) [
    | inl param ↦ rw param refl
    | inr other ↦ rw other (negation_around-fits all k e v l has)
  ]

  may_stand-there :
      (k : ℕ) (e : Literal) (v : ℕ) → k < length all → nat_lt v m ≡ true → mentions v (get_or all k e) ≡ true →
      may_stand variables_made k (is_negation (get_or all k e)) v ≡ true
  may_stand-there k e v l below has =
      let less = ltb-true v m below in
      let number : 0 + v ≡ v = omega arith in
      let count : length variables_made ≡ m = length-map-range_with_len (entry_of arity all) 0 m in
      let entry : get_or variables_made v None ≡ entry_of arity all v = get_or-map-range_with_len (entry_of arity all) 0 m v v None less number in
      and_from (nat_lt v (length variables_made)) (ranges_over (get_or variables_made v None) k (is_negation (get_or all k e)))
      (ap (nat_lt v) count ∙ below)
      (ap (λ o. ranges_over o k (is_negation (get_or all k e))) entry ∙ entry-fits k e v l has)

  -- a term may stand in a literal if it is an atom, or a variable that may
  term-fits :
      (k : ℕ) (negated : Bool) (t : Term) → term_within d objects m t ≡ true →
      ((v : ℕ) → nat_lt v m ≡ true → is_variable v t ≡ true → may_stand variables_made k negated v ≡ true) →
      fits_term objects variables_made k negated t ≡ true
  term-fits k negated (Var v) h stand = stand v h (eq-eqb v v refl)
  term-fits k negated (AtomOf o) h stand = h

  terms-fit :
      (k : ℕ) (negated : Bool) (ts : List Term) → list_all (term_within d objects m) ts ≡ true →
      ((v : ℕ) → nat_lt v m ≡ true → list_any (is_variable v) ts ≡ true → may_stand variables_made k negated v ≡ true) →
      list_all (fits_term objects variables_made k negated) ts ≡ true
  terms-fit k negated [] h stand = refl
  terms-fit k negated (t ∷ ts) h stand =
      let parts = and_parts (term_within d objects m t) (list_all (term_within d objects m) ts) h in
      and_from (fits_term objects variables_made k negated t) (list_all (fits_term objects variables_made k negated) ts)
      (term-fits k negated t parts.0 (λ v below is. stand v below (or_left (is_variable v t) (list_any (is_variable v) ts) is)))
      (terms-fit k negated ts parts.1 (λ v below has. stand v below (or_right (is_variable v t) (list_any (is_variable v) ts) has)))

  two-fit :
      (k : ℕ) (a b : Term) → (term_within d objects m a && term_within d objects m b) ≡ true →
      ((v : ℕ) → nat_lt v m ≡ true → list_any (is_variable v) (a ∷ b ∷ []) ≡ true → may_stand variables_made k false v ≡ true) →
      (fits_term objects variables_made k false a && fits_term objects variables_made k false b) ≡ true
  two-fit k a b h stand =
      let parts = and_parts (term_within d objects m a) (term_within d objects m b) h in
      and_from (fits_term objects variables_made k false a) (fits_term objects variables_made k false b)
      (term-fits k false a parts.0 (λ v below is. stand v below (or_left (is_variable v a) (is_variable v b || false) is)))
      (term-fits k false b parts.1 (λ v below is. stand v below
      (or_right (is_variable v a) (is_variable v b || false) (or_left (is_variable v b) false is))))

  -- a literal whose variables may stand in it
  fits_literal-from_within :
      (k : ℕ) (l : Literal) → ((v : ℕ) → nat_lt v m ≡ true → mentions v l ≡ true → may_stand variables_made k (is_negation l) v ≡ true) →
      fits_within d objects m l ≡ true →
      fits_literal (length d.classes) (length d.references) objects (predicates_made d) variables_made k l ≡ true
  fits_literal-from_within k (Calls negated closure symbol args) stand h =
      let there : Bool = is_declared (length d.classes) (length d.references) (length (predicates_made d)) symbol in
      let count : Bool = length args == arity_of (predicates_made d) symbol in
      let steps : Bool = not closure || has_steps (predicates_made d) symbol in
      let below : Bool = list_all (term_within d objects m) args in
      let fit : Bool = list_all (fits_term objects variables_made k negated) args in
      let one = and_parts there (count && (steps && below)) h in
      let two = and_parts count (steps && below) one.1 in
      let three = and_parts steps below two.1 in
      and_from there (count && (steps && fit)) one.0
      (and_from count (steps && fit) two.0
      (and_from steps fit three.0 (terms-fit k negated args three.1 stand)))
  fits_literal-from_within k (IsSame a b) stand h = two-fit k a b h stand
  fits_literal-from_within k (Differs a b) stand h = two-fit k a b h stand

  literals-fit :
      list_all (fits_within d objects m) all ≡ true →
      fit_literals (length d.classes) (length d.references) objects (predicates_made d) variables_made 0 all ≡ true
  literals-fit within =
      fit_literals-from_each (length d.classes) (length d.references) objects (predicates_made d) variables_made 0 all
      (λ k e l.
      let number : k ≡ 0 + k = omega arith in
      subst (λ n. fits_literal (length d.classes) (length d.references) objects (predicates_made d) variables_made n (get_or all k e) ≡ true) number
      (fits_literal-from_within k (get_or all k e) (λ v below has. may_stand-there k e v l below has)
      (list_all-at (fits_within d objects m) all k e within l)))

module _ (d : Declared) where
  -- a clause breaks no rule of symbols and passes no limit
  pub record IsSoundClause (params : List Param) (clause : List BodyLiteral) : Type 0 where
    pub literals : All (IsSound d) clause
    pub typed : All (λ p. unknown_param_class d p.class ≡ []) params
    pub few_literals : length clause ≤ MOST_LITERALS
    pub few_variables : length (clause_variables d params clause) ≤ MOST_VARIABLES

  pub FitsClause-from_sound :
      (objects : List ObjectDecl) → AreAtomsThere d objects →
      (params : List Param) (clause : List BodyLiteral) → IsSoundClause params clause →
      FitsClause (length d.classes) (length d.references) objects (predicates_made d) (length params) (resolved_clause d params clause)
  FitsClause-from_sound objects atoms params clause is =
      let all : List Literal = all_literals d params clause in
      let m : ℕ = length (clause_variables d params clause) in
      let arity : ℕ = length params in
      let count : length (map (entry_of arity all) (range_with_len 0 m)) ≡ m = length-map-range_with_len (entry_of arity all) 0 m in
      let few = is.few_variables in
      let written = length-resolved_literals d params (param_names params) clause in
      let typed = length-class_literals d 0 params in
      let both = length-append (resolved_literals d params (param_names params) clause) (class_literals d 0 params) in
      let at_most = is.few_literals in
      let names = length-map params (λ p. p.name) in
      let longer = with_variables-longer (param_names params) (clause_names d params clause) in
      let enough : arity ≤ m = omega arith in
      let front : take arity (map (entry_of arity all) (range_with_len 0 m)) ≡ map (entry_of arity all) (range_with_len 0 arity) =
      take-map-range_with_len (entry_of arity all) 0 m arity enough in
      record {
        few_variables = omega arith;
        few_literals = omega arith;
        parameters = omega arith;
        free = ap (list_all is_free) front ∙ free-front arity all 0 arity (omega arith);
        literals = literals-fit d objects arity all m
            (all_literals-within d objects atoms params m (param_names params) clause params is.literals is.typed (omega arith) enough);
      }
