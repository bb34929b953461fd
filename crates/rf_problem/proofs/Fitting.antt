-- What literals that fit owe.
use Rattle.std.proofs.Common.{◌≡◌, ◌⊎◌, ℕ, zero, suc, ◌+◌, ◌<◌, Bool, true, false, not, ◌&&◌, ◌||◌, ◌==◌, Option, Some, None, List, [], ◌∷◌, length, slice_get, slice_index_or, refl, sym, ◌∙◌, subst, inl, inr, arith, true≢false}
use Rattle.std.specs.List.{list_all}
use Rattle.std.proofs.lemmas.Bool.{and_parts, and_from, eqb-true, ltb-true}
use Rattle.std.proofs.lemmas.Option.{same_Some}
use Rattle.rf_finite.proofs.Range.{None-ne_Some}
use Rattle.rf_problem.specs.Parts.{arity_of}
use Rattle.rf_problem.specs.Reading.{is_entry}
use Rattle.rf_problem.specs.Valid.{fit_literals, fits_literal, fits_term, has_steps, is_declared, may_stand, ranges_over}
use Rattle.rf_problem.specs.declared.predicate.Literal.{Literal}
use Rattle.rf_problem.specs.declared.predicate.Literal.TheVariants.{Call}
use Rattle.rf_problem.specs.declared.predicate.Term.{Term}
use Rattle.rf_problem.specs.declared.problem.Problem.{Problem}
use Rattle.rf_problem.specs.declared.symbol.Symbol.{Symbol}

-- the parts of what a call owes
pub record FitsCall (p : Problem) (variables : List (Option ℕ)) (i : ℕ) (negated closure : Bool) (symbol : Symbol) (args : List Term) : Type 0 where
  pub declared : is_declared (length p.classes) (length p.references) (length p.predicates) symbol ≡ true
  pub arity : length args ≡ arity_of p.predicates symbol
  pub steps : closure ≡ true → has_steps p.predicates symbol ≡ true
  pub stand : list_all (fits_term p.objects variables i negated) args ≡ true

-- a variable that ranges over the clause, or is a parameter
abbrev pub IsFree : List (Option ℕ) → ℕ → Type 0
IsFree variables v = (v < length variables) × (slice_index_or variables v None ≡ None)

pub may_stand-parts : (variables : List (Option ℕ)) (i v : ℕ) (negated : Bool) → may_stand variables i negated v ≡ true
    → (v < length variables) × (ranges_over (slice_index_or variables v None) i negated ≡ true)
may_stand-parts variables i v negated h =
    let parts = and_parts _ (ranges_over (slice_index_or variables v None) i negated) h in (ltb-true v (length variables) parts.0, parts.1)

-- outside negations only variables that range over the clause stand
ranges_over-None : (o : Option ℕ) (i : ℕ) → ranges_over o i false ≡ true → o ≡ None
ranges_over-None None i h = refl
ranges_over-None (Some j) i h = absurd (true≢false (sym h))

pub may_stand-free : (variables : List (Option ℕ)) (i v : ℕ) → may_stand variables i false v ≡ true → IsFree variables v
may_stand-free variables i v h =
    let parts = may_stand-parts variables i v false h in (parts.0, ranges_over-None (slice_index_or variables v None) i parts.1)

-- inside a negation its own may stand too
pub ranges_over-cases : (o : Option ℕ) (i : ℕ) → ranges_over o i true ≡ true → (o ≡ None) ⊎ (is_entry i o ≡ true)
ranges_over-cases None i h = inl refl
ranges_over-cases (Some j) i h = inr h

-- what a test over a list of literals by their numbers says of each
module _ (test : ℕ → Literal → Bool) (all : ℕ → List Literal → Bool) (cons : (i : ℕ) (l : Literal) (ls : List Literal) → all i (l ∷ ls) ≡ (test i l && all (suc i) ls)) where
  each-from_number : (i : ℕ) (ls : List Literal) → all i ls ≡ true → (k : ℕ) (l : Literal) → slice_get ls k ≡ Some l → test (i + k) l ≡ true
  each-from_number i [] h k l e = absurd (None-ne_Some e)
  each-from_number i (m ∷ ls) h zero l e =
      let parts = and_parts (test i m) (all (suc i) ls) (sym (cons i m ls) ∙ h) in
      let place : i ≡ i + zero = omega arith in
      subst (λ (n : ℕ). test n l ≡ true) place (subst (λ (n : Literal). test i n ≡ true) (same_Some m l e) parts.0)
  each-from_number i (m ∷ ls) h (suc k) l e =
      let parts = and_parts (test i m) (all (suc i) ls) (sym (cons i m ls) ∙ h) in
      let place : suc i + k ≡ i + suc k = omega arith in
      subst (λ (n : ℕ). test n l ≡ true) place (each-from_number (suc i) ls parts.1 k l e)

  number-from_each : ((i : ℕ) → all i [] ≡ true) → (i : ℕ) (ls : List Literal) → ((k : ℕ) (l : Literal) → slice_get ls k ≡ Some l → test (i + k) l ≡ true) → all i ls ≡ true
  number-from_each nil i [] h = nil i
  number-from_each nil i (m ∷ ls) h =
      let place : i + zero ≡ i = omega arith in
      cons i m ls ∙ and_from (test i m) (all (suc i) ls) (subst (λ (n : ℕ). test n m ≡ true) place (h zero m refl))
      (number-from_each nil (suc i) ls (λ k l e. (let next : i + suc k ≡ suc i + k = omega arith in subst (λ (n : ℕ). test n l ≡ true) next (h (suc k) l e))))

  pub each-from_all : (ls : List Literal) → all 0 ls ≡ true → (k : ℕ) (l : Literal) → slice_get ls k ≡ Some l → test k l ≡ true
  each-from_all ls h k l e = let place : 0 + k ≡ k = omega arith in subst (λ (n : ℕ). test n l ≡ true) place (each-from_number 0 ls h k l e)

  pub all-from_each : ((i : ℕ) → all i [] ≡ true) → (ls : List Literal) → ((k : ℕ) (l : Literal) → slice_get ls k ≡ Some l → test k l ≡ true) → all 0 ls ≡ true
  all-from_each nil ls h = number-from_each nil 0 ls (λ k l e. (let place : k ≡ 0 + k = omega arith in subst (λ (n : ℕ). test n l ≡ true) place (h k l e)))

module _ (p : Problem) where
  -- whether a literal of a clause with these variables, or its literals from number i on, fit the problem
  abbrev pub literal_fits : List (Option ℕ) → ℕ → Literal → Bool
  literal_fits variables i l = fits_literal (length p.classes) (length p.references) p.objects p.predicates variables i l

  abbrev pub literals_fit : List (Option ℕ) → ℕ → List Literal → Bool
  literals_fit variables i ls = fit_literals (length p.classes) (length p.references) p.objects p.predicates variables i ls

  pub each-from_literals_fit : (variables : List (Option ℕ)) (ls : List Literal) → literals_fit variables 0 ls ≡ true
      → (i : ℕ) (l : Literal) → slice_get ls i ≡ Some l → literal_fits variables i l ≡ true
  each-from_literals_fit variables ls = each-from_all (literal_fits variables) (literals_fit variables) (λ i l ls. refl) ls

  pub FitsCall-from_literal_fits : (variables : List (Option ℕ)) (i : ℕ) (negated closure : Bool) (symbol : Symbol) (args : List Term)
      → literal_fits variables i (Call negated closure symbol args) ≡ true
      → FitsCall p variables i negated closure symbol args
  FitsCall-from_literal_fits variables i negated closure symbol args h =
      let first = and_parts (is_declared (length p.classes) (length p.references) (length p.predicates) symbol)
      ((length args == arity_of p.predicates symbol) && ((not closure || has_steps p.predicates symbol) && list_all (fits_term p.objects variables i negated) args)) h in
      let second = and_parts (length args == arity_of p.predicates symbol) ((not closure || has_steps p.predicates symbol) && list_all (fits_term p.objects variables i negated) args) first.1 in
      let third = and_parts (not closure || has_steps p.predicates symbol) (list_all (fits_term p.objects variables i negated) args) second.1 in
      record {
        declared = first.0;
        arity = eqb-true (length args) (arity_of p.predicates symbol) second.0;
        steps = λ e. subst (λ b. (not b || has_steps p.predicates symbol) ≡ true) e third.0;
        stand = third.1;
      }
