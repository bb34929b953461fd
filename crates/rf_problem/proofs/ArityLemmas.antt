-- How many arguments symbols have.
use Rattle.std.proofs.Common.{◌≡◌, ◌≤◌, ℕ, List, All, length, ap, sym, subst, inl, inr, arith}
use Rattle.std.proofs.lemmas.Bool.{cases_lt}
use Rattle.std.proofs.lemmas.List.{get_or_past}
use Rattle.rf_bounds.specs.declared.TheConstants.{MOST_PARAMETERS}
use Rattle.rf_problem.specs.Parts.{arity_of, no_predicate, predicate_at}
use Rattle.rf_problem.specs.declared.predicate.Predicate.{Predicate}
use Rattle.rf_problem.specs.declared.symbol.Symbol.{Symbol}
use Rattle.rf_problem.specs.declared.symbol.Symbol.TheVariants.{Class, Reference, Predicate as Defined, Exists, Equals}

-- no symbol has more arguments than a predicate may have
pub arity_of-few : (predicates : List Predicate) (s : Symbol) → All (λ p. p.arity ≤ MOST_PARAMETERS) predicates → arity_of predicates s ≤ MOST_PARAMETERS
arity_of-few predicates (Class c) few = omega arith
arity_of-few predicates (Reference r) few = omega arith
arity_of-few predicates (Defined q) few = elim (cases_lt q (length predicates)) [
  | inl l ↦ few q no_predicate l
  | inr past ↦ (let none : (predicate_at predicates q).arity ≡ 0 = ap (λ (p : Predicate). p.arity) (get_or_past predicates q no_predicate past) in
      subst (λ (n : ℕ). n ≤ MOST_PARAMETERS) (sym none) (omega arith))
]
arity_of-few predicates Exists few = omega arith
arity_of-few predicates Equals few = omega arith
