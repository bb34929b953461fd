-- Tuples at which a predicate isn't false.
use Rattle.std.specs.Prelude.{◌≡◌, ◌≢◌, ◌↔◌, ℕ, Bool, true, List, map}
use Rattle.std.specs.Cmp.Lexicographic.{slice_cmp}
use Rattle.std.specs.List.{Contains}
use Rattle.std.specs.List.Sorted.{IsStrictlySortedBy}
use Rattle.std.specs.Ordering.{nat_cmp}
use Rattle.rf_finite.specs.Tuples.{IsTuple}
use Rattle.rf_values.specs.declared.truth.Truth.{Truth}
use Rattle.rf_values.specs.declared.truth.Truth.TheVariants.{False}
use Rattle.rf_problem.specs.Parts.{predicate_at}
use Rattle.rf_problem.specs.declared.symbol.Symbol.TheVariants.{Predicate as Defined}
use Rattle.rf_evaluate.specs.Known.{Known, value_of}

-- a tuple of elements, as many as the predicate has parameters, passes a test, and the predicate isn't false there
pub record IsFound (k : Known) (q : ℕ) (passes : List ℕ → Bool) (t : List ℕ) : Type 0 where
  pub tuple : IsTuple k.size (predicate_at k.problem.predicates q).arity t
  pub passed : passes t ≡ true
  pub value : value_of k (Defined q) t ≢ False

-- these are all such tuples, in lexicographic order, each once and with the predicate's value there
pub record AreValuesFound (k : Known) (q : ℕ) (passes : List ℕ → Bool) (values : List (List ℕ × Truth)) : Type 0 where
  pub ordered : IsStrictlySortedBy (slice_cmp nat_cmp) (map (λ (e : List ℕ × Truth). e.0) values)
  pub members : (t : List ℕ) (v : Truth)
      → Contains values (t, v) ↔ (IsFound k q passes t × (v ≡ value_of k (Defined q) t))
