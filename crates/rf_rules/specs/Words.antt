-- The words of the rules: what stands at the ends of counts and ranges, what is known of edges, and which candidates an object has.
use Rattle.std.specs.Prelude.{ℕ, Bool, true, false, ◌&&◌, ◌||◌, not, nat_le, Option, None, Some, length}
use Rattle.std.specs.FinSet.{contains}
use Rattle.rf_finite.specs.Range.{all_below, some_below}
use Rattle.rf_finite.specs.Ends.{within}
use Rattle.rf_values.specs.ClassSet.{members_below}
use Rattle.rf_values.specs.Count.{is_single}
use Rattle.rf_values.specs.Truth as truth
use Rattle.rf_values.specs.declared.class_set.ClassSet.{ClassSet}
use Rattle.rf_values.specs.declared.truth.Truth.{Truth}
use Rattle.rf_values.specs.declared.truth.Truth.TheVariants.{True, False, Unknown, Error}
use Rattle.rf_problem.specs.Classes.{is_below}
use Rattle.rf_problem.specs.Parts.{reference_at}
use Rattle.rf_problem.specs.declared.problem.Problem.{Problem}
use Rattle.rf_state.specs.State.{State, fact, object_of}

-- the ends of an object's count, and whether it is 1 to 1
abbrev pub lo : State → ℕ → ℕ
lo s o = (object_of s o).count.lo

abbrev pub hi : State → ℕ → Option ℕ
hi s o = (object_of s o).count.hi

abbrev pub is_one : State → ℕ → Bool
is_one s o = is_single (object_of s o).count

-- the ends of a reference's range, and the classes at its ends
abbrev pub min : Problem → ℕ → ℕ
min p r = (reference_at p.references r).range.lo

abbrev pub max : Problem → ℕ → Option ℕ
max p r = (reference_at p.references r).range.hi

abbrev pub source : Problem → ℕ → ℕ
source p r = (reference_at p.references r).source

abbrev pub target : Problem → ℕ → ℕ
target p r = (reference_at p.references r).target

-- whether an edge has to lead from a to b, and whether one can
abbrev pub must : Problem → State → ℕ → ℕ → ℕ → Bool
must p s r a b = truth.must (fact p s r a b)

abbrev pub may : Problem → State → ℕ → ℕ → ℕ → Bool
may p s r a b = truth.may (fact p s r a b)

abbrev pub is_unknown : Truth → Bool
is_unknown Unknown = true
is_unknown True = false
is_unknown False = false
is_unknown Error = false

abbrev pub is_error : Truth → Bool
is_error Error = true
is_error True = false
is_error False = false
is_error Unknown = false

abbrev pub is_false : Truth → Bool
is_false False = true
is_false True = false
is_false Unknown = false
is_false Error = false

-- whether an end is less than n; no end is at least every number
abbrev pub is_less : Option ℕ → ℕ → Bool
is_less end n = not (within n end)

-- whether n is at least an end that is finite
abbrev pub reaches : ℕ → Option ℕ → Bool
reaches n None = false
reaches n (Some end) = nat_le end n

-- whether each, and whether some candidate of an object passes a test
abbrev pub each_candidate : Problem → State → ℕ → (ℕ → Bool) → Bool
each_candidate p s o test = all_below (length p.classes) (λ c. not (contains (object_of s o).candidates c) || test c)

abbrev pub any_candidate : Problem → State → ℕ → (ℕ → Bool) → Bool
any_candidate p s o test = some_below (length p.classes) (λ c. contains (object_of s o).candidates c && test c)

-- the classes that pass a test, and those below class k
abbrev pub classes_where : Problem → (ℕ → Bool) → ClassSet
classes_where p test = members_below (length p.classes) test

abbrev pub classes_below : Problem → ℕ → ClassSet
classes_below p k = classes_where p (λ c. is_below p.classes c k)
