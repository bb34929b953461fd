-- What holds of values that are kept over an edit.
use Rattle.std.specs.Prelude.{◌≡◌, ◌<◌, ℕ, Bool, true, false, List, length, slice_index}
use Rattle.rf_finite.specs.Tuples.{IsTuple}
use Rattle.rf_values.specs.declared.class_set.ClassSet.{ClassSet}
use Rattle.rf_values.specs.declared.count.Count.{Count}
use Rattle.rf_values.specs.declared.truth.Truth.{Truth}
use Rattle.rf_problem.specs.Parts.{predicate_at}
use Rattle.rf_problem.specs.Valid.{has_steps}
use Rattle.rf_problem.specs.declared.problem.Problem.{Problem}
use Rattle.rf_problem.specs.declared.symbol.Symbol.{Symbol}
use Rattle.rf_problem.specs.declared.symbol.Symbol.TheVariants.{Predicate}
use Rattle.rf_evaluate.specs.Known.{Known, value_of, walk_of}
use Rattle.rf_state.specs.State.{State, fresh_of, kept_to, merged_at, narrowed}
use Rattle.rf_state.specs.StateKnown.{state_known}
use Rattle.rf_renewal.specs.Changes.{Changes, may_change, row_may_change}
use Rattle.rf_renewal.specs.Comparing.{IsIn, nothing_done, with_predicate, with_walks}
use Rattle.rf_renewal.specs.Covered.{Cover, CoverFacts, Done, IsValueCovered, IsWalkCovered, is_ready, steps_ready}
use Rattle.rf_renewal.specs.Edits.{HasCandidates, HasCount, HasMerged}
use Rattle.rf_renewal.specs.Grown.{HasFresh, grown, renewed_over_fresh}
use Rattle.rf_renewal.specs.Resting.{AreResting, walks_rest}
use Rattle.rf_renewal.specs.Table.{IsAllReady, IsRight, Table, renewed}

-- a predicate says the same at tuples that have the same elements for its parameters, whatever comes after them
abbrev pub ParametersAreEnough : Type 0
ParametersAreEnough =
    (k : Known) (q : ℕ) (t u : List ℕ)
    → ((i : ℕ) → i < (predicate_at k.problem.predicates q).arity → slice_index t i ≡ slice_index u i)
    → value_of k (Predicate q) t ≡ value_of k (Predicate q) u

-- where the changes cover what is known otherwise, a predicate whose clauses ask for nothing but what was compared
-- says the same as before at each tuple that the filter leaves out
abbrev pub ValuesStay : Type 0
ValuesStay =
    (was now : Known) (changes : Changes) (done : Done) → Cover was now changes done
    → (q : ℕ) (t : List ℕ) → is_ready was.problem done q ≡ true
    → IsTuple was.size (predicate_at was.problem.predicates q).arity t
    → may_change was changes q t ≡ false
    → value_of now (Predicate q) t ≡ value_of was (Predicate q) t

-- and walks from an element that the filter leaves out lead to the same elements
abbrev pub WalksStay : Type 0
WalksStay =
    (was now : Known) (changes : Changes) (done : Done) → Cover was now changes done
    → (symbol : Symbol) (x y : ℕ) → steps_ready done symbol ≡ true
    → has_steps was.problem.predicates symbol ≡ true → x < was.size → y < was.size
    → row_may_change was changes symbol x ≡ false
    → walk_of now symbol x y ≡ walk_of was symbol x y

-- at first nothing was compared
abbrev pub FactsCoverNothingDone : Type 0
FactsCoverNothingDone =
    (was now : Known) (changes : Changes) → CoverFacts was now changes → Cover was now changes nothing_done

-- the values of a predicate that is ready are compared where the filter lets them through, and those that differ go
-- into the changes
abbrev pub PredicateIsCovered : Type 0
PredicateIsCovered =
    (was now : Known) (changes more : Changes) (done : Done) (q : ℕ) → Cover was now changes done → IsIn changes more
    → is_ready was.problem done q ≡ true
    → ((t : List ℕ) → IsTuple was.size (predicate_at was.problem.predicates q).arity t
    → may_change was changes q t ≡ true
    → IsValueCovered was now more q t)
    → Cover was now more (with_predicate done q)

-- and so the walks of a symbol
abbrev pub SymbolIsCovered : Type 0
SymbolIsCovered =
    (was now : Known) (changes more : Changes) (done : Done) (symbol : Symbol) → Cover was now changes done
    → IsIn changes more
    → steps_ready done symbol ≡ true
    → ((x y : ℕ) → has_steps was.problem.predicates symbol ≡ true → x < was.size → y < was.size
    → row_may_change was changes symbol x ≡ true
    → IsWalkCovered was now more symbol x y)
    → Cover was now more (with_walks done symbol)

-- so a table that was right is right again once what the filters let through is taken anew
abbrev pub RenewedIsRight : Type 0
RenewedIsRight =
    (was now : Known) (changes : Changes) (done : Done) (table : Table) → Cover was now changes done
    → IsAllReady was.problem done
    → IsRight was table → IsRight now (renewed was now changes table)

-- after a merge the changes cover what is known of objects and edges where they have the pairs that it concerns
abbrev pub EdgeIsCovered : Type 0
EdgeIsCovered =
    (p : Problem) (s : State) (r a b : ℕ) (v : Truth) (changes : Changes) → HasMerged p r a b changes
    → CoverFacts (state_known p s) (state_known p (merged_at s r a b v)) changes

-- after an object's count is narrowed they do where they have what is known otherwise of how often it is there
abbrev pub CountIsCovered : Type 0
CountIsCovered =
    (p : Problem) (s : State) (o : ℕ) (count : Count) (changes : Changes) → o < length s.objects
    → HasCount (state_known p s) (state_known p (narrowed s o count)) o changes
    → CoverFacts (state_known p s) (state_known p (narrowed s o count)) changes

-- after its candidates are narrowed they do where they have what is known otherwise of its classes and its edges
abbrev pub CandidatesAreCovered : Type 0
CandidatesAreCovered =
    (p : Problem) (s : State) (o : ℕ) (set : ClassSet) (changes : Changes) → o < length s.objects
    → HasCandidates (state_known p s) (state_known p (kept_to s o set)) o changes
    → CoverFacts (state_known p s) (state_known p (kept_to s o set)) changes

-- an element more that isn't present changes nothing of what predicates say at the others
abbrev pub GrownSaysTheSame : Type 0
GrownSaysTheSame =
    (k : Known) (o q : ℕ) (t : List ℕ) → IsTuple k.size (predicate_at k.problem.predicates q).arity t
    → value_of (grown k o) (Predicate q) t ≡ value_of k (Predicate q) t

-- nor of where walks lead
abbrev pub GrownLeadsTheSame : Type 0
GrownLeadsTheSame =
    (k : Known) (o : ℕ) (symbol : Symbol) (x y : ℕ) → has_steps k.problem.predicates symbol ≡ true → x < k.size
    → y < k.size
    → walk_of (grown k o) symbol x y ≡ walk_of k symbol x y

-- so a fresh object is an element more, of which the changes then have all
abbrev pub FreshIsCovered : Type 0
FreshIsCovered =
    (p : Problem) (s : State) (o : ℕ) (changes : Changes) → o < length s.objects
    → HasFresh (state_known p s) (state_known p (fresh_of s o)) o changes
    → CoverFacts (grown (state_known p s) o) (state_known p (fresh_of s o)) changes

-- and a table that was right is right again
abbrev pub RenewedOverFreshIsRight : Type 0
RenewedOverFreshIsRight =
    (was now : Known) (o : ℕ) (changes : Changes) (done : Done) (table : Table) → Cover (grown was o) now changes done
    → IsAllReady was.problem done → IsRight was table
    → IsRight now (renewed_over_fresh was o now changes table)

-- where the changes cover what is known of elements and edges alone, each predicate says the same as before that
-- isn't among those which rest on what changed
abbrev pub UnrelatedValuesStay : Type 0
UnrelatedValuesStay =
    (was now : Known) (changes : Changes) (resting : ℕ → Bool) → CoverFacts was now changes
    → AreResting was.problem was.origin changes resting
    → (q : ℕ) (t : List ℕ) → IsTuple was.size (predicate_at was.problem.predicates q).arity t → resting q ≡ false
    → value_of now (Predicate q) t ≡ value_of was (Predicate q) t

-- and walks lead to the same elements that don't rest on it
abbrev pub UnrelatedWalksStay : Type 0
UnrelatedWalksStay =
    (was now : Known) (changes : Changes) (resting : ℕ → Bool) → CoverFacts was now changes
    → AreResting was.problem was.origin changes resting
    → (symbol : Symbol) (x y : ℕ) → has_steps was.problem.predicates symbol ≡ true → x < was.size → y < was.size
    → walks_rest changes resting symbol ≡ false
    → walk_of now symbol x y ≡ walk_of was symbol x y
