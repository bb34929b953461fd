-- What holds of states and of the edits of them.
use Rattle.std.specs.Prelude.{◌≡◌, ◌≢◌, ◌↔◌, ◌<◌, ◌+◌, ℕ, true, Some, List, length}
use Rattle.std.specs.FinSet.{intersection}
use Rattle.rf_values.specs.Count.{less_one, meet}
use Rattle.rf_values.specs.Truth.{may, merge, must}
use Rattle.rf_values.specs.declared.class_set.ClassSet.{ClassSet}
use Rattle.rf_values.specs.declared.count.Count.{Count}
use Rattle.rf_values.specs.declared.truth.Truth.{Truth}
use Rattle.rf_problem.specs.Holds.{HoldsIn}
use Rattle.rf_problem.specs.Parts.{predicate_at, reference_at}
use Rattle.rf_problem.specs.declared.problem.Problem.{Problem}
use Rattle.rf_problem.specs.declared.symbol.Symbol.TheVariants.{Predicate}
use Rattle.rf_evaluate.specs.Known.{side}
use Rattle.rf_state.specs.State.{IsRoot, State, fact, fresh_of, kept_to, merged_at, narrowed, object_of, told}
use Rattle.rf_state.specs.StateKnown.{state_known, value}

-- two states that are the root of one problem are the same
abbrev pub RootIsUnique : Type 0
RootIsUnique = (p : Problem) (s u : State) → IsRoot p s → IsRoot p u → s ≡ u

-- by its value a predicate has to hold exactly where it holds in words by what has to hold of the objects, with what can hold
-- inside negations
abbrev pub MustValueIsInWords : Type 0
MustValueIsInWords =
    (p : Problem) (s : State) (q : ℕ) (t : List ℕ) → length t ≡ (predicate_at p.predicates q).arity
    → HoldsIn p (side must (state_known p s)) (side may (state_known p s)) (Predicate q) t ↔ (must (value p s q t) ≡ true)

-- and it can hold exactly where it holds in words by what can, with what has to hold inside negations
abbrev pub MayValueIsInWords : Type 0
MayValueIsInWords =
    (p : Problem) (s : State) (q : ℕ) (t : List ℕ) → length t ≡ (predicate_at p.predicates q).arity
    → HoldsIn p (side may (state_known p s)) (side must (state_known p s)) (Predicate q) t ↔ (may (value p s q t) ≡ true)

-- what is known of an edge is what is known of the edge back of the opposite
abbrev pub OppositesAreMirrored : Type 0
OppositesAreMirrored =
    (p : Problem) (s : State) (r q a b : ℕ) → (reference_at p.references r).opposite ≡ Some q → fact p s r a b ≡ fact p s q b a

-- what is merged into what was added of an edge is merged into what is known of it
abbrev pub MergeIsAtEdge : Type 0
MergeIsAtEdge =
    (p : Problem) (s : State) (r a b : ℕ) (v : Truth) → fact p (merged_at s r a b v) r a b ≡ merge (fact p s r a b) v

-- and into what is known of the edge back of the opposite
abbrev pub MergeIsAtOpposite : Type 0
MergeIsAtOpposite =
    (p : Problem) (s : State) (r a b : ℕ) (v : Truth) (q : ℕ) → (reference_at p.references r).opposite ≡ Some q
    → fact p (merged_at s r a b v) q b a ≡ merge (fact p s q b a) v

-- no other edge is concerned
abbrev pub MergeIsNowhereElse : Type 0
MergeIsNowhereElse =
    (p : Problem) (s : State) (r a b : ℕ) (v : Truth) (k x y : ℕ)
    → ((k ≡ r) × (x ≡ a) × (y ≡ b) → ⊥)
    → (((reference_at p.references r).opposite ≡ Some k) × (x ≡ b) × (y ≡ a) → ⊥)
    → fact p (merged_at s r a b v) k x y ≡ fact p s k x y

-- and no object is another
abbrev pub MergeKeepsObjects : Type 0
MergeKeepsObjects =
    (s : State) (r a b : ℕ) (v : Truth) → (merged_at s r a b v).objects ≡ s.objects

-- the states have the same objects but for object o, and in them the same was added
pub record AreSameButFor (o : ℕ) (s u : State) : Type 0 where
  pub many : length u.objects ≡ length s.objects
  pub others : (x : ℕ) → x ≢ o → object_of u x ≡ object_of s x
  pub added : (r a b : ℕ) → u.added r a b ≡ s.added r a b

-- a count that is narrowed is met with the other, and nothing else changes: no other object, and no fact
pub record IsCountNarrowed (p : Problem) (s : State) (o : ℕ) (count : Count) (u : State) : Type 0 where
  pub same : AreSameButFor o s u
  pub object : object_of u o ≡ record (object_of s o) { count = meet (object_of s o).count count }
  pub told_facts : (r a b : ℕ) → told p u r a b ≡ told p s r a b
  pub facts : (r a b : ℕ) → fact p u r a b ≡ fact p s r a b

abbrev pub NarrowingIsOfCount : Type 0
NarrowingIsOfCount =
    (p : Problem) (s : State) (o : ℕ) (count : Count) → o < length s.objects → IsCountNarrowed p s o count (narrowed s o count)

-- candidates of an object that are narrowed are those in both sets, and nothing else changes but facts at that object: no other
-- object, and not what is told of a fact
pub record AreCandidatesKept (p : Problem) (s : State) (o : ℕ) (set : ClassSet) (u : State) : Type 0 where
  pub same : AreSameButFor o s u
  pub object : object_of u o ≡ record (object_of s o) { candidates = intersection (object_of s o).candidates set }
  pub told_facts : (r a b : ℕ) → told p u r a b ≡ told p s r a b
  pub facts : (r a b : ℕ) → a ≢ o → b ≢ o → fact p u r a b ≡ fact p s r a b

abbrev pub KeepingIsOfCandidates : Type 0
KeepingIsOfCandidates =
    (p : Problem) (s : State) (o : ℕ) (set : ClassSet) → o < length s.objects → AreCandidatesKept p s o set (kept_to s o set)

-- there is a fresh object of o, which takes one node from it, and what is known of the edges of o is known of its edges, in each
-- combination of the two; the others, and what is known of old objects, stay as they were
pub record IsFresh (p : Problem) (s : State) (o : ℕ) (u : State) : Type 0 where
  pub many : length u.objects ≡ length s.objects + 1
  pub fresh : object_of u (length s.objects) ≡ record (object_of s o) { count = record { lo = 1; hi = Some 1 } }
  pub own : object_of u o ≡ record (object_of s o) { count = less_one (object_of s o).count }
  pub others : (x : ℕ) → x < length s.objects → x ≢ o → object_of u x ≡ object_of s x
  pub added_from : (r b : ℕ) → b < length s.objects → u.added r (length s.objects) b ≡ s.added r o b
  pub added_to : (r a : ℕ) → a < length s.objects → u.added r a (length s.objects) ≡ s.added r a o
  pub added_within : (r : ℕ) → u.added r (length s.objects) (length s.objects) ≡ s.added r o o
  pub facts : (r a b : ℕ) → a < length s.objects → b < length s.objects → fact p u r a b ≡ fact p s r a b
  pub facts_from : (r b : ℕ) → b < length s.objects → fact p u r (length s.objects) b ≡ fact p s r o b
  pub facts_to : (r a : ℕ) → a < length s.objects → fact p u r a (length s.objects) ≡ fact p s r a o
  pub facts_within : (r : ℕ) → fact p u r (length s.objects) (length s.objects) ≡ fact p s r o o

abbrev pub FreshIsOneNode : Type 0
FreshIsOneNode = (p : Problem) (s : State) (o : ℕ) → o < length s.objects → IsFresh p s o (fresh_of s o)
