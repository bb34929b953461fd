-- What edits of a state change of what is known of objects and edges.
use Rattle.std.specs.Prelude.{◌≡◌, ◌<◌, ◌⊎◌, ℕ, Bool, true, false, ◌==◌, if◌then◌else◌, Option, None, Some, List, [], ◌∷◌, ◌++◌, Contains}
use Rattle.rf_problem.specs.Parts.{reference_at}
use Rattle.rf_problem.specs.declared.problem.Problem.{Problem}
use Rattle.rf_problem.specs.declared.symbol.Symbol.TheVariants.{Class, Reference}
use Rattle.rf_evaluate.specs.Known.{Known}
use Rattle.rf_renewal.specs.Changes.{Changes}
use Rattle.rf_renewal.specs.Patterns.{Pattern, match_some}

-- whether a reference is the opposite
abbrev pub is_opposite : Option ℕ → ℕ → Bool
is_opposite None q = false
is_opposite (Some k) q = k == q

-- a merge into the edge of reference r from object a to object b concerns it and the edge back of the opposite: these
-- are the pairs at which it concerns reference q
abbrev pub merged_pairs : Problem → ℕ → ℕ → ℕ → ℕ → List Pattern
merged_pairs p r a b q =
    (if r == q then (Some a ∷ Some b ∷ []) ∷ [] else [])
    ++ (if is_opposite (reference_at p.references r).opposite q then (Some b ∷ Some a ∷ []) ∷ [] else [])

-- the changes have these pairs
abbrev pub HasMerged : Problem → ℕ → ℕ → ℕ → Changes → Type 0
HasMerged p r a b changes =
    (q : ℕ) (pattern : Pattern) → Contains (merged_pairs p r a b q) pattern
    → Contains (changes.tuples (Reference q)) pattern

-- the changes have what is known otherwise of how often object o is there
pub record HasCount (was now : Known) (o : ℕ) (changes : Changes) : Type 0 where
  pub presence : (now.presence o ≡ was.presence o) ⊎ Contains changes.presences o
  pub same : (now.same o o ≡ was.same o o) ⊎ (match_some changes.sames (o ∷ o ∷ []) ≡ true)
  pub different : (now.different o o ≡ was.different o o) ⊎ (match_some changes.differences (o ∷ o ∷ []) ≡ true)

-- the changes have what is known otherwise of the classes and edges of object o
pub record HasCandidates (was now : Known) (o : ℕ) (changes : Changes) : Type 0 where
  pub classes : (c : ℕ) → (now.class c o ≡ was.class c o) ⊎ (match_some (changes.tuples (Class c)) (o ∷ []) ≡ true)
  pub edges_from : (r y : ℕ) → y < was.size
      → (now.edge r o y ≡ was.edge r o y) ⊎ (match_some (changes.tuples (Reference r)) (o ∷ y ∷ []) ≡ true)
  pub edges_to : (r x : ℕ) → x < was.size
      → (now.edge r x o ≡ was.edge r x o) ⊎ (match_some (changes.tuples (Reference r)) (x ∷ o ∷ []) ≡ true)
