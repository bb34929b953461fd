-- When what one reading says carries over to another.
use Rattle.std.specs.Prelude.{◌≡◌, ℕ, ◌<◌, Bool, true, List, length, slice_index}
use Rattle.rf_problem.specs.Parts.{predicate_at}
use Rattle.rf_problem.specs.Reading.{Reading, predicate_true}
use Rattle.rf_problem.specs.declared.problem.Problem.{Problem}

-- along a relation of elements reading b follows from reading a: each atom that holds in a holds in b at related elements, and
-- each present element of a has a related one that is present in b and comes from the same object
pub record Follows (p : Problem) (a b : Reading) (Rel : ℕ → ℕ → Type 0) : Type 0 where
  pub classes : (k x y : ℕ) → k < length p.classes → Rel x y → a.has_class k x ≡ true → b.has_class k y ≡ true
  pub edges : (r x y u v : ℕ) → r < length p.references → Rel x u → Rel y v → a.has_edge r x y ≡ true → b.has_edge r u v ≡ true
  pub sames : (x y u v : ℕ) → Rel x u → Rel y v → a.is_same x y ≡ true → b.is_same u v ≡ true
  pub differs : (x y u v : ℕ) → Rel x u → Rel y v → a.is_different x y ≡ true → b.is_different u v ≡ true
  pub elements : (x : ℕ) → x < a.size → a.present x ≡ true
      → (y : ℕ) × Rel x y × (y < b.size) × (b.present y ≡ true) × (b.origin y ≡ a.origin x)

-- tuples of related elements, as long as this
pub record AreRelated (arity : ℕ) (Rel : ℕ → ℕ → Type 0) (t u : List ℕ) : Type 0 where
  pub left : length t ≡ arity
  pub right : length u ≡ arity
  pub each : (i : ℕ) → i < arity → Rel (slice_index t i) (slice_index u i)

-- what a predicate says in a pair of readings carries over to another pair, where the first reading of that follows from the
-- first of this along a relation, and the second of this, which is that inside negations, from the second of that back along it
abbrev pub CarriesOver : Problem → (ℕ → ℕ → Type 0) → Type 0
CarriesOver p Rel =
    (depth : ℕ) (here inside there within : Reading) → Follows p here there Rel → Follows p within inside (λ x y. Rel y x)
    → (q : ℕ) (t u : List ℕ) → AreRelated (predicate_at p.predicates q).arity Rel t u
    → predicate_true p.predicates depth here inside q t ≡ true → predicate_true p.predicates depth there within q u ≡ true

-- it does so along each relation that a test tells
abbrev pub PredicatesCarryOver : Type 0
PredicatesCarryOver = (p : Problem) (related : ℕ → ℕ → Bool) → CarriesOver p (λ x y. related x y ≡ true)
