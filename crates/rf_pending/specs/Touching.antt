-- Which rows a change touches: those of which it can change what fires in them.
use Rattle.std.specs.Prelude.{◌≡◌, ◌<◌, ◌+◌, ◌*◌, ℕ, Bool, true, false, ◌==◌, ◌&&◌, ◌||◌, Option, None, Some, length}
use Rattle.rf_values.specs.Truth.{may, must}
use Rattle.rf_values.specs.declared.truth.Truth.{Truth}
use Rattle.rf_problem.specs.Parts.{reference_at}
use Rattle.rf_problem.specs.declared.problem.Problem.{Problem}
use Rattle.rf_state.specs.State.{State, fact, object_of}
use Rattle.rf_pending.specs.Rows.{is_marked}
use Rattle.rf_pending.specs.declared.change.Change.{Change}
use Rattle.rf_pending.specs.declared.change.Change.TheVariants.{Fact, Count as CountOf, Candidates, Fresh}
use Rattle.rf_pending.specs.declared.marks.Marks.{Marks}
use Rattle.rf_pending.specs.declared.standing.Standing.{Standing}
use Rattle.rf_pending.specs.declared.standing.Standing.TheVariants.{Must, May}

-- whether an object at the other end of an edge counts for the rules of a row: where the edge has to be there, or where it can
abbrev pub stands : Standing → Truth → Bool
stands Must v = must v
stands May v = may v

-- whether row (r, a) is that of the edge back from b, where q is the opposite
abbrev pub is_back : Option ℕ → ℕ → ℕ → ℕ → Bool
is_back None b r a = false
is_back (Some q) b r a = q == r && b == a

-- whether a change can concern the row of reference r and object a: a fact concerns its own row and that of the edge back, an object's
-- count its own rows and those in which the object stands, candidates and fresh objects concern all
abbrev pub is_near : Problem → State → Standing → Change → ℕ → ℕ → Bool
is_near p t standing (Fact q x y) r a = (q == r && x == a) || is_back (reference_at p.references q).opposite y r a
is_near p t standing (CountOf o) r a = o == a || stands standing (fact p t r a o)
is_near p t standing (Candidates o) r a = true
is_near p t standing (Fresh o) r a = true

-- whether it can concern object x alone
abbrev pub is_at_object : Change → ℕ → Bool
is_at_object (Fact q x y) o = false
is_at_object (CountOf x) o = x == o
is_at_object (Candidates x) o = x == o
is_at_object (Fresh x) o = true

-- of the rows up to so many those that aren't marked weren't before, and pass no test
pub record AreTouched (near : ℕ → Bool) (was marks : Marks) : Type 0 where
  pub size : length marks.rows.items ≡ length was.rows.items
  pub far : (k : ℕ) → k < length marks.rows.items → is_marked marks k ≡ false → (is_marked was k ≡ false) × (near k ≡ false)

-- the same of rows of references and objects
pub record AreEdgesTouched (references objects : ℕ) (near : ℕ → ℕ → Bool) (was marks : Marks) : Type 0 where
  pub size : length marks.rows.items ≡ length was.rows.items
  pub far : (r a : ℕ) → r < references → a < objects → r * objects + a < length marks.rows.items → is_marked marks (r * objects + a) ≡ false
      → (is_marked was (r * objects + a) ≡ false) × (near r a ≡ false)

-- what the rules of row (r, a) ask of a state is the same in another
pub record IsSameRow (p : Problem) (standing : Standing) (r a : ℕ) (s t : State) : Type 0 where
  pub many : length t.objects ≡ length s.objects
  pub from : object_of t a ≡ object_of s a
  pub facts : (b : ℕ) → fact p t r a b ≡ fact p s r a b
  pub added : (b : ℕ) → t.added r a b ≡ s.added r a b
  pub ends : (b : ℕ) → stands standing (fact p s r a b) ≡ true → object_of t b ≡ object_of s b
