-- Private: no public contract cites this.
-- The objects that assertions and added facts name together as the ends of edges.
use Rattle.std.specs.Prelude.{◌≡◌, ◌&&◌, ◌||◌, ◌<◌, nat_eq, ℕ, false, Option, None, Some, List, [], ◌∷◌, length, slice_index_or, vec_len}
use Rattle.std.specs.List.{list_any}
use Rattle.std.specs.Option.{option_eq}
use Rattle.rf_values.specs.Truth.{merge}
use Rattle.rf_values.specs.declared.truth.Truth.{Truth}
use Rattle.rf_values.specs.declared.truth.Truth.TheVariants.{Unknown}
use Rattle.rf_problem.specs.Asserted.{asserted}
use Rattle.rf_problem.specs.Parts.{reference_at}
use Rattle.rf_problem.specs.Spoken.{is_at as speaks_at}
use Rattle.rf_problem.specs.declared.assertion.Assertion.{Assertion}
use Rattle.rf_problem.specs.declared.problem.Problem.{Problem}
use Rattle.rf_problem.specs.declared.symbol.Symbol.TheVariants.{Reference}
use Rattle.rf_state.specs.Added.{Added, added_at}
use Rattle.rf_state.specs.Lists.{is_end, is_listed}
use Rattle.rf_state.specs.State.{is_at, no_object}
use Rattle.rf_state.specs.declared.named_ends.NamedEnds.{NamedEnds}
use Rattle.rf_state.specs.declared.object.Object.{Object}

-- each of these ends that is an object is listed for the other, beside those that were
pub record IsNamedToo (old : NamedEnds) (r : ℕ) (x y : Option ℕ) (new : NamedEnds) : Type 0 where
  pub from : (q : ℕ) (u : Option ℕ) (c : ℕ) → is_listed new.from q u c ≡ (is_listed old.from q u c || (is_end (r, x) (q, u) && option_eq nat_eq y (Some c)))
  pub into : (q : ℕ) (v : Option ℕ) (c : ℕ) → is_listed new.into q v c ≡ (is_listed old.into q v c || (is_end (r, y) (q, v) && option_eq nat_eq x (Some c)))

-- what was listed still is
pub record IsGrown (old new : NamedEnds) : Type 0 where
  pub from : (q : ℕ) (u : Option ℕ) (c : ℕ) → is_listed new.from q u c ≡ false → is_listed old.from q u c ≡ false
  pub into : (q : ℕ) (v : Option ℕ) (c : ℕ) → is_listed new.into q v c ≡ false → is_listed old.into q v c ≡ false

-- ends u and v of reference q aren't x and y of reference r, nor y and x of its opposite
pub record AreOthers (p : Problem) (r : ℕ) (x y : Option ℕ) (q : ℕ) (u v : Option ℕ) : Type 0 where
  pub there : q ≡ r → u ≡ x → v ≡ y → ⊥
  pub back : (reference_at p.references r).opposite ≡ Some q → u ≡ y → v ≡ x → ⊥

-- so that what isn't listed wasn't, and isn't these, whichever way round
pub record IsEdgeNamed (p : Problem) (old : NamedEnds) (r : ℕ) (x y : Option ℕ) (new : NamedEnds) : Type 0 where
  pub from : (q : ℕ) (u : Option ℕ) (c : ℕ) → is_listed new.from q u c ≡ false
      → (is_listed old.from q u c ≡ false) × AreOthers p r x y q u (Some c)
  pub into : (q : ℕ) (v : Option ℕ) (c : ℕ) → is_listed new.into q v c ≡ false
      → (is_listed old.into q v c ≡ false) × AreOthers p r x y q (Some c) v

-- none of these assertions speaks of just these ends, of which each is an object or `*`, whichever way round
pub record AreUnstated (p : Problem) (assertions : List Assertion) (r : ℕ) (x y : Option ℕ) : Type 0 where
  pub there : list_any (speaks_at (Reference r) (x ∷ y ∷ [])) assertions ≡ false
  pub back : (q : ℕ) → (reference_at p.references r).opposite ≡ Some q → list_any (speaks_at (Reference q) (y ∷ x ∷ [])) assertions ≡ false

-- of ends that aren't listed no assertion speaks
pub record AreStated (p : Problem) (assertions : List Assertion) (named : NamedEnds) : Type 0 where
  pub from : (r : ℕ) (x : Option ℕ) (b : ℕ) → is_listed named.from r x b ≡ false → AreUnstated p assertions r x (Some b)
  pub into : (r : ℕ) (y : Option ℕ) (a : ℕ) → is_listed named.into r y a ≡ false → AreUnstated p assertions r (Some a) y

-- nothing was added of an edge, whichever way round
pub record IsUnadded (p : Problem) (added : Added) (r a b : ℕ) : Type 0 where
  pub there : added_at added r a b ≡ Unknown
  pub back : (q : ℕ) → (reference_at p.references r).opposite ≡ Some q → added_at added q b a ≡ Unknown

-- of ends that aren't listed nothing was added
pub record AreAdded (p : Problem) (added : Added) (named : NamedEnds) : Type 0 where
  pub from : (r a b : ℕ) → is_listed named.from r (Some a) b ≡ false → IsUnadded p added r a b
  pub into : (r a b : ℕ) → is_listed named.into r (Some b) a ≡ false → IsUnadded p added r a b

-- the maps have the same but at one edge
abbrev pub AreSameBut : ℕ → ℕ → ℕ → Added → Added → Type 0
AreSameBut r a b old new = (q x y : ℕ) → is_at r a b q x y ≡ false → added_at new q x y ≡ added_at old q x y

-- the objects are the problem's, each of its own number, and all that assertions or added facts name together is listed
pub record IsIndex (p : Problem) (objects : List Object) (added : Added) (named : NamedEnds) : Type 0 where
  pub many : length objects ≡ length p.objects
  pub numbers : vec_len named.numbers ≡ length p.objects
  pub origins : (o : ℕ) → o < length objects → (slice_index_or objects o no_object).origin ≡ o
  pub stated : AreStated p p.assertions named
  pub added_too : AreAdded p added named

-- what is asserted of the edge back of the opposite
abbrev pub asserted_back : Problem → Option ℕ → ℕ → ℕ → Truth
asserted_back p None a b = Unknown
asserted_back p (Some q) a b = asserted p (Reference q) (b ∷ a ∷ [])

-- what is asserted of an edge and of the edge back
abbrev pub asserted_both : Problem → ℕ → ℕ → ℕ → Truth
asserted_both p r a b = merge (asserted p (Reference r) (a ∷ b ∷ [])) (asserted_back p (reference_at p.references r).opposite a b)
