-- One element more.
use Rattle.std.specs.Prelude.{◌≡◌, ℕ, suc, true, ◌==◌, ◌||◌, if◌then◌else◌, [], ◌∷◌, Contains}
use Rattle.std.specs.List.{list_any}
use Rattle.rf_values.specs.declared.truth.Truth.TheVariants.{False}
use Rattle.rf_problem.specs.declared.symbol.Symbol.TheVariants.{Class, Reference, Predicate}
use Rattle.rf_evaluate.specs.Known.{Known, value_of, walk_of}
use Rattle.rf_renewal.specs.Changes.{Changes, may_change, row_may_change}
use Rattle.rf_renewal.specs.Edits.{HasCount}
use Rattle.rf_renewal.specs.Patterns.{match_some}
use Rattle.rf_renewal.specs.Table.{Table}

-- the same with one element more, which isn't present, and comes from the object that element o comes from
abbrev pub grown : Known → ℕ → Known
grown k o = record k {
  size = suc k.size;
  origin = λ x. if x == k.size then k.origin o else k.origin x;
  presence = λ x. if x == k.size then False else k.presence x;
}

-- the changes have all of the element that is new, and what is known otherwise of how often object o is there
pub record HasFresh (was now : Known) (o : ℕ) (changes : Changes) : Type 0 where
  pub count : HasCount was now o changes
  pub presence : Contains changes.presences was.size
  pub classes : (c : ℕ) → match_some (changes.tuples (Class c)) (was.size ∷ []) ≡ true
  pub edges_from : (r y : ℕ) → match_some (changes.tuples (Reference r)) (was.size ∷ y ∷ []) ≡ true
  pub edges_to : (r x : ℕ) → match_some (changes.tuples (Reference r)) (x ∷ was.size ∷ []) ≡ true
  pub same : match_some changes.sames (was.size ∷ was.size ∷ []) ≡ true
  pub different : match_some changes.differences (was.size ∷ was.size ∷ []) ≡ true

-- a table with the truths at the new element, and those that the filters let through, taken anew
abbrev pub renewed_over_fresh : Known → ℕ → Known → Changes → Table → Table
renewed_over_fresh was o now changes table = record {
  values = λ q t. if list_any (λ x. x == was.size) t || may_change (grown was o) changes q t
      then value_of now (Predicate q) t else table.values q t;
  walks = λ symbol x y. if x == was.size || (y == was.size || row_may_change (grown was o) changes symbol x)
      then walk_of now symbol x y else table.walks symbol x y;
}
