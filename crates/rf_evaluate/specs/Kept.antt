-- The walks that were searched, symbol by symbol.
use Rattle.std.specs.Prelude.{◌≡◌, ◌<◌, ℕ, Bool, false, List, length, map, slice_index_or, Vec, Option, None, Some}
use Rattle.std.specs.BTreeMap.{get}
use Rattle.std.specs.declared.alloc.Global.{Global}
use Rattle.rf_finite.specs.Walks.{walk_below}
use Rattle.rf_values.specs.Truth.{may, must, truth_of}
use Rattle.rf_values.specs.declared.truth.Truth.{Truth}
use Rattle.rf_closure.specs.Along.{leads}
use Rattle.std.specs.Option.{is_some}
use Rattle.std.specs.Ordering.{nat_cmp}
use Rattle.rf_problem.specs.Parts.{symbol_cmp}
use Rattle.rf_problem.specs.declared.symbol.Symbol.{Symbol}
use Rattle.rf_evaluate.specs.Known.{Known}
use Rattle.rf_evaluate.specs.Steps.{IsSideOf}
use Rattle.rf_evaluate.specs.declared.closures.Closures.{Closures}
use Rattle.rf_evaluate.specs.declared.closures.Marks.{Marks}
use Rattle.rf_evaluate.specs.declared.closures.Walks.{Walks}
use Rattle.rf_evaluate.specs.declared.steps.Side.{Side}

-- marks tell to which elements walks lead from element x along one side of the steps
abbrev pub AreMarksOf : Side → ℕ → List Bool → Type 0
AreMarksOf side x marks =
    (y : ℕ) → x < length side.successors.items → y < length side.successors.items
    → slice_index_or marks y false
    ≡ walk_below (leads (map (λ list. list.items) side.successors.items)) (λ c. slice_index_or side.through.items c false) (length side.successors.items) x y

-- the other side, where it differs
abbrev pub side_or : Side → Option Side → Side
side_or side None = side
side_or side (Some other) = other

-- the marks on the other side, where they differ
abbrev pub marks_or : List Bool → Option (Vec Bool Global) → List Bool
marks_or marks None = marks
marks_or marks (Some others) = others.items

-- what the marks say of element y
abbrev pub mark_of : Marks → ℕ → Truth
mark_of marks y = truth_of (slice_index_or marks.must.items y false) (slice_index_or (marks_or marks.must.items marks.may) y false)

-- the marks are those of element x, on both sides
pub record AreSearched (must_side : Side) (may_side : Option Side) (x : ℕ) (marks : Marks) : Type 0 where
  pub must_marks : AreMarksOf must_side x marks.must.items
  pub may_marks : AreMarksOf (side_or must_side may_side) x (marks_or marks.must.items marks.may)

-- these are the walks of a symbol's steps, and what was searched of them
pub record AreWalksOf (k : Known) (symbol : Symbol) (walks : Walks) : Type 0 where
  pub must_side : IsSideOf must k symbol k.size walks.must
  pub may_side : IsSideOf may k symbol k.size (side_or walks.must walks.may)
  pub searched : (x : ℕ) (marks : Marks) → get nat_cmp walks.marks x ≡ Some marks → AreSearched walks.must walks.may x marks

-- the walks that were searched are those of what is known
abbrev pub AreKept : Known → Closures → Type 0
AreKept k closures = (symbol : Symbol) (walks : Walks) → get symbol_cmp closures.walks symbol ≡ Some walks → AreWalksOf k symbol walks

-- whether the steps of a symbol are there
abbrev pub has : Closures → Symbol → Bool
has closures symbol = is_some (get symbol_cmp closures.walks symbol)
