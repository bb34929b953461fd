-- Private: no public contract cites this.
-- The decisions whose other side is untried, and what a search knows of the places that these stand for.
use Rattle.std.specs.Prelude.{◌≡◌, ℕ, ◌+◌, ◌≤◌, true, not, None, List, [], ◌∷◌, length, take, slice_index_or}
use Rattle.rf_values.specs.declared.truth.Truth.TheVariants.{Unknown}
use Rattle.rf_problem.specs.declared.problem.Problem.{Problem}
use Rattle.rf_state.specs.State.{State}
use Rattle.rf_rules.specs.Decisions.{allowed, side}
use Rattle.rf_decide.specs.Counted.{IsCounted}
use Rattle.rf_tree.specs.Pending.{decisions_in}
use Rattle.rf_tree.specs.declared.line.Line.{Line}
use Rattle.rf_search.specs.Course.{Leads, Place, root_place}
use Rattle.rf_search.specs.Least.{IsLeast}
use Rattle.rf_search.specs.declared.untried.Untried.{Untried}

-- what stands where no state is kept
abbrev pub no_state : State
no_state = record { objects = []; added = λ r a b. Unknown }

abbrev pub kept_at : List State → ℕ → State
kept_at kept version = slice_index_or kept version no_state

-- the place of the other side of a decision that was taken in a kept state
abbrev pub untried_place : Problem → List State → Untried → Place
untried_place p kept u = record { state = side p (kept_at kept u.version) u.decision (not u.first); way = take (u.version + 1) kept }

-- the places of the other sides, the latest first, and after them these
abbrev pub untried_places : Problem → List State → List Untried → List Place → List Place
untried_places p kept [] places = places
untried_places p kept (u ∷ us) places = untried_places p kept us (untried_place p kept u ∷ places)

-- the decision can be gone back to: where it was taken no rule fires, it is allowed there, and what was counted there is right
pub record CanGoBack (p : Problem) (kept : List State) (u : Untried) : Type 0 where
  pub least : IsLeast p (kept_at kept u.version) None
  pub ok : allowed p (kept_at kept u.version) u.decision ≡ true
  pub counted : IsCounted p (kept_at kept u.version) u.counted

-- the versions rise, from `low` on and below `end`, and each decision can be gone back to
abbrev pub AreUntried : Problem → List State → ℕ → List Untried → ℕ → Type 0
AreUntried p kept low [] end = low ≤ end
AreUntried p kept low (u ∷ us) end = (low ≤ u.version) × CanGoBack p kept u × AreUntried p kept (u.version + 1) us end

-- what a search knows between two rounds: how many decisions it made, and that the lines lead to the place where it stands and to
-- the untried ones
pub record IsSearching (p : Problem) (seed budget : ℕ) (root : State) (made : ℕ) (lines : List Line) (s : State) (kept : List State)
    (untried : List Untried) : Type 0 where
  pub count : made ≡ decisions_in lines
  pub few : made ≤ budget
  pub stack : AreUntried p kept 0 untried (length kept)
  pub leads : Leads p seed 0 lines (root_place root ∷ []) (record { state = s; way = kept } ∷ untried_places p kept untried [])

-- the root is the first of the kept states
abbrev pub IsRooted : State → List State → Type 0
IsRooted root kept = (rest : List State) × (kept ≡ root ∷ rest)
