-- How much of a state can still be narrowed: a number that falls with each rule that narrows it.
use Rattle.std.specs.Prelude.{ℕ, zero, suc, ◌+◌, ◌-◌, Option, Some, None, length}
use Rattle.std.specs.FinSet.{len}
use Rattle.std.specs.List.{sum_by}
use Rattle.rf_bounds.specs.declared.TheConstants.{GREATEST_NUMBER}
use Rattle.rf_values.specs.declared.truth.Truth.{Truth}
use Rattle.rf_values.specs.declared.truth.Truth.TheVariants.{True, False, Unknown, Error}
use Rattle.rf_problem.specs.declared.problem.Problem.{Problem}
use Rattle.rf_state.specs.State.{State}
use Rattle.rf_state.specs.declared.object.Object.{Object}

-- the sum of f over the numbers below n
abbrev pub total_below : ℕ → (ℕ → ℕ) → ℕ
total_below zero f = 0
total_below (suc n) f = total_below n f + f n

-- of an upper end: how often it can fall, where no end counts as one more than the greatest number of a problem text
abbrev pub end_rank : Option ℕ → ℕ
end_rank None = GREATEST_NUMBER + 1
end_rank (Some e) = e

-- of an object: its upper end, how often its lower end can rise, and how many candidates it has
abbrev pub object_rank : Object → ℕ
object_rank x = end_rank x.count.hi + ((GREATEST_NUMBER - x.count.lo) + len x.candidates)

-- of what was added of a fact: how often it can change by a merge
abbrev pub truth_rank : Truth → ℕ
truth_rank Unknown = 2
truth_rank True = 1
truth_rank False = 1
truth_rank Error = 0

-- of what was added of all facts between so many objects, and of a state
abbrev pub facts_rank : ℕ → ℕ → (ℕ → ℕ → ℕ → Truth) → ℕ
facts_rank references objects added =
    total_below references (λ r. total_below objects (λ a. total_below objects (λ b. truth_rank (added r a b))))

abbrev pub rank : Problem → State → ℕ
rank p s = sum_by object_rank s.objects + facts_rank (length p.references) (length s.objects) s.added
