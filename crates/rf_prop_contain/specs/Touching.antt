-- Private: no public contract cites this.
-- What a change concerns. The rules of containment ask for edges that have to be there, or for objects that have few possible
-- containers; a change that leaves these as they were makes no rule fire.
use Rattle.std.specs.Prelude.{ℕ, Bool, true, false, ◌==◌, ◌&&◌, ◌||◌, not, nat_le, Option, None, Some, length}
use Rattle.rf_finite.specs.Ends.{within}
use Rattle.rf_finite.specs.Range.{some_below}
use Rattle.rf_problem.specs.Contained.{is_containing}
use Rattle.rf_problem.specs.Parts.{reference_at}
use Rattle.rf_problem.specs.declared.problem.Problem.{Problem}
use Rattle.rf_state.specs.State.{State, fact}
use Rattle.rf_rules.specs.Containment.{is_only_possible, must_hold}
use Rattle.rf_rules.specs.Words.{hi, lo, must}
use Rattle.rf_pending.specs.Touching.{is_near, stands}
use Rattle.rf_pending.specs.declared.change.Change.{Change}
use Rattle.rf_pending.specs.declared.change.Change.TheVariants.{Fact, Count as CountOf, Candidates, Fresh}
use Rattle.rf_pending.specs.declared.standing.Standing.{Standing}
use Rattle.rf_pending.specs.declared.standing.Standing.TheVariants.{May, Must}

-- whether there is a reference, and it contains
abbrev pub does_contain : Problem → Option ℕ → Bool
does_contain p None = false
does_contain p (Some q) = is_containing p q

-- whether the opposite of a reference contains
abbrev pub contains_back : Problem → ℕ → Bool
contains_back p r = does_contain p (reference_at p.references r).opposite

-- whether a reference contains, or its opposite does
abbrev pub contains_either : Problem → ℕ → Bool
contains_either p r = is_containing p r || contains_back p r

-- whether x can contain y, or has to, and whether x has to contain something
abbrev pub does_hold : Problem → State → Standing → ℕ → ℕ → Bool
does_hold p s standing x y = some_below (length p.references) (λ q. is_containing p q && stands standing (fact p s q x y))

abbrev pub must_hold_some : Problem → State → ℕ → Bool
must_hold_some p s x = some_below (length s.objects) (must_hold p s x)

-- whether a change can concern the possible containers of object b, or what else the rules ask for of b: a fact of a reference that
-- contains concerns the object at its end; a count its own object, and those that it could contain and no longer can; candidates all
abbrev pub concerns : Problem → State → Change → ℕ → Bool
concerns p t (Fact q x y) b = (is_containing p q && y == b) || (contains_back p q && x == b)
concerns p t (CountOf o) b = o == b || (not (within 1 (hi t o)) && does_hold p t May o b)
concerns p t (Candidates o) b = true
concerns p t (Fresh o) b = true

-- whether (r, a) is the only possible container of one of the first objects that it concerns
abbrev pub is_sole_of : Problem → State → Change → ℕ → ℕ → ℕ → Bool
is_sole_of p t change many r a = some_below many (λ b. concerns p t change b && is_only_possible p t r a b)

-- whether b is one of the first objects that it concerns
abbrev pub is_concerned : Problem → State → Change → ℕ → ℕ → Bool
is_concerned p t change many b = some_below many (λ x. concerns p t change x && x == b)

-- whether it changes the count of the object at the start of a row; of a fresh object these three aren't asked
abbrev pub is_from : Change → ℕ → Bool
is_from (Fact q x y) a = false
is_from (CountOf o) a = o == a
is_from (Candidates o) a = false
is_from (Fresh o) a = false

-- whether it can concern what has to be of row (r, a), where r contains: candidates don't
abbrev pub is_near_held : Problem → State → Change → ℕ → ℕ → Bool
is_near_held p t (Fact q x y) r a = contains_either p q && is_near p t Must (Fact q x y) r a
is_near_held p t (CountOf o) r a = is_near p t Must (CountOf o) r a
is_near_held p t (Candidates o) r a = false
is_near_held p t (Fresh o) r a = false

-- whether there can be new walks of containment: after an edge of one that has to be there, or where an object that has to contain
-- something has a node
abbrev pub renews_walks : Problem → State → Change → Bool
renews_walks p t (Fact q x y) = contains_either p q && must p t q x y
renews_walks p t (CountOf o) = nat_le 1 (lo t o) && must_hold_some p t o
renews_walks p t (Candidates o) = false
renews_walks p t (Fresh o) = false
