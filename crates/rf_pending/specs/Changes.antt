-- What is changed between two states, one edit later.
use Rattle.std.specs.Prelude.{◌≡◌, ◌<◌, Bool, true, false, length}
use Rattle.rf_values.specs.declared.class_set.ClassSet.{ClassSet}
use Rattle.rf_values.specs.declared.count.Count.{Count}
use Rattle.rf_values.specs.declared.truth.Truth.{Truth}
use Rattle.rf_problem.specs.declared.problem.Problem.{Problem}
use Rattle.rf_state.specs.State.{State, fresh_of, kept_to, merged_at, narrowed}
use Rattle.rf_pending.specs.declared.change.Change.{Change}
use Rattle.rf_pending.specs.declared.change.Change.TheVariants.{Fact, Count as CountOf, Candidates, Fresh}

-- t is s where some truth was merged into that fact, that object's count met with some count, its candidates with some set, or where
-- it has a fresh object
abbrev pub IsChange : Change → State → State → Type 0
IsChange (Fact r a b) s t = (v : Truth) × (t ≡ merged_at s r a b v)
IsChange (CountOf o) s t = (count : Count) × (t ≡ narrowed s o count)
IsChange (Candidates o) s t = (set : ClassSet) × (t ≡ kept_to s o set)
IsChange (Fresh o) s t = t ≡ fresh_of s o

-- what is changed is there
abbrev pub FitsChange : Problem → State → Change → Type 0
FitsChange p t (Fact r a b) = (r < length p.references) × (a < length t.objects) × (b < length t.objects)
FitsChange p t (CountOf o) = o < length t.objects
FitsChange p t (Candidates o) = o < length t.objects
FitsChange p t (Fresh o) = o < length t.objects

-- whether there is an object more
abbrev pub is_fresh : Change → Bool
is_fresh (Fact r a b) = false
is_fresh (CountOf o) = false
is_fresh (Candidates o) = false
is_fresh (Fresh o) = true
