-- How much of a state is settled for good: no effect and no decision takes any of it away, and each decision adds
-- to it.
use Rattle.std.specs.Prelude.{◌≡◌, ℕ, ◌+◌, ◌-◌, ◌≤◌, ◌<◌, Bool, true, not, ◌&&◌, nat_le, length}
use Rattle.std.specs.FinSet.{contains}
use Rattle.rf_finite.specs.Ends.{within}
use Rattle.rf_finite.specs.Range.{count_below, sum_below}
use Rattle.rf_values.specs.declared.truth.Truth.{Truth}
use Rattle.rf_problem.specs.Classes.{is_concrete}
use Rattle.rf_problem.specs.declared.problem.Problem.{Problem}
use Rattle.rf_state.specs.State.{State, fact, object_of}
use Rattle.rf_rules.specs.Words.{hi, is_unknown, lo}

-- an object has at least one node and at most one: it is single, or a closing fires
abbrev pub is_tight : State → ℕ → Bool
is_tight s o = nat_le 1 (lo s o) && not (within 2 (hi s o))

-- an object has no node, or a closing fires
abbrev pub is_ended : State → ℕ → Bool
is_ended s o = not (within 1 (hi s o))

abbrev pub is_known : Truth → Bool
is_known v = not (is_unknown v)

-- whether c is a class that nodes may have, and those of this object can't
abbrev pub is_lost : Problem → State → ℕ → ℕ → Bool
is_lost p s o c = is_concrete p.classes c && not (contains (object_of s o).candidates c)

-- whether object b is tight, and it is known whether an edge leads to it from a
abbrev pub is_settled_to : Problem → State → ℕ → ℕ → ℕ → Bool
is_settled_to p s r a b = is_tight s b && is_known (fact p s r a b)

-- how many objects are tight
abbrev pub tights : State → ℕ
tights s = count_below (length s.objects) (is_tight s)

-- how many objects decisions made; how many of the problem's are ended; the classes that tight objects lost; the
-- edges, of one reference and of all, that are known between tight objects
abbrev pub made : Problem → State → ℕ
made p s = length s.objects - length p.objects

abbrev pub ended : Problem → State → ℕ
ended p s = count_below (length p.objects) (is_ended s)

abbrev pub lost : Problem → State → ℕ
lost p s = sum_below (length s.objects) (is_tight s) (λ o. count_below (length p.classes) (is_lost p s o))

abbrev pub known_of : Problem → State → ℕ → ℕ
known_of p s r = sum_below (length s.objects) (is_tight s) (λ a. count_below (length s.objects) (is_settled_to p s r a))

abbrev pub known : Problem → State → ℕ
known p s = sum_below (length p.references) (λ r. true) (known_of p s)

-- all of it
abbrev pub settled : Problem → State → ℕ
settled p s = made p s + (ended p s + (lost p s + known p s))

-- what is left of a depth
abbrev pub left_of : ℕ → Problem → State → ℕ
left_of d p s = d - settled p s

-- the sum of the lower ends
abbrev pub lows : State → ℕ
lows s = sum_below (length s.objects) (λ o. true) (lo s)

-- what the states of a tree keep: the objects of the problem are there, one that a decision made is tight, and
-- candidates are classes that nodes may have
pub record IsKept (p : Problem) (s : State) : Type 0 where
  pub inputs : length p.objects ≤ length s.objects
  pub copies : (o : ℕ) → length p.objects ≤ o → o < length s.objects → is_tight s o ≡ true
  pub classes : (o c : ℕ) → o < length s.objects → contains (object_of s o).candidates c ≡ true → is_concrete p.classes c ≡ true
