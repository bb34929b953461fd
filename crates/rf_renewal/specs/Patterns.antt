-- Patterns of tuples, and whether the terms of a literal may stand for a tuple of a pattern.
use Rattle.std.specs.Prelude.{ℕ, Bool, true, false, ◌==◌, ◌&&◌, ◌||◌, nat_lt, not, Option, None, Some, List, [], ◌∷◌, length, slice_index}
use Rattle.std.specs.List.{list_any}
use Rattle.rf_problem.specs.Asserted.{match_each}
use Rattle.rf_problem.specs.declared.predicate.Term.{Term}
use Rattle.rf_problem.specs.declared.predicate.Term.TheVariants.{Var, Atom}

-- an element for each place of a tuple, or none where it may be any
abbrev pub Pattern : Type 0
Pattern = List (Option ℕ)

-- whether one of the patterns matches a tuple, place by place
abbrev pub match_some : List Pattern → List ℕ → Bool
match_some patterns t = list_any (λ pattern. match_each pattern t) patterns

-- whether a term of a clause may stand for the element at a place of a pattern, where the clause is asked at tuple t:
-- a parameter stands for its element of the tuple, another variable may stand for each element, and an atom for those
-- that come from it
abbrev pub may_stand_for : (ℕ → ℕ) → List ℕ → Term → Option ℕ → Bool
may_stand_for origin t term None = true
may_stand_for origin t (Var v) (Some x) = not (nat_lt v (length t)) || slice_index t v == x
may_stand_for origin t (Atom o) (Some x) = origin x == o

-- whether terms may stand for a tuple that a pattern matches
abbrev pub may_match : (ℕ → ℕ) → List ℕ → List Term → Pattern → Bool
may_match origin t [] [] = true
may_match origin t (term ∷ terms) (entry ∷ pattern) =
    may_stand_for origin t term entry && may_match origin t terms pattern
may_match origin t _ _ = false
