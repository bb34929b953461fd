-- Which references contain, and which classes they contain.
use Rattle.std.specs.Prelude.{ℕ, Bool, ◌&&◌}
use Rattle.std.specs.List.{list_any}
use Rattle.rf_problem.specs.Classes.{is_below, is_concrete}
use Rattle.rf_problem.specs.Parts.{is_contains, reference_at}
use Rattle.rf_problem.specs.declared.problem.Problem.{Problem}

-- whether reference r contains its targets
abbrev pub is_containing : Problem → ℕ → Bool
is_containing p r = is_contains (reference_at p.references r).kind

-- whether a class that nodes may have is below class d
abbrev pub is_concrete_below : Problem → ℕ → ℕ → Bool
is_concrete_below p d c = is_concrete p.classes c && is_below p.classes c d

-- whether class c is below the target of some reference that contains
abbrev pub is_contained_class : Problem → ℕ → Bool
is_contained_class p c = list_any (λ r. is_contains r.kind && is_below p.classes c r.target) p.references

-- whether such a class is one that nodes may have
abbrev pub is_contained : Problem → ℕ → Bool
is_contained p c = is_concrete p.classes c && is_contained_class p c
