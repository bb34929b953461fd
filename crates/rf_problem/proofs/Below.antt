-- The order of classes, computed and in words.
use Rattle.std.proofs.Common.{◌≡◌, ℕ, true, ◌==◌, List, length, inl, inr}
use Rattle.std.proofs.lemmas.Bool.{or_cases, or_left, or_right, eqb-true, eq-eqb}
use Rattle.rf_finite.specs.Walks.{walk_below}
use Rattle.rf_finite.proofs.Walks.{IsReachable-from_walk_below, walk_below-from_IsWalk}
use Rattle.rf_problem.specs.Classes.{IsBelow, extends, is_below}
use Rattle.rf_problem.specs.declared.class.Class.{Class}

-- a class is below another where the test says so
pub IsBelow-from_is_below : (classes : List Class) (c d : ℕ) → is_below classes c d ≡ true → IsBelow classes c d
IsBelow-from_is_below classes c d h = elim (or_cases (c == d) (walk_below (extends classes) (λ x. true) (length classes) c d) h) [
  | inl e ↦ inl (eqb-true c d e)
  | inr w ↦ inr (IsReachable-from_walk_below (extends classes) (λ x. true) (length classes) c d w)
]

-- and the test says so where it is
pub is_below-from_IsBelow : (classes : List Class) (c d : ℕ) → IsBelow classes c d → is_below classes c d ≡ true
is_below-from_IsBelow classes c d h = elim h [
  | inl e ↦ or_left (c == d) (walk_below (extends classes) (λ x. true) (length classes) c d) (eq-eqb c d e)
  | inr w ↦ or_right (c == d) (walk_below (extends classes) (λ x. true) (length classes) c d)
      (walk_below-from_IsWalk (extends classes) (λ x. true) (length classes) c w.0 d w.1)
]
