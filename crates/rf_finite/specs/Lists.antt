-- Lists without repeats.
use Rattle.std.specs.Prelude.{List, [], ◌∷◌, Contains}

-- no element is in the list twice
abbrev pub HasNoRepeats : {X : Type 0} → List X → Type 0
HasNoRepeats [] = Unit {0}
HasNoRepeats (x ∷ xs) = (Contains xs x → ⊥) × HasNoRepeats xs
