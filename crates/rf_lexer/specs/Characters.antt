-- Lists of characters, each its number.
use Rattle.std.specs.Prelude.{◌≡◌, ℕ, Bool, false, List, [], ◌∷◌, ◌++◌}

-- no character follows, or the next one fails the test
abbrev pub StopsAt : (ℕ → Bool) → List ℕ → Type 0
StopsAt p [] = Unit {0}
StopsAt p (c ∷ cs) = p c ≡ false

-- these characters are somewhere in cs, one after the other
pub record StandsIn (these cs : List ℕ) : Type 0 where
  pub before : List ℕ
  pub suffix : List ℕ
  pub joined : cs ≡ before ++ (these ++ suffix)
