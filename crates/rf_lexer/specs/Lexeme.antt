-- Numbers, as a set of lists of characters.
use Rattle.std.specs.Prelude.{◌≡◌, ℕ, ◌≤◌, ◌⊎◌, List, [], ◌∷◌}
use Rattle.std.specs.Char.{is_ascii_digit}
use Rattle.rf_text.specs.Identifier.{EachPasses}

-- `0`, or a digit from 1 to 9 and then digits
abbrev pub IsNumber : List ℕ → Type 0
IsNumber [] = ⊥
IsNumber (d ∷ ds) = ((d ≡ 48) × (ds ≡ [])) ⊎ ((49 ≤ d) × (d ≤ 57) × EachPasses is_ascii_digit ds)
