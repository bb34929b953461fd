-- What holds of names and of how they are written.
use Rattle.std.specs.Prelude.{◌≡◌, ◌↔◌, ℕ, IsTrue, List, ◌++◌}
use Rattle.rf_text.specs.Identifier.{IsIdentifier, is_identifier}
use Rattle.rf_text.specs.Written.{CanBeQuoted, EndsName, written_name}

-- the test for identifiers tells them
abbrev pub IdentifiersAreTold : Type 0
IdentifiersAreTold = (cs : List ℕ) → IsTrue (is_identifier cs) ↔ IsIdentifier cs

-- names that differ are written in different ways
abbrev pub WrittenNamesDiffer : Type 0
WrittenNamesDiffer = (a b : List ℕ) → CanBeQuoted a → CanBeQuoted b → written_name a ≡ written_name b → a ≡ b

-- where a written name ends shows in the bytes
abbrev pub WrittenNamesEnd : Type 0
WrittenNamesEnd =
    (a b s t : List ℕ) → CanBeQuoted a → CanBeQuoted b → EndsName s → EndsName t →
    written_name a ++ s ≡ written_name b ++ t → (a ≡ b) × (s ≡ t)
