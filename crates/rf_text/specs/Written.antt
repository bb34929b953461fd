-- How documents write names.
use Rattle.std.specs.Prelude.{◌≡◌, ◌≢◌, ℕ, ◌≤◌, Bool, not, ◌||◌, ◌&&◌, ◌==◌, IsTrue, List, [], ◌∷◌, ◌++◌, length, All, if◌then◌else◌}
use Rattle.std.specs.Str.{chars, is_utf8}
use Rattle.rf_bounds.specs.declared.TheConstants.{MOST_NAME_BYTES}
use Rattle.rf_text.specs.Identifier.{is_identifier}
use Rattle.rf_text.specs.Keyword.{is_keyword}

-- a name that may be written between quotes
pub record CanBeQuoted (name : List ℕ) : Type 0 where
  pub no_quote : All (λ b. b ≢ 39) name
  pub no_line_feed : All (λ b. b ≢ 10) name
  pub no_return : All (λ b. b ≢ 13) name
  pub short : length name ≤ MOST_NAME_BYTES

-- the name is an identifier that isn't a keyword, so it needs no quotes
unfoldable pub is_bare : List ℕ → Bool
is_bare name = is_utf8 name && (is_identifier (chars name) && not (is_keyword name))

-- the name, between single quotes where it isn't bare
abbrev pub written_name : List ℕ → List ℕ
written_name name = if is_bare name then name else 39 ∷ (name ++ 39 ∷ [])

-- a space, a colon or a line feed
abbrev pub ends_name : ℕ → Bool
ends_name b = (b == 32) || ((b == 58) || (b == 10))

-- what may follow a written name: nothing, or what begins with a space, a colon or a line feed
abbrev pub EndsName : List ℕ → Type 0
EndsName [] = Unit {0}
EndsName (b ∷ bs) = IsTrue (ends_name b)

-- the bytes are a written name and this tail
pub record IsWritten (bytes name tail : List ℕ) : Type 0 where
  pub named : CanBeQuoted name
  pub ended : EndsName tail
  pub joined : bytes ≡ written_name name ++ tail
