-- Identifiers and quoted names, as lists of characters, each its number.
use Rattle.std.specs.Prelude.{◌≡◌, ℕ, Bool, false, not, ◌||◌, ◌&&◌, ◌==◌, IsTrue, List, [], ◌∷◌, ◌++◌}
use Rattle.std.specs.List.{list_all}
use Rattle.unicode_ident.specs.Ident.{is_xid_start, is_xid_continue}

-- each of these characters passes the test
abbrev pub EachPasses : (ℕ → Bool) → List ℕ → Type 0
EachPasses p [] = Unit {0}
EachPasses p (c ∷ cs) = IsTrue (p c) × EachPasses p cs

-- what an identifier begins with: a character of XID_Start or an underscore
abbrev pub starts_identifier : ℕ → Bool
starts_identifier c = is_xid_start c || (c == 95)

-- such a character, then characters of XID_Continue
abbrev pub IsIdentifier : List ℕ → Type 0
IsIdentifier [] = ⊥
IsIdentifier (c ∷ cs) = IsTrue (starts_identifier c) × EachPasses is_xid_continue cs

-- whether the characters are an identifier
abbrev pub is_identifier : List ℕ → Bool
is_identifier [] = false
is_identifier (c ∷ cs) = starts_identifier c && list_all is_xid_continue cs

-- neither a single quote nor a line feed nor a carriage return
abbrev pub is_in_quotes : ℕ → Bool
is_in_quotes c = not ((c == 39) || ((c == 10) || (c == 13)))

-- a single quote, the name, and a single quote
pub record IsQuoted (name cs : List ℕ) : Type 0 where
  pub joined : cs ≡ 39 ∷ (name ++ 39 ∷ [])
  pub plain : EachPasses is_in_quotes name
