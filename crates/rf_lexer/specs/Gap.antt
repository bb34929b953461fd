-- What may be between lexemes.
use Rattle.std.specs.Prelude.{◌≡◌, ℕ, zero, suc, Bool, not, ◌||◌, ◌==◌, ◌⊎◌, IsTrue, List, [], ◌∷◌, ◌++◌, codes}
use Rattle.rf_text.specs.Identifier.{EachPasses}
use Rattle.rf_lexer.specs.Characters.{StandsIn, StopsAt}

-- a space, a tab, a line feed or a carriage return
abbrev pub is_space : ℕ → Bool
is_space c = (c == 32) || ((c == 9) || ((c == 10) || (c == 13)))

-- neither a line feed nor a carriage return
abbrev pub is_in_line : ℕ → Bool
is_in_line c = not ((c == 10) || (c == 13))

abbrev pub IsSpace : List ℕ → Type 0
IsSpace piece = (c : ℕ) × (piece ≡ c ∷ []) × IsTrue (is_space c)

-- from `//` or `%` to before the next line feed or carriage return, or to the end
pub record IsLineComment (piece rest : List ℕ) : Type 0 where
  pub body : List ℕ
  pub joined : (piece ≡ codes "//" ++ body) ⊎ (piece ≡ codes "%" ++ body)
  pub line : EachPasses is_in_line body
  pub ended : StopsAt is_in_line rest

-- from `/*` to the next `*/` after it
pub record IsBlockComment (piece : List ℕ) : Type 0 where
  pub body : List ℕ
  pub joined : piece ≡ codes "/*" ++ (body ++ codes "*/")
  pub next : StandsIn (codes "*/") body → ⊥

-- the characters cs begin with one space or one comment, and these follow it
pub record IsPastOne (cs rest : List ℕ) : Type 0 where
  pub piece : List ℕ
  pub joined : cs ≡ piece ++ rest
  pub kind : IsSpace piece ⊎ (IsLineComment piece rest ⊎ IsBlockComment piece)

-- no space and no comment begins here
abbrev pub BeginsNoGap : List ℕ → Type 0
BeginsNoGap cs = (rest : List ℕ) → IsPastOne cs rest → ⊥

-- cs are `count` spaces and comments, and then rest
abbrev pub IsPast : ℕ → List ℕ → List ℕ → Type 0
IsPast zero cs rest = cs ≡ rest
IsPast (suc count) cs rest = (after : List ℕ) × IsPastOne cs after × IsPast count after rest

-- cs are spaces and comments alone, and then rest
abbrev pub IsGap : List ℕ → List ℕ → Type 0
IsGap cs rest = (count : ℕ) × IsPast count cs rest
