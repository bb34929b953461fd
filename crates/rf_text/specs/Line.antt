use Rattle.std.specs.Prelude.{◌≡◌, ◌≢◌, ℕ, List, [], ◌∷◌, ◌++◌, All}

-- no line feed is in the bytes
abbrev pub NoBreak : List ℕ → Type 0
NoBreak bytes = All (λ b. b ≢ 10) bytes

-- the first line of the bytes, and what follows its line feed
pub record IsLine (bytes line rest : List ℕ) : Type 0 where
  pub joined : bytes ≡ line ++ 10 ∷ rest
  pub whole : NoBreak line

-- these lines one after another, each with its line feed
abbrev pub joined_lines : List (List ℕ) → List ℕ
joined_lines [] = []
joined_lines (line ∷ lines) = line ++ 10 ∷ joined_lines lines
