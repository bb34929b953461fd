-- The words that the language keeps for itself.
use Rattle.std.specs.Prelude.{ℕ, Bool, List, [], ◌∷◌, codes}
use Rattle.std.specs.List.{list_any}
use Rattle.std.specs.Str.{bytes_eq}

-- the words that the language keeps for itself
abbrev pub keywords : List (List ℕ)
keywords =
    codes "abstract" ∷ codes "atom" ∷ codes "class" ∷ codes "container" ∷ codes "contains" ∷ codes "declare" ∷ codes "default" ∷
    codes "enum" ∷ codes "error" ∷ codes "extends" ∷ codes "false" ∷ codes "multi" ∷ codes "opposite" ∷ codes "pred" ∷
    codes "refers" ∷ codes "scope" ∷ codes "true" ∷ codes "unknown" ∷ []

-- one of the keywords
abbrev pub is_keyword : List ℕ → Bool
is_keyword bytes = list_any (λ word. bytes_eq word bytes) keywords
