-- The lines that were read, and one more.
use Rattle.std.proofs.Common.{◌≡◌, ◌∙◌, ℕ, ◌+◌, ◌≤◌, List, [], ◌∷◌, ◌++◌, length, map, sym, ap, arith, append_assoc, length-append, All}
use Rattle.std.proofs.lemmas.List.{map-append}
use Rattle.std.proofs.lemmas.List.Elements.{All-push, All-same}
use Rattle.rf_text.specs.Line.{joined_lines}
use Rattle.rf_text.proofs.LineLemmas.{joined_lines-append}

module _ {X : Type 0} (line_of : X → List ℕ) where
  -- what the lines are with one more
  pub lines-push :
      (xs more : List X) (x : X) → more ≡ xs ++ x ∷ [] →
      joined_lines (map line_of more) ≡ joined_lines (map line_of xs) ++ (line_of x ++ 10 ∷ [])
  lines-push xs more x pushed =
      ap (λ ys. joined_lines (map line_of ys)) pushed ∙ ap joined_lines (map-append line_of xs (x ∷ [])) ∙ joined_lines-append (map line_of xs) (line_of x ∷ [])

  pub one_more_line :
      (bytes rest after : List ℕ) (xs more : List X) (x : X) → bytes ≡ joined_lines (map line_of xs) ++ rest → rest ≡ line_of x ++ 10 ∷ after →
      more ≡ xs ++ x ∷ [] → bytes ≡ joined_lines (map line_of more) ++ after
  one_more_line bytes rest after xs more x so_far begun pushed =
      so_far ∙ ap (λ r. joined_lines (map line_of xs) ++ r) (begun ∙ sym (append_assoc (line_of x) (10 ∷ []) after))
      ∙ sym (append_assoc (joined_lines (map line_of xs)) (line_of x ++ 10 ∷ []) after)
      ∙ ap (λ ls. ls ++ after) (sym (lines-push xs more x pushed))

  -- elements and bytes are no more with one more element
  pub no_longer :
      (rest after : List ℕ) (xs more : List X) (x : X) (many : ℕ) → rest ≡ line_of x ++ 10 ∷ after → more ≡ xs ++ x ∷ [] →
      length xs + length rest ≤ many → length more + length after ≤ many
  no_longer rest after xs more x many begun pushed before =
      omega (arith, ap length begun, ap length pushed, length-append (line_of x) (10 ∷ after), length-append xs (x ∷ []))

pub All-pushed : {X : Type 0} (P : X → Type 0) (xs more : List X) (x : X) → All P xs → P x → more ≡ xs ++ x ∷ [] → All P more
All-pushed P xs more x all last pushed = All-same P more (xs ++ x ∷ []) pushed (All-push P xs x all last)

pub All-none : {X : Type 0} (P : X → Type 0) (xs : List X) → xs ≡ [] → All P xs
All-none P xs none k d h = absurd (omega (arith, h, ap length none))
