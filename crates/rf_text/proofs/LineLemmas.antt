-- Where the first line of bytes ends is the bytes' own, so lines have one reading.
use Rattle.std.proofs.Common.{◌≡◌, ◌∙◌, ℕ, suc, List, [], ◌∷◌, ◌++◌, length, refl, sym, ap, arith, append_assoc, length-append}
use Rattle.std.proofs.Math.Seq.{get_or-append_seam}
use Rattle.rf_text.specs.Line.{IsLine, NoBreak, joined_lines}

-- bytes with a line feed have one
pub NoBreak-break : (a r : List ℕ) → NoBreak (a ++ 10 ∷ r) → ⊥
NoBreak-break a r whole = whole (length a) 0 (omega (arith, length-append a (10 ∷ r))) (get_or-append_seam a 10 r 0)

pub NoBreak-tail : (c : ℕ) (cs : List ℕ) → NoBreak (c ∷ cs) → NoBreak cs
NoBreak-tail c cs whole k d h = whole (suc k) d (omega arith)

-- the first line is one
pub one_line : (a b r s : List ℕ) → NoBreak a → NoBreak b → a ++ 10 ∷ r ≡ b ++ 10 ∷ s → (a ≡ b) × (r ≡ s)
one_line [] [] r s na nb e = (refl, cc)
one_line [] (d ∷ b) r s na nb e = let same : d ≡ 10 = cc in absurd (nb 0 0 (omega arith) same)
one_line (c ∷ a) [] r s na nb e = let same : c ≡ 10 = cc in absurd (na 0 0 (omega arith) same)
one_line (c ∷ a) (d ∷ b) r s na nb e =
    let tails : a ++ 10 ∷ r ≡ b ++ 10 ∷ s = cc in
    let ih = one_line a b r s (NoBreak-tail c a na) (NoBreak-tail d b nb) tails in
    let heads : c ≡ d = cc in
    let same : a ≡ b = ih.0 in
    (cc, ih.1)

-- the first line of bytes that begin with a line is that line
pub line_of : (bytes line rest a r : List ℕ) → IsLine bytes line rest → NoBreak a → bytes ≡ a ++ 10 ∷ r → (line ≡ a) × (rest ≡ r)
line_of bytes line rest a r is whole e = one_line line a rest r is.whole whole (sym is.joined ∙ e)

pub joined_lines-append : (xs ys : List (List ℕ)) → joined_lines (xs ++ ys) ≡ joined_lines xs ++ joined_lines ys
joined_lines-append [] ys = refl
joined_lines-append (x ∷ xs) ys =
    ap (λ zs. x ++ 10 ∷ zs) (joined_lines-append xs ys) ∙ sym (append_assoc x (10 ∷ joined_lines xs) (joined_lines ys))
