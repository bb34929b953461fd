-- What is parsed of ranges and multiplicities.
use Rattle.std.proofs.Common.{◌≡◌, ◌⊎◌, ℕ, List, [], ◌∷◌, ◌++◌, Option, None, Some, inl, inr, length, refl, sym, ap, ◌∙◌}
use Rattle.rf_lexer.specs.declared.token.Kind.{Kind}
use Rattle.rf_lexer.specs.declared.token.Token.{Token}
use Rattle.rf_syntax.specs.declared.range.Range.{Range}
use Rattle.rf_syntax.specs.declared.range.Upper.{Upper}
use Rattle.rf_syntax.specs.declared.range.Upper.TheVariants.{Absent, Star, Number}
use Rattle.rf_syntax.specs.Parts.{optional}
use Rattle.rf_syntax.specs.Piece.{Piece, kinds_of, terminal}
use Rattle.rf_syntax.specs.Range.{mult_pieces, range_pieces, upper_pieces}
use Rattle.rf_syntax.specs.Terminals.{dot_dot, left_bracket, number, right_bracket, star}
use Rattle.rf_parser.specs.Fit.{FitsPiece, token_kinds}
use Rattle.rf_parser.specs.Private.Parts.{single}
use Rattle.rf_parser.specs.Private.Parsing.{Halts, Parses, IsStuck, StartsWith, StartsWithNumber, either, first_kind, never}
use Rattle.rf_parser.proofs.Prefixes.{halts_never}
use Rattle.rf_parser.proofs.Singles.{not_halted, parsed_token, starts_first, starts_parsed}
use Rattle.rf_parser.proofs.Wholes.{Begins, IsCase, pair, parsed_as, parsed_next, parsed_nothing, parsed_then, stuck_as, stuck_first, stuck_here, stuck_next, stuck_start, stuck_then}

-- a number whose offset is kept: the number, and its offset
abbrev located : ℕ × ℕ → List Piece
located p = record { kind = number p.0; at = Some p.1 } ∷ []

number_first : {ts rest : List Token} {n at : ℕ} → StartsWithNumber ts n at rest → first_kind (token_kinds ts) ≡ Some (number n)
number_first s = ap (λ (xs : List Token). first_kind (token_kinds xs)) s.joined ∙ ap (λ (k : Kind). Some k) s.kinds

located_parsed : {ts rest : List Token} {n at : ℕ} → StartsWithNumber ts n at rest → Parses located never ts (n, at) rest
located_parsed {n = n} {at} s = parsed_token s.token (λ p. record { kind = number p.0; at = Some p.1 }) (n, at) s.joined (λ p. refl)
    (record { kind = s.kinds; at = sym s.offset })
    (λ p h. same_number p.0 n p.1 at (sym h.kind ∙ s.kinds) (h.at ∙ s.offset))
  where
    same_number : (m n : ℕ) (a b : ℕ) → number m ≡ number n → a ≡ b → ◌≡◌ {A = ℕ × ℕ} (m, a) (n, b)
    same_number m n a b e f = let same : m ≡ n = cc in cc

located_stuck : {ts : List Token} → ((n : ℕ) → first_kind (token_kinds ts) ≡ Some (number n) → ⊥) → IsStuck located never ts (length ts)
located_stuck none = stuck_here (0, 0) (λ p more h e. none p.0 (sym e))

-- what follows the dots: a number, or the star
abbrev end_pieces : Option ℕ → List Piece
end_pieces None = terminal star ∷ []
end_pieces (Some n) = terminal (number n) ∷ []

abbrev upper_of : Option ℕ → Upper
upper_of None = Star
upper_of (Some n) = Number n

star_case : (next : Option Kind) → next ≡ Some star → IsCase (single star) never end_pieces never next (λ u. None)
star_case next e = record { same = λ u. refl; ends = λ more h. h; cases = cases } where
  cases : (o : Option ℕ) → ((u : Unit {0}) × (None ≡ o)) ⊎ Begins end_pieces never next o
  cases None = inl (tt, refl)
  cases (Some n) = inr (λ more h f. let both : Some (number n) ≡ Some star = f ∙ e in cc)

star_parsed : {ts rest : List Token} → StartsWith ts star rest → Parses end_pieces never ts None rest
star_parsed s = parsed_as (star_case _ (starts_first s)) (starts_parsed s)

end_number : {ts rest : List Token} {n at : ℕ} → StartsWithNumber ts n at rest → Parses end_pieces never ts (Some n) rest
end_number {n = n} s = parsed_token s.token end_piece (Some n) s.joined one (record { kind = s.kinds; at = tt }) same where
  end_piece : Option ℕ → Piece
  end_piece None = terminal star
  end_piece (Some m) = terminal (number m)

  one : (o : Option ℕ) → end_pieces o ≡ end_piece o ∷ []
  one None = refl
  one (Some m) = refl

  same : (o : Option ℕ) → FitsPiece s.token (end_piece o) → o ≡ Some n
  same None h = let both : star ≡ number n = sym h.kind ∙ s.kinds in absurd cc
  same (Some m) h = let both : number m ≡ number n = sym h.kind ∙ s.kinds in cc

end_stuck : {ts : List Token} → (first_kind (token_kinds ts) ≡ Some star → ⊥) → ((n : ℕ) → first_kind (token_kinds ts) ≡ Some (number n) → ⊥) → IsStuck end_pieces never ts (length ts)
end_stuck {ts} no_star no_number = stuck_here None cases where
  cases : (o : Option ℕ) → Begins end_pieces never (first_kind (token_kinds ts)) o
  cases None = λ more h e. no_star (sym e)
  cases (Some n) = λ more h e. no_number n (sym e)

upper_case : (next : Option Kind) → next ≡ Some dot_dot → IsCase (pair (single dot_dot) end_pieces) never upper_pieces (either dot_dot never) next (λ p. upper_of p.1)
upper_case next e = record { same = λ p. same p.1; ends = λ more h. halts_never more; cases = cases } where
  same : (o : Option ℕ) → upper_pieces (upper_of o) ≡ terminal dot_dot ∷ end_pieces o
  same None = refl
  same (Some n) = refl

  cases : (u : Upper) → ((p : Unit {0} × Option ℕ) × (upper_of p.1 ≡ u)) ⊎ Begins upper_pieces (either dot_dot never) next u
  cases Absent = inr (λ more h f. not_halted dot_dot never more h (f ∙ e))
  cases Star = inl ((tt, None), refl)
  cases (Number n) = inl ((tt, Some n), refl)

pub upper_star : {ts after rest : List Token} → StartsWith ts dot_dot after → StartsWith after star rest → Parses upper_pieces (either dot_dot never) ts Star rest
upper_star s t = parsed_as (upper_case _ (starts_first s)) (parsed_next (starts_parsed s) (star_parsed t))

pub upper_number : {ts after rest : List Token} {n at : ℕ} → StartsWith ts dot_dot after → StartsWithNumber after n at rest → Parses upper_pieces (either dot_dot never) ts (Number n) rest
upper_number s t = parsed_as (upper_case _ (starts_first s)) (parsed_next (starts_parsed s) (end_number t))

pub upper_stuck : {ts after : List Token} → StartsWith ts dot_dot after → (first_kind (token_kinds after) ≡ Some star → ⊥)
    → ((n : ℕ) → first_kind (token_kinds after) ≡ Some (number n) → ⊥) → IsStuck upper_pieces (either dot_dot never) ts (length after)
upper_stuck s no_star no_number = stuck_as (upper_case _ (starts_first s)) (stuck_next (starts_parsed s) (end_stuck no_star no_number))

pub upper_absent : {ts : List Token} → (first_kind (token_kinds ts) ≡ Some dot_dot → ⊥) → Parses upper_pieces (either dot_dot never) ts Absent ts
upper_absent {ts} no_dots = parsed_nothing Absent refl cases where
  cases : (u : Upper) → (u ≡ Absent) ⊎ Begins upper_pieces (either dot_dot never) (first_kind (token_kinds ts)) u
  cases Absent = inl refl
  cases Star = inr (λ more h e. no_dots (sym e))
  cases (Number n) = inr (λ more h e. no_dots (sym e))

range_case : (next : Option Kind) → IsCase (pair located upper_pieces) (either dot_dot never) range_pieces (either dot_dot never) next (λ p. record { at = p.0.1; lo = p.0.0; hi = p.1 })
range_case next = record { same = λ p. refl; ends = λ more h. h; cases = λ r. inl (((r.lo, r.at), r.hi), refl) }

pub range_parsed : {ts after rest : List Token} {n at : ℕ} {hi : Upper} → StartsWithNumber ts n at after → Parses upper_pieces (either dot_dot never) after hi rest
    → Parses range_pieces (either dot_dot never) ts (record { at = at; lo = n; hi = hi }) rest
range_parsed s h = parsed_as (range_case _) (parsed_next (located_parsed s) h)

pub range_stuck : {ts : List Token} → ((n : ℕ) → first_kind (token_kinds ts) ≡ Some (number n) → ⊥) → IsStuck range_pieces (either dot_dot never) ts (length ts)
range_stuck none = stuck_as (range_case _) (stuck_start upper_pieces Absent (located_stuck none))

pub range_stuck_after : {ts after : List Token} {n at left : ℕ} → StartsWithNumber ts n at after → IsStuck upper_pieces (either dot_dot never) after left
    → IsStuck range_pieces (either dot_dot never) ts left
range_stuck_after s h = stuck_as (range_case _) (stuck_next (located_parsed s) h)

-- a range that may be left out, and the closing bracket
abbrev bracketed : Option Range → List Piece
bracketed r = optional range_pieces r ++ terminal right_bracket ∷ []

a_range : Range
a_range = record { at = 0; lo = 0; hi = Absent }

no_range_case : (next : Option Kind) → next ≡ Some right_bracket → IsCase (single right_bracket) never bracketed never next (λ u. None)
no_range_case next e = record { same = λ u. refl; ends = λ more h. h; cases = cases } where
  cases : (o : Option Range) → ((u : Unit {0}) × (None ≡ o)) ⊎ Begins bracketed never next o
  cases None = inl (tt, refl)
  cases (Some r) = inr (λ more h f. let both : Some (number r.lo) ≡ Some right_bracket = f ∙ e in cc)

some_range_case : (next : Option Kind) → (next ≡ Some right_bracket → ⊥) → IsCase (pair range_pieces (single right_bracket)) never bracketed never next (λ p. Some p.0)
some_range_case next no_bracket = record { same = λ p. refl; ends = λ more h. h; cases = cases } where
  cases : (o : Option Range) → ((p : Range × Unit {0}) × (Some p.0 ≡ o)) ⊎ Begins bracketed never next o
  cases None = inr (λ more h e. no_bracket (sym e))
  cases (Some r) = inl ((r, tt), refl)

-- no bracket makes a range longer
range_ends : (b : Unit {0}) (more : List Kind) → Halts never more → Halts (either dot_dot never) (kinds_of (single right_bracket b) ++ more)
range_ends b more h = λ e. elim e [ inl same ↦ cc | inr other ↦ other ]

mult_case : (next : Option Kind) → IsCase (pair (single left_bracket) bracketed) never mult_pieces never next (λ p. record { range = p.1 })
mult_case next = record { same = λ p. refl; ends = λ more h. h; cases = λ m. inl ((tt, m.range), refl) }

pub mult_stuck : {ts : List Token} {left : ℕ} → IsStuck (single left_bracket) never ts left → IsStuck mult_pieces never ts left
mult_stuck h = stuck_as (mult_case _) (stuck_start bracketed None h)

pub mult_empty : {ts inner rest : List Token} → Parses (single left_bracket) never ts tt inner → StartsWith inner right_bracket rest → Parses mult_pieces never ts (record { range = None }) rest
mult_empty h s = parsed_as (mult_case _) (parsed_next h (parsed_as (no_range_case _ (starts_first s)) (starts_parsed s)))

pub mult_parsed : {ts inner after rest : List Token} {range : Range} → Parses (single left_bracket) never ts tt inner → (first_kind (token_kinds inner) ≡ Some right_bracket → ⊥)
    → Parses range_pieces (either dot_dot never) inner range after → Parses (single right_bracket) never after tt rest → Parses mult_pieces never ts (record { range = Some range }) rest
mult_parsed h none r k = parsed_as (mult_case _) (parsed_next h (parsed_as (some_range_case _ none) (parsed_then range_ends r k)))

pub mult_stuck_range : {ts inner : List Token} {left : ℕ} → Parses (single left_bracket) never ts tt inner → (first_kind (token_kinds inner) ≡ Some right_bracket → ⊥)
    → IsStuck range_pieces (either dot_dot never) inner left → IsStuck mult_pieces never ts left
mult_stuck_range h none k = stuck_as (mult_case _) (stuck_next h (stuck_as (some_range_case _ none) (stuck_first (single right_bracket) tt range_ends k)))

pub mult_stuck_end : {ts inner after : List Token} {range : Range} {left : ℕ} → Parses (single left_bracket) never ts tt inner → (first_kind (token_kinds inner) ≡ Some right_bracket → ⊥)
    → Parses range_pieces (either dot_dot never) inner range after → IsStuck (single right_bracket) never after left → IsStuck mult_pieces never ts left
mult_stuck_end h none r k = stuck_as (mult_case _) (stuck_next h (stuck_as (some_range_case _ none) (stuck_then range_ends r k)))
