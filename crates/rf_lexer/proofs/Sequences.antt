-- Tokens one after another.
use Rattle.std.proofs.Common.{◌≡◌, ◌∙◌, ℕ, suc, true, List, [], ◌∷◌, ◌++◌, length, refl, sym, ap, subst, arith}
use Rattle.std.proofs.lemmas.Bool.Decides.{nat_tests}
use Rattle.std.proofs.lemmas.Str.{chars-nil}
use Rattle.std.specs.Prelude.{◌==◌}
use Rattle.std.specs.Str.{chars, encode_utf8_all}
use Rattle.rf_lexer.specs.Gap.{BeginsNoGap, IsGap}
use Rattle.rf_lexer.specs.Private.Scan.{Takes}
use Rattle.rf_lexer.specs.Tokens.{AreTokens, IsToken, StandsAt}
use Rattle.rf_lexer.specs.declared.token.Kind.{Kind}
use Rattle.rf_lexer.specs.declared.token.Token.{Token}
use Rattle.rf_lexer.proofs.Gaps.{gap_joined, gap_none, one_gap}
use Rattle.rf_lexer.proofs.Longest.{lexeme_no_gap, one_longest}

-- one more token
pub tokens_more :
    (size : ℕ) (cs : List ℕ) (ts : List Token) (mid here : List ℕ) (t : Token) (after : List ℕ) → AreTokens size cs ts mid →
    IsGap mid here → IsToken size t here after → AreTokens size cs (ts ++ t ∷ []) after
tokens_more size cs [] mid here t after so_far gap one = (here, after, gap_joined cs mid here so_far gap, one, gap_none after)
tokens_more size cs (u ∷ us) mid here t after so_far gap one =
    (so_far.0, so_far.1, so_far.2, so_far.3, tokens_more size so_far.1 us mid here t after so_far.4 gap one)

-- and what follows them
pub tokens_gap :
    (size : ℕ) (cs : List ℕ) (ts : List Token) (mid rest : List ℕ) → AreTokens size cs ts mid → IsGap mid rest → AreTokens size cs ts rest
tokens_gap size cs [] mid rest so_far gap = gap_joined cs mid rest so_far gap
tokens_gap size cs (u ∷ us) mid rest so_far gap =
    (so_far.0, so_far.1, so_far.2, so_far.3, tokens_gap size so_far.1 us mid rest so_far.4 gap)

-- one more token and what follows it
pub lexed_more :
    (size : ℕ) (cs : List ℕ) (ts items : List Token) (mid after rest : List ℕ) (t : Token) → AreTokens size cs ts mid →
    IsToken size t mid after → IsGap after rest → items ≡ ts ++ t ∷ [] → AreTokens size cs items rest
lexed_more size cs ts items mid after rest t lexed one gap e =
    let longer : AreTokens size cs (ts ++ t ∷ []) after = tokens_more size cs ts mid mid t after lexed (gap_none mid) one in
    subst (λ (us : List Token). AreTokens size cs us rest) (sym e) (tokens_gap size cs (ts ++ t ∷ []) after rest longer gap)

pub token_made :
    (size : ℕ) (t : Token) (mid after : List ℕ) → Takes t.kind mid after → StandsAt size t.start mid → StandsAt size t.end after →
    IsToken size t mid after
token_made size t mid after takes start stop =
    record { longest = takes.longest; short = takes.short; small = takes.small; start = start; stop = stop }

-- no character is left
not_zero : (n : ℕ) → true ≡ (suc n == 0) → ⊥
not_zero n e = grind (arith, nat_tests)

empty_rest : (rest : List ℕ) → true ≡ (length rest == 0) → rest ≡ []
empty_rest [] e = refl
empty_rest (x ∷ xs) e = absurd (not_zero (length xs) e)

pub lexed_all :
    (size : ℕ) (cs : List ℕ) (ts : List Token) (rest : List ℕ) → AreTokens size cs ts (chars rest) → true ≡ (length rest == 0) →
    AreTokens size cs ts []
lexed_all size cs ts rest lexed e =
    let none : chars rest ≡ [] = ap chars (empty_rest rest e) ∙ chars-nil in
    subst (λ (z : List ℕ). AreTokens size cs ts z) none lexed

-- neither a space nor a comment nor a token begins here
pub record Ends (size : ℕ) (cs : List ℕ) : Type 0 where
  pub no_gap : BeginsNoGap cs
  pub no_token : (t : Token) (after : List ℕ) → IsToken size t cs after → ⊥

token_no_gap : (size : ℕ) (t : Token) (cs after : List ℕ) → IsToken size t cs after → BeginsNoGap cs
token_no_gap size t cs after one =
    let l = one.longest in
    lexeme_no_gap t.kind cs l.lexeme after l.spelled l.joined

abbrev made : Kind → ℕ → ℕ → Token
made kind start end = record { kind = kind; start = start; end = end }

one_token :
    (size : ℕ) (t u : Token) (cs r s : List ℕ) → IsToken size t cs r → IsToken size u cs s → (t ≡ u) × (r ≡ s)
one_token size t u cs r s x y =
    let same = one_longest t.kind u.kind cs r s x.longest y.longest in
    let rests : r ≡ s = same.1 in
    let kinds : t.kind ≡ u.kind = same.0 in
    let starts : t.start ≡ u.start = let a = x.start in let b = y.start in omega arith in
    let sizes : length (encode_utf8_all r) ≡ length (encode_utf8_all s) = ap (λ l. length (encode_utf8_all l)) rests in
    let ends : t.end ≡ u.end = let a = x.stop in let b = y.stop in omega arith in
    (ap (λ k. made k t.start t.end) kinds ∙ ap (λ a. made u.kind a t.end) starts ∙ ap (λ b. made u.kind u.start b) ends, rests)

-- tokens up to where nothing more begins are one list
pub one_lexing :
    (size : ℕ) (cs : List ℕ) (ts us : List Token) (r s : List ℕ) → AreTokens size cs ts r → AreTokens size cs us s → Ends size r →
    Ends size s → (ts ≡ us) × (r ≡ s)
one_lexing size cs [] [] r s x y a b = (refl, one_gap cs r s x y a.no_gap b.no_gap)
one_lexing size cs [] (u ∷ us) r s x y a b =
    let same : y.0 ≡ r = one_gap cs y.0 r y.2 x (token_no_gap size u y.0 y.1 y.3) a.no_gap in
    absurd (a.no_token u y.1 (subst (λ (z : List ℕ). IsToken size u z y.1) same y.3))
one_lexing size cs (t ∷ ts) [] r s x y a b =
    let same : x.0 ≡ s = one_gap cs x.0 s x.2 y (token_no_gap size t x.0 x.1 x.3) b.no_gap in
    absurd (b.no_token t x.1 (subst (λ (z : List ℕ). IsToken size t z x.1) same x.3))
one_lexing size cs (t ∷ ts) (u ∷ us) r s x y a b =
    let here : y.0 ≡ x.0 = one_gap cs y.0 x.0 y.2 x.2 (token_no_gap size u y.0 y.1 y.3) (token_no_gap size t x.0 x.1 x.3) in
    let moved : IsToken size u x.0 y.1 = subst (λ (z : List ℕ). IsToken size u z y.1) here y.3 in
    let same = one_token size t u x.0 x.1 y.1 x.3 moved in
    let rest : AreTokens size x.1 us s = subst (λ (z : List ℕ). AreTokens size z us s) (sym same.1) y.4 in
    let ih = one_lexing size x.1 ts us r s x.4 rest a b in
    let first : t ≡ u = same.0 in
    let others : ts ≡ us = ih.0 in
    (cc, ih.1)
