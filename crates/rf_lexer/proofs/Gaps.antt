-- The characters themselves decide what is between lexemes.
use Rattle.std.proofs.Common.{◌≡◌, ◌≢◌, ◌∙◌, ℕ, zero, suc, true, false, cond, List, [], ◌∷◌, ◌++◌, codes, refl, sym, ap, subst, inl, inr, ◌⊎◌, arith, append_assoc}
use Rattle.std.specs.Prelude.{◌==◌}
use Rattle.rf_lexer.specs.Gap.{BeginsNoGap, IsBlockComment, IsGap, IsLineComment, IsPast, IsPastOne, IsSpace, is_in_line, is_space}
use Rattle.rf_lexer.specs.Private.Scan.{IsClosed, IsNotClosed, IsSpan}
use Rattle.rf_lexer.proofs.Closings.{closed_once}
use Rattle.rf_lexer.proofs.Prefixes.{span_same}

-- how a space or a comment begins
pub data Sort : Type 0 where
  blank : Sort
  percent : Sort
  slashes : Sort
  block : Sort

abbrev pub slash_sort : List ℕ → Sort
slash_sort [] = block
slash_sort (d ∷ ds) = cond (d == 47) slashes block

abbrev pub gap_sort : List ℕ → Sort
gap_sort [] = block
gap_sort (c ∷ cs) = cond (is_space c) blank (cond (c == 37) percent (slash_sort cs))

abbrev pub PastBy : Sort → List ℕ → List ℕ → Type 0
PastBy blank cs rest = (c : ℕ) × (is_space c ≡ true) × (cs ≡ c ∷ rest)
PastBy percent cs rest = (t : List ℕ) × (cs ≡ 37 ∷ t) × IsSpan is_in_line t rest
PastBy slashes cs rest = (t : List ℕ) × (cs ≡ 47 ∷ 47 ∷ t) × IsSpan is_in_line t rest
PastBy block cs rest = (t : List ℕ) × (cs ≡ 47 ∷ 42 ∷ t) × IsClosed t rest

at_sort : (s t : Sort) (cs rest : List ℕ) → t ≡ s → PastBy s cs rest → PastBy t cs rest
at_sort s t cs rest e p = subst (λ (u : Sort). PastBy u cs rest) (sym e) p

past_space : (cs rest piece : List ℕ) → cs ≡ piece ++ rest → IsSpace piece → PastBy (gap_sort cs) cs rest
past_space cs rest piece e s =
    let whole : cs ≡ s.0 ∷ rest = e ∙ ap (λ p. p ++ rest) s.1 in
    let sort : gap_sort cs ≡ blank = ap gap_sort whole ∙ ap (λ b. cond b blank (cond (s.0 == 37) percent (slash_sort rest))) s.2 in
    at_sort blank (gap_sort cs) cs rest sort (s.0, s.2, whole)

past_slashes :
    (cs rest piece : List ℕ) → cs ≡ piece ++ rest → (l : IsLineComment piece rest) → piece ≡ codes "//" ++ l.body →
    PastBy (gap_sort cs) cs rest
past_slashes cs rest piece e l f =
    let whole : cs ≡ 47 ∷ 47 ∷ (l.body ++ rest) = e ∙ ap (λ p. p ++ rest) f in
    at_sort slashes (gap_sort cs) cs rest (ap gap_sort whole)
    (l.body ++ rest, whole, record { prefix = l.body; joined = refl; each = l.line; ends = l.ended })

past_percent :
    (cs rest piece : List ℕ) → cs ≡ piece ++ rest → (l : IsLineComment piece rest) → piece ≡ codes "%" ++ l.body →
    PastBy (gap_sort cs) cs rest
past_percent cs rest piece e l f =
    let whole : cs ≡ 37 ∷ (l.body ++ rest) = e ∙ ap (λ p. p ++ rest) f in
    at_sort percent (gap_sort cs) cs rest (ap gap_sort whole)
    (l.body ++ rest, whole, record { prefix = l.body; joined = refl; each = l.line; ends = l.ended })

past_block : (cs rest piece : List ℕ) → cs ≡ piece ++ rest → IsBlockComment piece → PastBy (gap_sort cs) cs rest
past_block cs rest piece e b =
    let whole : cs ≡ 47 ∷ 42 ∷ (b.body ++ (42 ∷ 47 ∷ rest)) =
    e ∙ ap (λ p. p ++ rest) b.joined ∙ ap (λ t. 47 ∷ 42 ∷ t) (append_assoc b.body (42 ∷ 47 ∷ []) rest) in
    at_sort block (gap_sort cs) cs rest (ap gap_sort whole)
    (b.body ++ (42 ∷ 47 ∷ rest), whole, record { body = b.body; joined = refl; next = b.next })

past_kind :
    (cs rest piece : List ℕ) → cs ≡ piece ++ rest → (IsSpace piece ⊎ (IsLineComment piece rest ⊎ IsBlockComment piece)) →
    PastBy (gap_sort cs) cs rest
past_kind cs rest piece e (inl s) = past_space cs rest piece e s
past_kind cs rest piece e (inr (inr b)) = past_block cs rest piece e b
past_kind cs rest piece e (inr (inl l)) = elim l.joined [
  | inl f ↦ past_slashes cs rest piece e l f
  | inr f ↦ past_percent cs rest piece e l f
]

pub past_by : (cs rest : List ℕ) → IsPastOne cs rest → PastBy (gap_sort cs) cs rest
past_by cs rest one = past_kind cs rest one.piece one.joined one.kind

span_once : (t u r s : List ℕ) → t ≡ u → IsSpan is_in_line t r → IsSpan is_in_line u s → r ≡ s
span_once t u r s e x y =
    (span_same is_in_line x.prefix y.prefix r s x.each x.ends y.each y.ends (sym x.joined ∙ e ∙ y.joined)).1

close_once : (t u r s : List ℕ) → t ≡ u → IsClosed t r → IsClosed u s → r ≡ s
close_once t u r s e x y = closed_once x.body y.body r s x.next y.next (sym x.joined ∙ e ∙ y.joined)

one_past_by : (s : Sort) (cs r t : List ℕ) → PastBy s cs r → PastBy s cs t → r ≡ t
one_past_by blank cs r t x y = let both : x.0 ∷ r ≡ y.0 ∷ t = sym x.2 ∙ y.2 in cc
one_past_by percent cs r t x y =
    let both : 37 ∷ x.0 ≡ 37 ∷ y.0 = sym x.1 ∙ y.1 in
    let same : x.0 ≡ y.0 = cc in
    span_once x.0 y.0 r t same x.2 y.2
one_past_by slashes cs r t x y =
    let both : 47 ∷ 47 ∷ x.0 ≡ 47 ∷ 47 ∷ y.0 = sym x.1 ∙ y.1 in
    let same : x.0 ≡ y.0 = cc in
    span_once x.0 y.0 r t same x.2 y.2
one_past_by block cs r t x y =
    let both : 47 ∷ 42 ∷ x.0 ≡ 47 ∷ 42 ∷ y.0 = sym x.1 ∙ y.1 in
    let same : x.0 ≡ y.0 = cc in
    close_once x.0 y.0 r t same x.2 y.2

-- after a space or a comment there is one rest
pub one_past : (cs r t : List ℕ) → IsPastOne cs r → IsPastOne cs t → r ≡ t
one_past cs r t x y = one_past_by (gap_sort cs) cs r t (past_by cs r x) (past_by cs t y)

-- how the code finds them
pub past_from_space : (cs rest : List ℕ) (c : ℕ) → cs ≡ c ∷ rest → is_space c ≡ true → IsPastOne cs rest
past_from_space cs rest c e s = record { piece = c ∷ []; joined = e; kind = inl (c, refl, s) }

pub past_from_percent : (cs t rest : List ℕ) → cs ≡ 37 ∷ t → IsSpan is_in_line t rest → IsPastOne cs rest
past_from_percent cs t rest e s = record {
  piece = 37 ∷ s.prefix;
  joined = e ∙ ap (λ u. 37 ∷ u) s.joined;
  kind = inr (inl record { body = s.prefix; joined = inr refl; line = s.each; ended = s.ends });
}

pub past_from_slashes : (u t rest : List ℕ) → u ≡ 47 ∷ t → IsSpan is_in_line t rest → IsPastOne (47 ∷ u) rest
past_from_slashes u t rest e s = record {
  piece = 47 ∷ 47 ∷ s.prefix;
  joined = ap (λ v. 47 ∷ v) (e ∙ ap (λ v. 47 ∷ v) s.joined);
  kind = inr (inl record { body = s.prefix; joined = inl refl; line = s.each; ended = s.ends });
}

pub past_from_block : (u t rest : List ℕ) → u ≡ 42 ∷ t → IsClosed t rest → IsPastOne (47 ∷ u) rest
past_from_block u t rest e s = record {
  piece = 47 ∷ 42 ∷ (s.body ++ (42 ∷ 47 ∷ []));
  joined = ap (λ v. 47 ∷ v) (e ∙ ap (λ v. 42 ∷ v) (s.joined ∙ sym (append_assoc s.body (42 ∷ 47 ∷ []) rest)));
  kind = inr (inr record { body = s.body; joined = refl; next = s.next });
}

nil_by : (s : Sort) (cs rest : List ℕ) → cs ≡ [] → PastBy s cs rest → ⊥
nil_by blank cs rest e p = let both : [] ≡ p.0 ∷ rest = sym e ∙ p.2 in cc
nil_by percent cs rest e p = let both : [] ≡ 37 ∷ p.0 = sym e ∙ p.1 in cc
nil_by slashes cs rest e p = let both : [] ≡ 47 ∷ 47 ∷ p.0 = sym e ∙ p.1 in cc
nil_by block cs rest e p = let both : [] ≡ 47 ∷ 42 ∷ p.0 = sym e ∙ p.1 in cc

other_by :
    (s : Sort) (cs t rest : List ℕ) (c : ℕ) → cs ≡ c ∷ t → is_space c ≡ false → c ≢ 37 → c ≢ 47 → PastBy s cs rest → ⊥
other_by blank cs t rest c e blanks a b p =
    let both : c ∷ t ≡ p.0 ∷ rest = sym e ∙ p.2 in
    let same : c ≡ p.0 = cc in
    let blanked : is_space c ≡ true = ap is_space same ∙ p.1 in
    cc
other_by percent cs t rest c e blanks a b p = let both : c ∷ t ≡ 37 ∷ p.0 = sym e ∙ p.1 in a cc
other_by slashes cs t rest c e blanks a b p = let both : c ∷ t ≡ 47 ∷ 47 ∷ p.0 = sym e ∙ p.1 in b cc
other_by block cs t rest c e blanks a b p = let both : c ∷ t ≡ 47 ∷ 42 ∷ p.0 = sym e ∙ p.1 in b cc

slash_no_space : (c : ℕ) → c ≡ 47 → is_space c ≡ true → ⊥
slash_no_space c e s = let at : is_space 47 ≡ true = ap is_space (sym e) ∙ s in cc

slash_apart : ◌≡◌ {A = ℕ} 47 37 → ⊥
slash_apart e = absurd (omega arith)

slash_by : (s : Sort) (u rest : List ℕ) → u ≡ [] → PastBy s (47 ∷ u) rest → ⊥
slash_by blank u rest e p = let both : 47 ∷ u ≡ p.0 ∷ rest = p.2 in slash_no_space p.0 (cc) p.1
slash_by percent u rest e p = let both : 47 ∷ u ≡ 37 ∷ p.0 = p.1 in slash_apart cc
slash_by slashes u rest e p = let both : u ≡ 47 ∷ p.0 = cc in let two : [] ≡ 47 ∷ p.0 = sym e ∙ both in cc
slash_by block u rest e p = let both : u ≡ 42 ∷ p.0 = cc in let two : [] ≡ 42 ∷ p.0 = sym e ∙ both in cc

slash_other_by : (s : Sort) (u t rest : List ℕ) (d : ℕ) → u ≡ d ∷ t → d ≢ 47 → d ≢ 42 → PastBy s (47 ∷ u) rest → ⊥
slash_other_by blank u t rest d e a b p = let both : 47 ∷ u ≡ p.0 ∷ rest = p.2 in slash_no_space p.0 (cc) p.1
slash_other_by percent u t rest d e a b p = let both : 47 ∷ u ≡ 37 ∷ p.0 = p.1 in slash_apart cc
slash_other_by slashes u t rest d e a b p =
    let both : u ≡ 47 ∷ p.0 = cc in
    let two : d ∷ t ≡ 47 ∷ p.0 = sym e ∙ both in
    a cc
slash_other_by block u t rest d e a b p =
    let both : u ≡ 42 ∷ p.0 = cc in
    let two : d ∷ t ≡ 42 ∷ p.0 = sym e ∙ both in
    b cc

star_apart : ◌≡◌ {A = ℕ} 42 47 → ⊥
star_apart e = absurd (omega arith)

open_by : (s : Sort) (u t rest : List ℕ) → u ≡ 42 ∷ t → IsNotClosed t → PastBy s (47 ∷ u) rest → ⊥
open_by blank u t rest e closed p = let both : 47 ∷ u ≡ p.0 ∷ rest = p.2 in slash_no_space p.0 (cc) p.1
open_by percent u t rest e closed p = let both : 47 ∷ u ≡ 37 ∷ p.0 = p.1 in slash_apart cc
open_by slashes u t rest e closed p =
    let both : u ≡ 47 ∷ p.0 = cc in
    let two : 42 ∷ t ≡ 47 ∷ p.0 = sym e ∙ both in
    star_apart cc
open_by block u t rest e closed p =
    let both : u ≡ 42 ∷ p.0 = cc in
    let two : 42 ∷ t ≡ 42 ∷ p.0 = sym e ∙ both in
    let same : t ≡ p.0 = cc in
    let close = p.2 in
    closed record { before = close.body; suffix = rest; joined = same ∙ close.joined }

-- where none begins
pub no_gap_none : (cs : List ℕ) → cs ≡ [] → BeginsNoGap cs
no_gap_none cs e rest one = nil_by (gap_sort cs) cs rest e (past_by cs rest one)

pub no_gap_other : (cs t : List ℕ) (c : ℕ) → cs ≡ c ∷ t → is_space c ≡ false → c ≢ 37 → c ≢ 47 → BeginsNoGap cs
no_gap_other cs t c e blanks a b rest one = other_by (gap_sort cs) cs t rest c e blanks a b (past_by cs rest one)

pub no_gap_slash : (u : List ℕ) → u ≡ [] → BeginsNoGap (47 ∷ u)
no_gap_slash u e rest one = slash_by (gap_sort (47 ∷ u)) u rest e (past_by (47 ∷ u) rest one)

pub no_gap_slash_other : (u t : List ℕ) (d : ℕ) → u ≡ d ∷ t → d ≢ 47 → d ≢ 42 → BeginsNoGap (47 ∷ u)
no_gap_slash_other u t d e a b rest one = slash_other_by (gap_sort (47 ∷ u)) u t rest d e a b (past_by (47 ∷ u) rest one)

pub no_gap_open : (u t : List ℕ) → u ≡ 42 ∷ t → IsNotClosed t → BeginsNoGap (47 ∷ u)
no_gap_open u t e closed rest one = open_by (gap_sort (47 ∷ u)) u t rest e closed (past_by (47 ∷ u) rest one)

-- gaps in a row
pub gap_none : (cs : List ℕ) → IsGap cs cs
gap_none cs = (0, refl)

past_joined : (n : ℕ) (cs mid rest : List ℕ) → IsPast n cs mid → IsGap mid rest → IsGap cs rest
past_joined zero cs mid rest e g = subst (λ (x : List ℕ). IsGap x rest) (sym e) g
past_joined (suc n) cs mid rest p g = let more = past_joined n p.0 mid rest p.2 g in (suc more.0, (p.0, p.1, more.1))

pub gap_joined : (cs mid rest : List ℕ) → IsGap cs mid → IsGap mid rest → IsGap cs rest
gap_joined cs mid rest a b = past_joined a.0 cs mid rest a.1 b

pub gap_more : (cs mid rest : List ℕ) → IsGap cs mid → IsPastOne mid rest → IsGap cs rest
gap_more cs mid rest a one = gap_joined cs mid rest a (1, (rest, one, refl))

one_gap_by :
    (n m : ℕ) (cs r s : List ℕ) → IsPast n cs r → IsPast m cs s → BeginsNoGap r → BeginsNoGap s → r ≡ s
one_gap_by zero zero cs r s x y a b = sym x ∙ y
one_gap_by zero (suc m) cs r s x y a b = absurd (a y.0 (subst (λ (z : List ℕ). IsPastOne z y.0) x y.1))
one_gap_by (suc n) zero cs r s x y a b = absurd (b x.0 (subst (λ (z : List ℕ). IsPastOne z x.0) y x.1))
one_gap_by (suc n) (suc m) cs r s x y a b =
    let same : y.0 ≡ x.0 = one_past cs y.0 x.0 y.1 x.1 in
    one_gap_by n m x.0 r s x.2 (subst (λ (z : List ℕ). IsPast m z s) same y.2) a b

-- a gap that is over is one
pub one_gap : (cs r s : List ℕ) → IsGap cs r → IsGap cs s → BeginsNoGap r → BeginsNoGap s → r ≡ s
one_gap cs r s x y a b = one_gap_by x.0 y.0 cs r s x.1 y.1 a b
