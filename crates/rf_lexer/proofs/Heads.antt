-- What lexemes, spaces and comments begin with tells them apart.
use Rattle.std.proofs.Common.{◌≡◌, ◌∙◌, ℕ, ◌≤◌, true, cond, ◌||◌, List, [], ◌∷◌, ◌++◌, refl, sym, ap, inl, inr, arith}
use Rattle.std.specs.Prelude.{◌==◌, nat_lt}
use Rattle.std.specs.Char.{is_ascii_alphabetic, is_ascii_digit}
use Rattle.std.proofs.lemmas.Bool.{cases_lt}
use Rattle.std.proofs.lemmas.Bool.Decides.{nat_tests}
use Rattle.unicode_ident.proofs.IdentLemmas.{is_xid_start-ascii}
use Rattle.rf_lexer.specs.Gap.{IsPastOne, is_space}
use Rattle.rf_lexer.specs.Kind.{Spells}
use Rattle.rf_text.specs.Identifier.{IsIdentifier, IsQuoted, starts_identifier}
use Rattle.rf_lexer.specs.Lexeme.{IsNumber}
use Rattle.rf_lexer.specs.Spelling.{mark_spelling}
use Rattle.rf_lexer.specs.declared.mark.Mark.{Mark as AnyMark}
use Rattle.rf_lexer.specs.declared.mark.Mark.TheVariants.{Dot, DotDot, Comma, Semicolon, Colon, ColonColon, LeftParen, RightParen, LeftBracket, RightBracket, LeftBrace, RightBrace, Bang, Question, Star, Plus, Equal, PlusEqual, EqualEqual, BangEqual, Iff}
use Rattle.rf_lexer.specs.declared.token.Kind.{Kind}
use Rattle.rf_lexer.specs.declared.token.Kind.TheVariants.{Word, Name, Quoted, Number, Mark}
use Rattle.rf_lexer.proofs.Gaps.{PastBy, Sort, blank, percent, slashes, block, gap_sort, past_by}

-- 0 for identifiers, 1 for quoted names, 2 for numbers, 3 for marks, 4 for spaces and comments
abbrev pub low_sort : ℕ → ℕ
low_sort h = cond (h == 39) 1 (cond (is_ascii_digit h) 2 (cond (is_space h || ((h == 37) || (h == 47))) 4 3))

abbrev pub high_sort : ℕ → ℕ
high_sort h = cond ((h == 91) || ((h == 93) || ((h == 123) || (h == 125)))) 3 0

abbrev pub sort_at : ℕ → ℕ
sort_at h = cond (nat_lt h 65) (low_sort h) (high_sort h)

abbrev pub kind_sort : Kind → ℕ
kind_sort (Word k) = 0
kind_sort (Name t) = 0
kind_sort (Quoted t) = 1
kind_sort (Number n) = 2
kind_sort (Mark m) = 3

pub record Headed (sort : ℕ) (cs : List ℕ) : Type 0 where
  pub head : ℕ
  pub tail : List ℕ
  pub joined : cs ≡ head ∷ tail
  pub is : sort_at head ≡ sort

starts_low : (h : ℕ) → (is_ascii_alphabetic h || (h == 95)) ≡ true → sort_at h ≡ 0
starts_low h e = grind (arith, nat_tests)

starts_high : (h : ℕ) → 128 ≤ h → sort_at h ≡ 0
starts_high h e = grind (arith, nat_tests)

pub starts_sort : (h : ℕ) → starts_identifier h ≡ true → sort_at h ≡ 0
starts_sort h e = elim (cases_lt h 128) [
  | inl low ↦ starts_low h (ap (λ b. b || (h == 95)) (sym (is_xid_start-ascii h low)) ∙ e)
  | inr high ↦ starts_high h high
]

pub digit_sort : (h : ℕ) → 48 ≤ h → h ≤ 57 → sort_at h ≡ 2
digit_sort h low high = grind (arith, nat_tests)

pub space_sort : (h : ℕ) → is_space h ≡ true → sort_at h ≡ 4
space_sort h e = grind (arith, nat_tests)

pub identifier_head : (cs : List ℕ) → IsIdentifier cs → Headed 0 cs
identifier_head [] i = absurd i
identifier_head (c ∷ cs) i = record { head = c; tail = cs; joined = refl; is = starts_sort c i.0 }

pub quoted_head : (name cs : List ℕ) → IsQuoted name cs → Headed 1 cs
quoted_head name cs q = record { head = 39; tail = name ++ 39 ∷ []; joined = q.joined; is = refl }

pub number_head : (cs : List ℕ) → IsNumber cs → Headed 2 cs
number_head [] n = absurd n
number_head (d ∷ ds) (inl z) = record { head = d; tail = ds; joined = refl; is = ap sort_at z.0 }
number_head (d ∷ ds) (inr z) = record { head = d; tail = ds; joined = refl; is = digit_sort d (omega (arith, z.0)) z.1 }

pub mark_head : (m : AnyMark) → Headed 3 (mark_spelling m)
mark_head Dot = record { head = 46; tail = []; joined = refl; is = refl }
mark_head DotDot = record { head = 46; tail = 46 ∷ []; joined = refl; is = refl }
mark_head Comma = record { head = 44; tail = []; joined = refl; is = refl }
mark_head Semicolon = record { head = 59; tail = []; joined = refl; is = refl }
mark_head Colon = record { head = 58; tail = []; joined = refl; is = refl }
mark_head ColonColon = record { head = 58; tail = 58 ∷ []; joined = refl; is = refl }
mark_head LeftParen = record { head = 40; tail = []; joined = refl; is = refl }
mark_head RightParen = record { head = 41; tail = []; joined = refl; is = refl }
mark_head LeftBracket = record { head = 91; tail = []; joined = refl; is = refl }
mark_head RightBracket = record { head = 93; tail = []; joined = refl; is = refl }
mark_head LeftBrace = record { head = 123; tail = []; joined = refl; is = refl }
mark_head RightBrace = record { head = 125; tail = []; joined = refl; is = refl }
mark_head Bang = record { head = 33; tail = []; joined = refl; is = refl }
mark_head Question = record { head = 63; tail = []; joined = refl; is = refl }
mark_head Star = record { head = 42; tail = []; joined = refl; is = refl }
mark_head Plus = record { head = 43; tail = []; joined = refl; is = refl }
mark_head Equal = record { head = 61; tail = []; joined = refl; is = refl }
mark_head PlusEqual = record { head = 43; tail = 61 ∷ []; joined = refl; is = refl }
mark_head EqualEqual = record { head = 61; tail = 61 ∷ []; joined = refl; is = refl }
mark_head BangEqual = record { head = 33; tail = 61 ∷ []; joined = refl; is = refl }
mark_head Iff = record { head = 60; tail = 45 ∷ 62 ∷ []; joined = refl; is = refl }

pub kind_head : (kind : Kind) (cs : List ℕ) → Spells kind cs → Headed (kind_sort kind) cs
kind_head (Word k) cs s = identifier_head cs s.0
kind_head (Name t) cs s = identifier_head cs s.0
kind_head (Quoted t) cs s = quoted_head s.0 cs s.1
kind_head (Number n) cs s = number_head cs s.0
kind_head (Mark m) cs s =
    let h = mark_head m in
    record { head = h.head; tail = h.tail; joined = s ∙ h.joined; is = h.is }

past_head_by : (s : Sort) (cs rest : List ℕ) → PastBy s cs rest → Headed 4 cs
past_head_by blank cs rest p = record { head = p.0; tail = rest; joined = p.2; is = space_sort p.0 p.1 }
past_head_by percent cs rest p = record { head = 37; tail = p.0; joined = p.1; is = refl }
past_head_by slashes cs rest p = record { head = 47; tail = 47 ∷ p.0; joined = p.1; is = refl }
past_head_by block cs rest p = record { head = 47; tail = 42 ∷ p.0; joined = p.1; is = refl }

pub past_head : (cs rest : List ℕ) → IsPastOne cs rest → Headed 4 cs
past_head cs rest one = past_head_by (gap_sort cs) cs rest (past_by cs rest one)

pub head_once : (a b : ℕ) (cs : List ℕ) → Headed a cs → Headed b cs → a ≡ b
head_once a b cs x y =
    let both : x.head ∷ x.tail ≡ y.head ∷ y.tail = sym x.joined ∙ y.joined in
    let same : x.head ≡ y.head = cc in
    sym x.is ∙ ap sort_at same ∙ y.is

pub head_prefix : (a : ℕ) (cs prefix suffix : List ℕ) → cs ≡ prefix ++ suffix → Headed a prefix → Headed a cs
head_prefix a cs prefix suffix e x = record {
  head = x.head;
  tail = x.tail ++ suffix;
  joined = e ∙ ap (λ f. f ++ suffix) x.joined;
  is = x.is;
}

-- what a lexeme at the beginning has as its first character
pub prefix_head : (kind : Kind) (cs prefix suffix : List ℕ) → Spells kind prefix → cs ≡ prefix ++ suffix → Headed (kind_sort kind) cs
prefix_head kind cs prefix suffix s e = head_prefix (kind_sort kind) cs prefix suffix e (kind_head kind prefix s)

pub kind_sort_small : (kind : Kind) → kind_sort kind ≤ 3
kind_sort_small (Word k) = omega arith
kind_sort_small (Name t) = omega arith
kind_sort_small (Quoted t) = omega arith
kind_sort_small (Number n) = omega arith
kind_sort_small (Mark m) = omega arith
