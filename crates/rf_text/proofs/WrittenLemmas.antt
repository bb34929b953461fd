-- Names as they are written: what tells bare ones from quoted ones, and where each ends.
use Rattle.std.proofs.Common.{◌≡◌, ◌≢◌, ◌∙◌, ℕ, ◌<◌, ◌≤◌, Bool, true, false, not, ◌&&◌, List, [], ◌∷◌, ◌++◌, length, get_or, refl, sym, ap, All, inl, inr, subst, arith, append_assoc, length-append, take, drop, ◌+◌}
use Rattle.std.specs.Prelude.{◌==◌, ◌||◌, if◌then◌else◌}
use Rattle.std.specs.Char.{is_ascii_alphanumeric}
use Rattle.std.specs.Str.{IsUtf8, chars, is_utf8}
use Rattle.std.proofs.lemmas.Bool.{and_parts, cases_Bool, cases_lt, not-false, ne_eqb}
use Rattle.std.proofs.lemmas.Bool.Decides.{nat_tests}
use Rattle.std.proofs.Math.Seq.{get_or-append_seam}
use Rattle.std.proofs.lemmas.List.{get_or_default, take_at, drop_at}
use Rattle.std.proofs.lemmas.Str.{IsUtf8-from_is_utf8, is_utf8-from_IsUtf8, NoCharPasses-byte, chars-nil, encodes-chars}
use Rattle.unicode_ident.specs.Ident.{is_xid_continue}
use Rattle.unicode_ident.proofs.IdentLemmas.{is_xid_continue-ascii}
use Rattle.rf_text.specs.Identifier.{is_identifier}
use Rattle.rf_text.specs.Keyword.{is_keyword}
use Rattle.rf_text.specs.Written.{CanBeQuoted, EndsName, IsWritten, ends_name, is_bare, written_name}
use Rattle.rf_text.proofs.PrefixLemmas.{BeginsWith, EachFails, EachFails-head, one_prefix}
use Rattle.rf_text.proofs.IdentifierLemmas.{identifier_continues, none_fails}

-- a letter or a digit of ASCII or an underscore
abbrev is_name_byte : ℕ → Bool
is_name_byte b = is_ascii_alphanumeric b || (b == 95)

abbrev pub quoted : List ℕ → List ℕ
quoted name = 39 ∷ (name ++ 39 ∷ [])

pub written_bare : (name : List ℕ) → is_bare name ≡ true → written_name name ≡ name
written_bare name bare = ap (λ b. if b then name else quoted name) bare

pub written_quoted : (name : List ℕ) → is_bare name ≡ false → written_name name ≡ quoted name
written_quoted name bare = ap (λ b. if b then name else quoted name) bare

-- what a bare name is
pub is_bare-parts : (name : List ℕ) → is_bare name ≡ true → (is_utf8 name ≡ true) × (is_identifier (chars name) ≡ true) × (not (is_keyword name) ≡ true)
unfolding is_bare
is_bare-parts name bare =
    let parts = and_parts (is_utf8 name) (is_identifier (chars name) && not (is_keyword name)) bare in
    let named = and_parts (is_identifier (chars name)) (not (is_keyword name)) parts.1 in
    (parts.0, named.0, named.1)

-- a text is bare by what it is made of
pub is_bare-text :
    (name : List ℕ) (identifier keyword : Bool) → IsUtf8 name → identifier ≡ is_identifier (chars name) → keyword ≡ is_keyword name →
    (identifier && not keyword) ≡ is_bare name
unfolding is_bare
is_bare-text name identifier keyword utf8 named kept =
    ap (λ i. i && not keyword) named ∙ ap (λ k. is_identifier (chars name) && not k) kept ∙
    ap (λ u. u && (is_identifier (chars name) && not (is_keyword name))) (sym (is_utf8-from_IsUtf8 name utf8))

-- a byte of ASCII in a bare name is one of plain names
bare_byte : (name : List ℕ) (k : ℕ) → is_bare name ≡ true → k < length name → get_or name k 0 < 128 → is_name_byte (get_or name k 0) ≡ true
bare_byte name k bare h low =
    let parts = is_bare-parts name bare in
    let fails = none_fails (chars name) (identifier_continues (chars name) parts.1) in
    let spelled = encodes-chars name (IsUtf8-from_is_utf8 name parts.0) in
    let kept = NoCharPasses-byte (λ c. not (is_xid_continue c)) name k (chars name, spelled, fails) h low in
    sym (is_xid_continue-ascii (get_or name k 0) low) ∙ not-false (is_xid_continue (get_or name k 0)) kept

-- so a bare name has none of the bytes that neither are beyond ASCII nor are in plain names
bare_fails :
    (p : ℕ → Bool) (name : List ℕ) → ((b : ℕ) → 128 ≤ b → p b ≡ false) → ((b : ℕ) → is_name_byte b ≡ true → p b ≡ false) →
    is_bare name ≡ true → EachFails p name
bare_fails p name high plain bare k d h =
    let same : get_or name k d ≡ get_or name k 0 = get_or_default name k d 0 h in
    ap p same ∙ elim (cases_lt (get_or name k 0) 128) [
      | inl low ↦ plain (get_or name k 0) (bare_byte name k bare h low)
      | inr beyond ↦ high (get_or name k 0) beyond
    ]

high_ends : (b : ℕ) → 128 ≤ b → ends_name b ≡ false
high_ends b h = grind (arith, nat_tests)

plain_ends : (b : ℕ) → is_name_byte b ≡ true → ends_name b ≡ false
plain_ends b h = grind (arith, nat_tests)

high_quote : (b : ℕ) → 128 ≤ b → (b == 39) ≡ false
high_quote b h = grind (arith, nat_tests)

plain_quote : (b : ℕ) → is_name_byte b ≡ true → (b == 39) ≡ false
plain_quote b h = grind (arith, nat_tests)

pub bare_no_end : (name : List ℕ) → is_bare name ≡ true → EachFails ends_name name
bare_no_end name bare = bare_fails ends_name name high_ends plain_ends bare

bare_no_quote : (name : List ℕ) → is_bare name ≡ true → EachFails (λ b. b == 39) name
bare_no_quote name bare = bare_fails (λ b. b == 39) name high_quote plain_quote bare

-- no bare name is empty or begins with a quote
bare_some : is_bare [] ≡ true → ⊥
bare_some bare =
    let named : is_identifier (chars []) ≡ true = (is_bare-parts [] bare).1 in
    let none : is_identifier (chars []) ≡ false = ap is_identifier chars-nil in
    cc

pub bare_unquoted : (name s t : List ℕ) → is_bare name ≡ true → name ++ s ≡ 39 ∷ t → ⊥
bare_unquoted [] s t bare e = bare_some bare
bare_unquoted (x ∷ xs) s t bare e =
    let quote : x ≡ 39 = cc in
    let fails : (x == 39) ≡ false = EachFails-head (λ b. b == 39) x xs (bare_no_quote (x ∷ xs) bare) in
    let passes : (x == 39) ≡ true = ap (λ b. b == 39) quote in
    cc

pub no_quote-fails : (name : List ℕ) → All (λ b. b ≢ 39) name → EachFails (λ b. b == 39) name
no_quote-fails name lacks k d h = ne_eqb (get_or name k d) 39 (lacks k d h)

pub ends-begins : (s : List ℕ) → EndsName s → BeginsWith ends_name s
ends-begins [] ended = tt
ends-begins (x ∷ xs) ended = ended

pub quoted-append : (name s : List ℕ) → quoted name ++ s ≡ 39 ∷ (name ++ 39 ∷ s)
quoted-append name s = ap (λ l. 39 ∷ l) (append_assoc name (39 ∷ []) s)

-- names between quotes
one_quoted :
    (a b s t : List ℕ) → All (λ x. x ≢ 39) a → All (λ x. x ≢ 39) b → a ++ 39 ∷ s ≡ b ++ 39 ∷ t → (a ≡ b) × (s ≡ t)
one_quoted a b s t na nb e =
    let both = one_prefix (λ x. x == 39) a b (39 ∷ s) (39 ∷ t) (no_quote-fails a na) (no_quote-fails b nb) refl refl e in
    let rests : 39 ∷ s ≡ 39 ∷ t = both.1 in
    (both.0, cc)

-- a written name, by whether it is bare
as_bare : (name s text : List ℕ) → is_bare name ≡ true → written_name name ++ s ≡ text → name ++ s ≡ text
as_bare name s text bare e = ap (λ w. w ++ s) (sym (written_bare name bare)) ∙ e

as_quoted : (name s text : List ℕ) → is_bare name ≡ false → written_name name ++ s ≡ text → 39 ∷ (name ++ 39 ∷ s) ≡ text
as_quoted name s text bare e = sym (quoted-append name s) ∙ ap (λ w. w ++ s) (sym (written_quoted name bare)) ∙ e

pub one_written :
    (a b s t : List ℕ) → CanBeQuoted a → CanBeQuoted b → EndsName s → EndsName t → written_name a ++ s ≡ written_name b ++ t →
    (a ≡ b) × (s ≡ t)
one_written a b s t qa qb es et e = elim (cases_Bool (is_bare a)) [
  | inl x ↦ elim (cases_Bool (is_bare b)) [
    | inl y ↦ (let same : a ++ s ≡ b ++ t = as_bare a s (b ++ t) x (sym (as_bare b t (written_name a ++ s) y (sym e))) in
        one_prefix ends_name a b s t (bare_no_end a x) (bare_no_end b y) (ends-begins s es) (ends-begins t et) same)
    | inr y ↦ (let same : a ++ s ≡ 39 ∷ (b ++ 39 ∷ t) = as_bare a s (39 ∷ (b ++ 39 ∷ t)) x (sym (as_quoted b t (written_name a ++ s) y (sym e))) in
        absurd (bare_unquoted a s (b ++ 39 ∷ t) x same))
  ]
  | inr x ↦ elim (cases_Bool (is_bare b)) [
    | inl y ↦ (let same : b ++ t ≡ 39 ∷ (a ++ 39 ∷ s) = as_bare b t (39 ∷ (a ++ 39 ∷ s)) y (sym (as_quoted a s (written_name b ++ t) x e)) in
        absurd (bare_unquoted b t (a ++ 39 ∷ s) y same))
    | inr y ↦ (let same : 39 ∷ (a ++ 39 ∷ s) ≡ 39 ∷ (b ++ 39 ∷ t) = as_quoted a s (39 ∷ (b ++ 39 ∷ t)) x (sym (as_quoted b t (written_name a ++ s) y (sym e))) in
        let tails : a ++ 39 ∷ s ≡ b ++ 39 ∷ t = cc in
        one_quoted a b s t qa.no_quote qb.no_quote tails)
  ]
]

pub written_injective : (a b : List ℕ) → CanBeQuoted a → CanBeQuoted b → written_name a ≡ written_name b → a ≡ b
written_injective a b qa qb e = (one_written a b [] [] qa qb tt tt (ap (λ w. w ++ []) e)).0

-- what a search for the end of a quoted name finds, where this follows the first quote
quoted_inside :
    (bytes inner name tail : List ℕ) → bytes ≡ 39 ∷ inner → IsWritten bytes name tail → (is_bare name ≡ false) × (inner ≡ name ++ 39 ∷ tail)
quoted_inside bytes inner name tail begun w = elim (cases_Bool (is_bare name)) [
  | inl bare ↦ absurd (bare_unquoted name tail inner bare (as_bare name tail (39 ∷ inner) bare (sym w.joined ∙ begun)))
  | inr bare ↦ (let whole : 39 ∷ (name ++ 39 ∷ tail) ≡ 39 ∷ inner = as_quoted name tail (39 ∷ inner) bare (sym w.joined ∙ begun) in
      let same : name ++ 39 ∷ tail ≡ inner = cc in
      (bare, sym same))
]

pub quoted_closed : (bytes inner name tail : List ℕ) → bytes ≡ 39 ∷ inner → All (λ b. b ≢ 39) inner → IsWritten bytes name tail → ⊥
quoted_closed bytes inner name tail begun lacks w =
    let there : All (λ b. b ≢ 39) (name ++ 39 ∷ tail) = subst (λ (l : List ℕ). All (λ b. b ≢ 39) l) (quoted_inside bytes inner name tail begun w).1 lacks in
    there (length name) 0 (omega (arith, length-append name (39 ∷ tail))) (get_or-append_seam name 39 tail 0)

pub quoted_found :
    (bytes inner prefix rest name tail : List ℕ) → bytes ≡ 39 ∷ inner → inner ≡ prefix ++ 39 ∷ rest → All (λ b. b ≢ 39) prefix →
    IsWritten bytes name tail → (take (length prefix + 2) bytes ≡ written_name name) × (drop (length prefix + 2) bytes ≡ tail)
quoted_found bytes inner prefix rest name tail begun split lacks w =
    let inside = quoted_inside bytes inner name tail begun w in
    let same = one_quoted prefix name rest tail lacks w.named.no_quote (sym split ∙ inside.1) in
    let size : length (written_name name) ≡ length prefix + 2 =
    omega (arith, ap length (written_quoted name inside.0), length-append name (39 ∷ []), ap length same.0) in (
      ap (take (length prefix + 2)) w.joined ∙ take_at (written_name name) tail (length prefix + 2) size,
      ap (drop (length prefix + 2)) w.joined ∙ drop_at (written_name name) tail (length prefix + 2) size,
    )

-- what a search for the end of a bare name finds
pub bare_found :
    (bytes prefix rest name tail : List ℕ) → ((inner : List ℕ) → bytes ≡ 39 ∷ inner → ⊥) → bytes ≡ prefix ++ rest → EachFails ends_name prefix →
    EndsName rest → IsWritten bytes name tail → (prefix ≡ written_name name) × (rest ≡ tail)
bare_found bytes prefix rest name tail unquoted split plain ended w = elim (cases_Bool (is_bare name)) [
  | inl bare ↦ (let whole : name ++ tail ≡ bytes = as_bare name tail bytes bare (sym w.joined) in
      let same = one_prefix ends_name prefix name rest tail plain (bare_no_end name bare) (ends-begins rest ended) (ends-begins tail w.ended) (sym split ∙ sym whole) in
      (same.0 ∙ sym (written_bare name bare), same.1))
  | inr bare ↦ absurd (unquoted (name ++ 39 ∷ tail) (sym (as_quoted name tail bytes bare (sym w.joined))))
]
