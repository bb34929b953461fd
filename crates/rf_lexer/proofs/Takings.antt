-- What the code takes from the beginning of a text.
use Rattle.std.proofs.Common.{◌≡◌, ◌∙◌, ℕ, ◌≤◌, ◌<◌, List, [], ◌∷◌, ◌++◌, length, refl, sym, ap, inl, inr, subst, arith, true, append_assoc, Option, Some, None, IfNone, IfSome, Bor}
use Rattle.std.specs.Char.{is_ascii_digit}
use Rattle.std.specs.Str.{encode_utf8_all, chars, IsUtf8}
use Rattle.std.proofs.lemmas.Str.{encodes-chars, encodes_same}
use Rattle.unicode_ident.specs.Ident.{is_xid_continue}
use Rattle.rf_lexer.specs.Fault.{IsLongNameAt}
use Rattle.rf_lexer.specs.Gap.{BeginsNoGap, IsPastOne}
use Rattle.rf_lexer.specs.Kind.{IsLongest}
use Rattle.rf_text.specs.Identifier.{IsQuoted, is_in_quotes, starts_identifier}
use Rattle.rf_lexer.specs.Lexeme.{IsNumber}
use Rattle.rf_lexer.specs.Private.Scan.{IsClosed, IsIdentifierTo, IsLongestMark, IsNumberTo, IsSpan, Takes}
use Rattle.rf_lexer.specs.Spelling.{keyword_spelling, mark_spelling}
use Rattle.rf_lexer.specs.declared.keyword.Keyword.{Keyword}
use Rattle.rf_lexer.specs.declared.mark.Mark.{Mark as AnyMark}
use Rattle.rf_lexer.specs.declared.token.Kind.TheVariants.{Word, Name, Quoted, Mark}
use Rattle.rf_lexer.proofs.Prefixes.{span_longest}
use Rattle.rf_lexer.proofs.Gaps.{past_from_block}
use Rattle.rf_lexer.proofs.Longest.{none_longer_identifier, none_longer_mark, none_longer_quoted}
use Rattle.rf_lexer.proofs.Spellings.{encodes-keyword_spelling}

-- what the first character is
pub begins : (cs t : List ℕ) (d n : ℕ) → cs ≡ d ∷ t → d ≡ n → cs ≡ n ∷ t
begins cs t d n e same = e ∙ ap (λ x. x ∷ t) same

-- the rests that an option has
pub past_if_closed :
    (u t : List ℕ) (o : Option (Bor (List ℕ))) → u ≡ 42 ∷ t → IfSome o (λ r. IsClosed t (chars r.now)) →
    IfSome o (λ r. IsPastOne (47 ∷ u) (chars r.now))
past_if_closed u t None e closed = tt
past_if_closed u t (Some r) e closed = past_from_block u t (chars r.now) e closed

pub none_at : (cs u : List ℕ) (o : Option (Bor (List ℕ))) → cs ≡ 47 ∷ u → IfNone o (BeginsNoGap (47 ∷ u)) → IfNone o (BeginsNoGap cs)
none_at cs u o e none = subst (λ (z : List ℕ). IfNone o (BeginsNoGap z)) (sym e) none

-- an identifier that is a keyword
pub takes_word :
    (cs rest bytes : List ℕ) (k : Keyword) (i : IsIdentifierTo cs rest) → bytes ≡ encode_utf8_all i.word → bytes ≡ keyword_spelling k →
    Takes (Word k) cs rest
takes_word cs rest bytes k i e f =
    let same : i.word ≡ keyword_spelling k =
    encodes_same i.word (keyword_spelling k) (sym e ∙ f ∙ sym (encodes-keyword_spelling k)) in
    record {
      longest = record { lexeme = i.word; joined = i.joined; spelled = (i.identifier, same); longest = none_longer_identifier cs rest i };
      short = λ x. x;
      small = λ x. x;
    }

-- one that isn't
name_longest :
    (cs rest bytes : List ℕ) (i : IsIdentifierTo cs rest) → bytes ≡ encode_utf8_all i.word →
    ((k : Keyword) → bytes ≡ keyword_spelling k → ⊥) → IsLongest (Name bytes) cs rest
name_longest cs rest bytes i e none = record {
  lexeme = i.word;
  joined = i.joined;
  spelled = (i.identifier, λ k same. none k (e ∙ ap encode_utf8_all same ∙ encodes-keyword_spelling k), e);
  longest = none_longer_identifier cs rest i;
}

pub takes_name :
    (cs rest bytes name : List ℕ) (i : IsIdentifierTo cs rest) → bytes ≡ encode_utf8_all i.word →
    ((k : Keyword) → bytes ≡ keyword_spelling k → ⊥) → length bytes ≤ 255 → name ≡ bytes → Takes (Name name) cs rest
takes_name cs rest bytes name i e none short same = record {
  longest = subst (λ (t : List ℕ). IsLongest (Name t) cs rest) (sym same) (name_longest cs rest bytes i e none);
  short = λ long. let size : length name ≡ length bytes = ap length same in absurd (omega (arith, long));
  small = λ x. x;
}

pub long_name :
    (cs rest bytes : List ℕ) (i : IsIdentifierTo cs rest) → bytes ≡ encode_utf8_all i.word →
    ((k : Keyword) → bytes ≡ keyword_spelling k → ⊥) → 255 < length bytes → IsLongNameAt cs
long_name cs rest bytes i e none long =
    record { kind = Name bytes; rest = rest; longest = name_longest cs rest bytes i e none; long = long }

-- a quoted name
quoted_longest_at :
    (cs rest suffix bytes : List ℕ) (s : IsSpan is_in_quotes cs rest) → rest ≡ 39 ∷ suffix → bytes ≡ encode_utf8_all s.prefix →
    IsLongest (Quoted bytes) (39 ∷ cs) suffix
quoted_longest_at cs rest suffix bytes s quote e =
    let joined : 39 ∷ cs ≡ (39 ∷ (s.prefix ++ 39 ∷ [])) ++ suffix =
    ap (λ l. 39 ∷ l) (s.joined ∙ ap (λ l. s.prefix ++ l) quote ∙ sym (append_assoc s.prefix (39 ∷ []) suffix)) in
    let quoted : IsQuoted s.prefix (39 ∷ (s.prefix ++ 39 ∷ [])) = record { joined = refl; plain = s.each } in
    record {
      lexeme = 39 ∷ (s.prefix ++ 39 ∷ []);
      joined = joined;
      spelled = (s.prefix, quoted, e);
      longest = none_longer_quoted (39 ∷ cs) s.prefix (39 ∷ (s.prefix ++ 39 ∷ [])) suffix joined quoted;
    }

pub takes_quoted :
    (cs rest suffix bytes name : List ℕ) (s : IsSpan is_in_quotes cs rest) → rest ≡ 39 ∷ suffix → bytes ≡ encode_utf8_all s.prefix →
    length bytes ≤ 255 → name ≡ bytes → Takes (Quoted name) (39 ∷ cs) suffix
takes_quoted cs rest suffix bytes name s quote e short same = record {
  longest = subst (λ (t : List ℕ). IsLongest (Quoted t) (39 ∷ cs) suffix) (sym same) (quoted_longest_at cs rest suffix bytes s quote e);
  short = λ long. let size : length name ≡ length bytes = ap length same in absurd (omega (arith, long));
  small = λ x. x;
}

pub long_quoted :
    (cs rest suffix bytes : List ℕ) (s : IsSpan is_in_quotes cs rest) → rest ≡ 39 ∷ suffix → bytes ≡ encode_utf8_all s.prefix →
    255 < length bytes → IsLongNameAt (39 ∷ cs)
long_quoted cs rest suffix bytes s quote e long =
    record { kind = Quoted bytes; rest = suffix; longest = quoted_longest_at cs rest suffix bytes s quote e; long = long }

-- a mark
pub takes_mark : (m : AnyMark) (cs rest : List ℕ) → IsLongestMark m cs rest → Takes (Mark m) cs rest
takes_mark m cs rest l = record {
  longest = record { lexeme = mark_spelling m; joined = l.joined; spelled = refl; longest = none_longer_mark m cs rest l };
  short = λ x. x;
  small = λ x. x;
}

-- how far an identifier goes
pub identifier_to :
    (cs after rest : List ℕ) (c : ℕ) → starts_identifier c ≡ true → cs ≡ c ∷ after → IsSpan is_xid_continue after rest →
    IsIdentifierTo cs rest
identifier_to cs after rest c starts e s = record {
  word = c ∷ s.prefix;
  joined = e ∙ ap (λ l. c ∷ l) s.joined;
  identifier = (starts, s.each);
  ends = s.ends;
}

-- how far a number goes
zero_only : (c : ℕ) (after prefix suffix : List ℕ) → c ≡ 48 → IsNumber prefix → c ∷ after ≡ prefix ++ suffix → length prefix ≤ 1
zero_only c after [] suffix z n e = absurd n
zero_only c after (d ∷ ds) suffix z (inl n) e = omega (arith, ap length n.1)
zero_only c after (d ∷ ds) suffix z (inr n) e = let same : c ≡ d = cc in absurd (omega (arith, n.0))

pub number_zero : (c : ℕ) (after : List ℕ) → c ≡ 48 → IsNumberTo (c ∷ after) after
number_zero c after z = record {
  digits = c ∷ [];
  joined = refl;
  number = inl (z, refl);
  ends = λ prefix suffix n e. zero_only c after prefix suffix z n e;
}

digits_only :
    (c : ℕ) (after rest prefix suffix : List ℕ) (s : IsSpan is_ascii_digit after rest) → IsNumber prefix →
    c ∷ after ≡ prefix ++ suffix → length prefix ≤ length (c ∷ s.prefix)
digits_only c after rest [] suffix s n e = absurd n
digits_only c after rest (d ∷ ds) suffix s (inl n) e = omega (arith, ap length n.1)
digits_only c after rest (d ∷ ds) suffix s (inr n) e =
    let tails : after ≡ ds ++ suffix = cc in
    let short = span_longest is_ascii_digit s.prefix ds rest suffix n.2 s.ends (sym s.joined ∙ tails) in
    omega arith

pub number_digits : (c : ℕ) (after rest : List ℕ) → 49 ≤ c → c ≤ 57 → IsSpan is_ascii_digit after rest → IsNumberTo (c ∷ after) rest
number_digits c after rest low high s = record {
  digits = c ∷ s.prefix;
  joined = ap (λ l. c ∷ l) s.joined;
  number = inr (low, high, s.each);
  ends = λ prefix suffix n e. digits_only c after rest prefix suffix s n e;
}

-- a text with a byte has a character
pub has_character : (text : List ℕ) → IsUtf8 text → 0 < length text → chars text ≡ [] → ⊥
has_character text whole more none =
    let empty : text ≡ [] = sym (encodes-chars text whole) ∙ ap encode_utf8_all none in
    absurd (omega (arith, ap length empty))
