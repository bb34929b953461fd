-- What `parse` reads of a number.
use Rattle.std.proofs.Common.{◌≡◌, ◌≢◌, ◌∙◌, ℕ, ◌≤◌, ◌<◌, ◌^◌, List, [], ◌∷◌, ◌++◌, length, get_or, refl, ap, inl, inr, arith, true, Result, Ok, Err, OkIff}
use Rattle.std.proofs.lemmas.Bool.Decides.{nat_tests}
use Rattle.std.proofs.lemmas.Str.{encode_ascii}
use Rattle.std.proofs.lemmas.Str.Parse.{numerals_by_value, tells_digits, parse_plain}
use Rattle.std.specs.Char.{digit_value, is_ascii_digit}
use Rattle.std.specs.Str.{encode_utf8_all}
use Rattle.std.specs.Str.Parse.{ParsesUnsigned, AllDigits, digits_value}
use Rattle.rf_text.specs.Identifier.{EachPasses}
use Rattle.rf_lexer.specs.Fault.{IsBigNumberAt}
use Rattle.rf_lexer.specs.Kind.{IsLongest}
use Rattle.rf_lexer.specs.Lexeme.{IsNumber}
use Rattle.rf_lexer.specs.Private.Scan.{IsNumberTo, Takes}
use Rattle.rf_lexer.specs.declared.token.Kind.TheVariants.{Number}
use Rattle.rf_lexer.proofs.Longest.{none_longer_number}

digit_small : (d : ℕ) → is_ascii_digit d ≡ true → d < 128
digit_small d h = grind (arith, nat_tests)

digit_below : (d : ℕ) → is_ascii_digit d ≡ true → digit_value d < 10
digit_below d h = grind (arith, nat_tests)

digit_from : (d : ℕ) → 48 ≤ d → d ≤ 57 → is_ascii_digit d ≡ true
digit_from d low high = grind (arith, nat_tests)

all_digits : (ds : List ℕ) → EachPasses is_ascii_digit ds → AllDigits 10 ds
all_digits [] each = tt
all_digits (d ∷ ds) each = (digit_below d each.0, all_digits ds each.1)

encoded_digits : (ds : List ℕ) → EachPasses is_ascii_digit ds → encode_utf8_all ds ≡ ds
encoded_digits [] each = refl
encoded_digits (d ∷ ds) each =
    ap (λ l. l ++ encode_utf8_all ds) (encode_ascii d (digit_small d each.0)) ∙ ap (λ l. d ∷ l) (encoded_digits ds each.1)

number_passes : (ds : List ℕ) → IsNumber ds → EachPasses is_ascii_digit ds
number_passes [] n = absurd n
number_passes (d ∷ ds) (inl n) = (digit_from d (omega (arith, n.0)) (omega (arith, n.0)), rw n.1 tt)
number_passes (d ∷ ds) (inr n) = (digit_from d (omega (arith, n.0)) n.1, n.2)

number_begins : (ds : List ℕ) → IsNumber ds → (0 < length ds) × (get_or ds 0 0 ≢ 43)
number_begins [] n = absurd n
number_begins (d ∷ ds) (inl n) = (omega arith, λ e. absurd (omega (arith, n.0)))
number_begins (d ∷ ds) (inr n) = (omega arith, λ e. absurd (omega (arith, n.0)))

abbrev Reads : {E : Type 0} → Result ℕ E → List ℕ → Type 0
Reads r ds = OkIff r (AllDigits 10 ds × (0 < length ds) × (digits_value 10 ds < 2 ^ 32)) (digits_value 10 ds)

parsed : {E : Type 0} (ds bytes : List ℕ) (r : Result ℕ E) → IsNumber ds → bytes ≡ encode_utf8_all ds → ParsesUnsigned 32 10 bytes r → Reads r ds
parsed {E} ds bytes r n e p =
    let own = numerals_by_value (AllDigits 10) tells_digits in
    let same : bytes ≡ ds = e ∙ encoded_digits ds (number_passes ds n) in
    let at : ParsesUnsigned 32 10 ds r = rw same at p in
    parse_plain own 32 ds r at (number_begins ds n).1

value_of : {E : Type 0} (n : ℕ) (r : Result ℕ E) (ds : List ℕ) → r ≡ Ok n → Reads r ds → n ≡ digits_value 10 ds
value_of {E} n r ds e p = let at : Reads {E = E} (Ok n) ds = rw e at p in at.1

value_big : {E : Type 0} (x : E) (r : Result ℕ E) (ds : List ℕ) → r ≡ Err x → IsNumber ds → Reads r ds → 1000000 < digits_value 10 ds
value_big {E} x r ds e n p =
    let at : Reads {E = E} (Err x) ds = rw e at p in
    let small : digits_value 10 ds < 2 ^ 32 → ⊥ =
    λ h. at (all_digits ds (number_passes ds n), (number_begins ds n).0, h) in
    omega (arith, small)

number_longest : (cs rest : List ℕ) (n : ℕ) (i : IsNumberTo cs rest) → n ≡ digits_value 10 i.digits → IsLongest (Number n) cs rest
number_longest cs rest n i e = record {
  lexeme = i.digits;
  joined = i.joined;
  spelled = (i.number, e);
  longest = none_longer_number cs rest i;
}

pub takes_number :
    {E : Type 0} (cs rest bytes : List ℕ) (n : ℕ) (r : Result ℕ E) (i : IsNumberTo cs rest) → bytes ≡ encode_utf8_all i.digits →
    ParsesUnsigned 32 10 bytes r → r ≡ Ok n → n ≤ 1000000 → Takes (Number n) cs rest
takes_number cs rest bytes n r i e p ok small = record {
  longest = number_longest cs rest n i (value_of n r i.digits ok (parsed i.digits bytes r i.number e p));
  short = λ x. x;
  small = λ big. absurd (omega (arith, big));
}

pub big_number :
    {E : Type 0} (cs rest bytes : List ℕ) (n : ℕ) (r : Result ℕ E) (i : IsNumberTo cs rest) → bytes ≡ encode_utf8_all i.digits →
    ParsesUnsigned 32 10 bytes r → r ≡ Ok n → 1000000 < n → IsBigNumberAt cs
big_number cs rest bytes n r i e p ok big = record {
  kind = Number n;
  rest = rest;
  longest = number_longest cs rest n i (value_of n r i.digits ok (parsed i.digits bytes r i.number e p));
  big = big;
}

pub bigger_number :
    {E : Type 0} (cs rest bytes : List ℕ) (x : E) (r : Result ℕ E) (i : IsNumberTo cs rest) → bytes ≡ encode_utf8_all i.digits →
    ParsesUnsigned 32 10 bytes r → r ≡ Err x → IsBigNumberAt cs
bigger_number cs rest bytes x r i e p err = record {
  kind = Number (digits_value 10 i.digits);
  rest = rest;
  longest = number_longest cs rest (digits_value 10 i.digits) i refl;
  big = value_big x r i.digits err i.number (parsed i.digits bytes r i.number e p);
}
