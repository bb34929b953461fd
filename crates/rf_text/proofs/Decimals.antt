-- The first byte of a decimal spelling, and what `parse` makes of a text that begins so.
use Rattle.std.proofs.Common.{◌≡◌, ℕ, zero, suc, ◌<◌, ◌^◌, List, length, get_or, refl, sym, ◌∙◌, ap, arith, Ok, Result, OkIff}
use Rattle.std.proofs.lemmas.Fmt.{decimal_digit, first_decimal, decimal_nonempty, IsAscii-decimal, decimal-digits_value}
use Rattle.std.proofs.lemmas.Str.{IsUtf8-from_ascii}
use Rattle.std.proofs.lemmas.Str.Parse.{numerals_by_value, tells_digits, parse_plain}
use Rattle.std.specs.Fmt.{decimal}
use Rattle.std.specs.Str.{IsUtf8}
use Rattle.std.specs.Str.Parse.{ParsesUnsigned, AllDigits, digits_value}
use Rattle.rf_text.specs.Private.Number.{IsPlain}

-- of a number from 1 on the first digit isn't 0, and none begins with a plus
pub IsPlain-decimal : (n : ℕ) → n < 2 ^ 64 → IsPlain (decimal n)
IsPlain-decimal zero h = rw (decimal_digit 0 (omega arith)) record { nonempty = omega arith; no_plus = omega arith; no_zero = λ _. refl }
IsPlain-decimal (suc n) h =
    let first : 48 < get_or (decimal (suc n)) 0 0 = first_decimal (suc n) (omega arith) h in
    record { nonempty = decimal_nonempty (suc n) h; no_plus = omega arith; no_zero = λ e. absurd (omega arith) }

pub IsUtf8-decimal : (n : ℕ) → n < 2 ^ 64 → IsUtf8 (decimal n)
IsUtf8-decimal n h = IsUtf8-from_ascii (decimal n) (IsAscii-decimal n h)

-- what is parsed of a plain text is spelled so
pub spelled : {E : Type 0} (bs : List ℕ) (n : ℕ) (r : Result ℕ E) → IsPlain bs → ParsesUnsigned 64 10 bs r → r ≡ Ok n → bs ≡ decimal n
spelled {E} bs n r plain parsed e =
    let own = numerals_by_value (AllDigits 10) tells_digits in
    let known : OkIff r (AllDigits 10 bs × (0 < length bs) × (digits_value 10 bs < 2 ^ 64)) (digits_value 10 bs) = parse_plain own 64 bs r parsed plain.no_plus in
    let at : OkIff {T = ℕ} {E = E} (Ok n) (AllDigits 10 bs × (0 < length bs) × (digits_value 10 bs < 2 ^ 64)) (digits_value 10 bs) = rw e at known in
    sym (decimal-digits_value own bs at.0.0 at.0.1 plain.no_zero at.0.2) ∙ ap decimal (sym at.1)
