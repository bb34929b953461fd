-- The names of the problem can be written, and no two of them are the same.
use Rattle.std.proofs.Common.{◌≡◌, ◌≢◌, ◌≤◌, ◌<◌, ◌^◌, ℕ, List, [], ◌∷◌, length, All, codes, decimal, get_or, ap, arith}
use Rattle.std.proofs.lemmas.List.{append_cancel_left}
use Rattle.std.proofs.lemmas.List.Elements.{All-cons, All-nil, All-from_recursion}
use Rattle.std.specs.List.{AllByRecursion}
use Rattle.std.proofs.lemmas.Fmt.{decimal_injective, decimal_is_IsNumeral, length-decimal-le}
use Rattle.std.proofs.lemmas.Str.Parse.{digit_from_value}
use Rattle.std.specs.Str.Parse.{AllDigits}
use Rattle.rf_text.specs.Written.{CanBeQuoted}
use Rattle.rf_grow.specs.Grown.{part_name}

-- letters and digits
abbrev IsPlain : ℕ → Type 0
IsPlain b = 48 ≤ b

-- a short name of letters and digits can be written
quotable : (name : List ℕ) → All IsPlain name → length name ≤ 255 → CanBeQuoted name
quotable name plain short = record {
  no_quote = λ k d l e. absurd (let p = plain k d l in omega arith);
  no_line_feed = λ k d l e. absurd (let p = plain k d l in omega arith);
  no_return = λ k d l e. absurd (let p = plain k d l in omega arith);
  short = short;
}

plain_digits : (ds : List ℕ) → AllDigits 10 ds → All IsPlain ds
plain_digits [] d = All-nil IsPlain
plain_digits (c ∷ cs) d = All-cons IsPlain c cs (omega (arith, digit_from_value c d.0)) (plain_digits cs d.1)

pub part_name_quotable : (k : ℕ) → k < 2 ^ 32 → CanBeQuoted (part_name k)
part_name_quotable k l =
    let short = length-decimal-le 10 k (omega arith) (omega arith) (omega arith) in
    quotable (part_name k)
    (All-cons IsPlain 112 (decimal k) (omega arith) (plain_digits (decimal k) (decimal_is_IsNumeral k (omega arith)).0.1)) (omega arith)

pub part_names_differ : (j k : ℕ) → j < k → k < 2 ^ 32 → part_name j ≢ part_name k
part_names_differ j k l small same =
    let e : j ≡ k = decimal_injective j k (omega arith) (omega arith) (append_cancel_left (codes "p") (decimal j) (decimal k) same) in
    absurd (omega arith)

pub part_name_first : (k : ℕ) → part_name k ≢ codes "t"
part_name_first k same = absurd (let e : 112 ≡ 116 = ap (λ bs. get_or bs 0 0) same in omega arith)

-- the names of what is declared
spelled : (name : List ℕ) → AllByRecursion IsPlain name → length name ≤ 255 → CanBeQuoted name
spelled name plain short = quotable name (All-from_recursion IsPlain name plain) short

pub whole_name_quotable : CanBeQuoted (codes "t")
whole_name_quotable = spelled (codes "t") (omega arith, tt) (omega arith)

pub top_quotable : CanBeQuoted (codes "Top")
top_quotable = spelled (codes "Top") (omega arith, (omega arith, (omega arith, tt))) (omega arith)

pub part_quotable : CanBeQuoted (codes "Part")
part_quotable = spelled (codes "Part") (omega arith, (omega arith, (omega arith, (omega arith, tt)))) (omega arith)

pub parts_quotable : CanBeQuoted (codes "parts")
parts_quotable = spelled (codes "parts") (omega arith, (omega arith, (omega arith, (omega arith, (omega arith, tt))))) (omega arith)

pub next_quotable : CanBeQuoted (codes "next")
next_quotable = spelled (codes "next") (omega arith, (omega arith, (omega arith, (omega arith, tt)))) (omega arith)

pub loop_quotable : CanBeQuoted (codes "loop")
loop_quotable = spelled (codes "loop") (omega arith, (omega arith, (omega arith, (omega arith, tt)))) (omega arith)
