-- Counts of small ranges.
use Rattle.std.proofs.Common.{◌≡◌, ℕ, ◌≤◌, Option, Some, None, refl, arith}
use Rattle.std.specs.Option.{ForSome}
use Rattle.rf_bounds.specs.declared.TheConstants.{GREATEST_NUMBER}
use Rattle.rf_problem.specs.Valid.{IsSmall}
use Rattle.rf_syntax.specs.declared.class.MultPlace.{MultPlace}
use Rattle.rf_syntax.specs.declared.class.MultPlace.TheVariants.{Absent as NoMult, AfterType, AfterName}
use Rattle.rf_syntax.specs.declared.range.Range.{Range}
use Rattle.rf_syntax.specs.declared.statement.Item.{Item}
use Rattle.rf_resolve.specs.Readable.{IsSmallMult, IsSmallRange}
use Rattle.rf_build.specs.Resolved.{count_of_item, count_of_mult, count_of_range, count_or_any}

pub IsSmall-range : (r : Range) → IsSmallRange r → IsSmall (count_of_range r)
IsSmall-range r small = record { lower = small.lower; upper = small.upper }

-- any number, and a range of one number or none
any_small : (n : ℕ) → ◌≡◌ {A = Option ℕ} None (Some n) → n ≤ GREATEST_NUMBER
any_small n e = let never : ⊥ = cc in absurd never

one_small : (n : ℕ) → ◌≡◌ {A = Option ℕ} (Some 1) (Some n) → n ≤ GREATEST_NUMBER
one_small n e = let same : 1 ≡ n = cc in omega arith

pub IsSmall-range_or_any : (r : Option Range) → ForSome r IsSmallRange → IsSmall (count_or_any r)
IsSmall-range_or_any None small = record { lower = omega arith; upper = any_small }
IsSmall-range_or_any (Some r) small = IsSmall-range r (small r refl)

pub IsSmall-mult : (m : MultPlace) → IsSmallMult m → IsSmall (count_of_mult m)
IsSmall-mult NoMult small = record { lower = omega arith; upper = one_small }
IsSmall-mult (AfterType m) small = IsSmall-range_or_any m.range small
IsSmall-mult (AfterName m) small = IsSmall-range_or_any m.range small

pub IsSmall-item : (o : Option Item) → ForSome o (λ i. ForSome i.range IsSmallRange) → IsSmall (count_of_item o)
IsSmall-item None small = record { lower = omega arith; upper = one_small }
IsSmall-item (Some i) small = IsSmall-range_or_any i.range (small i refl)
