-- Totals of upper ends, of which one can be left out.
use Rattle.std.specs.Prelude.{◌≡◌, ℕ, ◌-◌, ◌≤◌, Bool, Option, Some, None, unwrap_or}
use Rattle.rf_finite.specs.Range.{sum_below}
use Rattle.rf_finite.specs.declared.totals.EndsTotal.{EndsTotal}

-- 1 where there is no end
abbrev pub missing : Option ℕ → ℕ
missing None = 1
missing (Some e) = 0

-- it is the total of the ends f over the numbers below n that pass
pub record IsTotal (n : ℕ) (p : ℕ → Bool) (f : ℕ → Option ℕ) (total : EndsTotal) : Type 0 where
  pub finite : total.finite ≡ sum_below n p (λ k. unwrap_or (f k) 0)
  pub unbounded : total.unbounded ≡ sum_below n p (λ k. missing (f k))

-- an end may be one of those of a total
pub record HasEnd (total : EndsTotal) (end : Option ℕ) : Type 0 where
  pub finite : unwrap_or end 0 ≤ total.finite
  pub unbounded : missing end ≤ total.unbounded

-- the total without it
abbrev pub without : EndsTotal → Option ℕ → EndsTotal
without total end = record { finite = total.finite - unwrap_or end 0; unbounded = total.unbounded - missing end }
