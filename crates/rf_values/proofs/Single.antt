-- The count that contains 1 alone.
use Rattle.std.proofs.Common.{◌≡◌, ◌↔◌, ℕ, ◌+◌, Bool, true, false, ◌&&◌, Option, Some, None, refl, inl, inr, arith}
use Rattle.std.specs.Prelude.{◌==◌, nat_le}
use Rattle.std.proofs.lemmas.Bool.{and_parts, and_from, leb-true, le-leb, eq-eqb, eqb-true, cases_lt}
use Rattle.rf_finite.specs.Ends.{within}
use Rattle.rf_values.specs.Count.{ends_at}

-- whether n is from lo to hi
abbrev lies : ℕ → Option ℕ → ℕ → Bool
lies lo hi n = nat_le lo n && within n hi

abbrev is_one : ℕ → Option ℕ → Bool
is_one lo hi = lo == 1 && ends_at 1 hi

pub one-from_single : (lo : ℕ) (hi : Option ℕ) → is_one lo hi ≡ true → (n : ℕ) → (lies lo hi n ≡ true) ↔ (n ≡ 1)
one-from_single lo None h n = let parts = and_parts (lo == 1) false h in let never : false ≡ true = parts.1 in cc
one-from_single lo (Some m) h n =
    let parts = and_parts (lo == 1) (m == 1) h in
    let low : lo ≡ 1 = eqb-true lo 1 parts.0 in
    let high : m ≡ 1 = eqb-true m 1 parts.1 in (
      λ l. (let both = and_parts (nat_le lo n) (nat_le n m) l in let above = leb-true lo n both.0 in let below = leb-true n m both.1 in omega arith),
      λ e. and_from (nat_le lo n) (nat_le n m) (le-leb lo n (omega arith)) (le-leb n m (omega arith)),
    )

pub single-from_one : (lo : ℕ) (hi : Option ℕ) → ((n : ℕ) → (lies lo hi n ≡ true) ↔ (n ≡ 1)) → is_one lo hi ≡ true
single-from_one lo None h =
    let at = (h (lo + 2)).0 (and_from (nat_le lo (lo + 2)) true (le-leb lo (lo + 2) (omega arith)) refl) in
    absurd (omega arith)
single-from_one lo (Some m) h =
    let one = and_parts (nat_le lo 1) (nat_le 1 m) ((h 1).1 refl) in
    let above = leb-true lo 1 one.0 in
    let below = leb-true 1 m one.1 in
    let last = (h m).0 (and_from (nat_le lo m) (nat_le m m) (le-leb lo m (omega arith)) (le-leb m m (omega arith))) in
    elim (cases_lt 0 lo) [
      | inl positive ↦ and_from (lo == 1) (m == 1) (eq-eqb lo 1 (omega arith)) (eq-eqb m 1 last)
      | inr none ↦ (let zero_is_one = (h 0).0 (and_from (nat_le lo 0) (nat_le 0 m) (le-leb lo 0 none) (le-leb 0 m (omega arith))) in absurd (omega arith))
    ]
