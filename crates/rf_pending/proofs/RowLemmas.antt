-- Rows that are numbered reference by reference.
use Rattle.std.proofs.Common.{◌≡◌, ℕ, zero, suc, ◌+◌, ◌*◌, ◌/◌, ◌%◌, ◌<◌, ◌==◌, ◌&&◌, true, false, Option, Some, None, refl, sym, ap, ap₂, ◌∙◌, subst, arith}
use Rattle.std.specs.Option.{option_or}
use Rattle.std.proofs.lemmas.Bool.{and_parts, both_ways, eq-eqb, eqb-true, false_from_ne_true}
use Rattle.std.proofs.lemmas.Nat.{div-mul-add, div_below, mod-mul-add}
use Rattle.rf_finite.specs.Range.{first_below}
use Rattle.rf_finite.proofs.Range.{first_below-none}

-- a first value depends on what stands below the bound alone
pub first_below-same : {A : Type 0} (n : ℕ) (f g : ℕ → Option A) → ((k : ℕ) → k < n → f k ≡ g k) → first_below n f ≡ first_below n g
first_below-same zero f g h = refl
first_below-same (suc n) f g h = ap₂ option_or (first_below-same n f g (λ k l. h k (omega arith))) (h n (omega arith))

option_or-assoc : {A : Type 0} (a b c : Option A) → option_or (option_or a b) c ≡ option_or a (option_or b c)
option_or-assoc None b c = refl
option_or-assoc (Some x) b c = refl

option_or-None : {A : Type 0} (a : Option A) → a ≡ option_or a None
option_or-None None = refl
option_or-None (Some x) = refl

-- where neither of two is there
pub none-of_both : {A : Type 0} (a b : Option A) → option_or a b ≡ None → (a ≡ None) × (b ≡ None)
none-of_both None b e = (refl, e)
none-of_both (Some x) b e = cc

-- first the first m, then the n that follow
first_below-split : {A : Type 0} (m n : ℕ) (f : ℕ → Option A) → first_below (m + n) f ≡ option_or (first_below m f) (first_below n (λ k. f (m + k)))
first_below-split m zero f =
    let e : m + 0 ≡ m = omega arith in
    ap (λ k. first_below k f) e ∙ option_or-None (first_below m f)
first_below-split m (suc n) f =
    let e : m + suc n ≡ suc (m + n) = omega arith in
    ap (λ k. first_below k f) e ∙ (ap (λ a. option_or a (f (m + n))) (first_below-split m n f) ∙ option_or-assoc (first_below m f) (first_below n (λ k. f (m + k))) (f (m + n)))

rows-first : {A : Type 0} (m n : ℕ) (f : ℕ → ℕ → Option A) → 0 < n → first_below (m * n) (λ k. f (k / n) (k % n)) ≡ first_below m (λ r. first_below n (f r))
rows-first zero n f l = let e : 0 * n ≡ 0 = omega arith in ap (λ k. first_below k (λ j. f (j / n) (j % n))) e
rows-first (suc m) n f l =
    let e : suc m * n ≡ m * n + n = omega arith in
    ap (λ k. first_below k (λ j. f (j / n) (j % n))) e
    ∙ (first_below-split (m * n) n (λ j. f (j / n) (j % n))
    ∙ ap₂ option_or (rows-first m n f l) (first_below-same n (λ k. f ((m * n + k) / n) ((m * n + k) % n)) (f m) (λ k h. rw (div-mul-add m n k h, mod-mul-add m n k h) refl)))

-- the first of all rows is that of the first reference that has one
pub first_below-rows : {A : Type 0} (m n : ℕ) (f : ℕ → ℕ → Option A) → first_below (m * n) (λ k. f (k / n) (k % n)) ≡ first_below m (λ r. first_below n (f r))
first_below-rows m zero f =
    let e : m * 0 ≡ 0 = omega arith in
    ap (λ k. first_below k (λ j. f (j / 0) (j % 0))) e ∙ sym (first_below-none m (λ r. first_below 0 (f r)) (λ k l. refl))
first_below-rows m (suc n) f = rows-first m (suc n) f (omega arith)

-- the row of a number is one of so many
pub reference_below : (k n m : ℕ) → 0 < n → k < m * n → k / n < m
reference_below k n m l h = div_below k n m l h

-- another number is that of another row
pub other_row : (n q x r a : ℕ) → (q * n + x == r * n + a) ≡ false → (q == r && x == a) ≡ false
other_row n q x r a e = false_from_ne_true (q == r && x == a) (λ t.
    let parts = and_parts (q == r) (x == a) t in
    let same : q * n + x ≡ r * n + a = ap₂ (λ (i j : ℕ). i * n + j) (eqb-true q r parts.0) (eqb-true x a parts.1) in
    both_ways (q * n + x == r * n + a) e (eq-eqb (q * n + x) (r * n + a) same))

pub other_object : (n r x a : ℕ) → (r * n + x == r * n + a) ≡ false → (x == a) ≡ false
other_object n r x a e = false_from_ne_true (x == a) (λ t.
    let same : r * n + x ≡ r * n + a = ap (λ (j : ℕ). r * n + j) (eqb-true x a t) in
    both_ways (r * n + x == r * n + a) e (eq-eqb (r * n + x) (r * n + a) same))
