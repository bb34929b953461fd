-- Each edge has a cell of its own, and those of the first objects come first.
use Rattle.std.proofs.Common.{◌≡◌, ℕ, suc, ◌+◌, ◌*◌, ◌≤◌, ◌<◌, nat_lt, if◌then◌else◌, refl, sym, ap, ap₂, ◌∙◌, ◌⊎◌, inl, inr, arith}
use Rattle.std.proofs.lemmas.Bool.{cases_Bool, cases_lt, ltb-false, ltb-true}
use Rattle.std.proofs.lemmas.Nat.{mul-le}
use Rattle.rf_mirror.specs.Cells.{IsEdge, cell, pair_number}

square-suc : (m : ℕ) → suc m * suc m ≡ suc (m * m + (m + m))
square-suc m = grind arith

-- the greater of a pair is told by its number
same-shell : (m n k l : ℕ) → k ≤ m + m → l ≤ n + n → m * m + k ≡ n * n + l → m ≡ n
same-shell m n k l short low e = elim (cases_lt m n) [
  | inl less ↦ absurd (let s = square-suc m in let q = mul-le (suc m) (suc m) n n less less in omega (arith, e, s, q, short))
  | inr geq ↦ (elim (cases_lt n m) [
    | inl more ↦ absurd (let s = square-suc n in let q = mul-le (suc n) (suc n) m m more more in omega (arith, e, s, q, low))
    | inr leq ↦ omega (arith, geq, leq)
  ])
]

-- the greater of a pair, the place among those that have it, and whether it stands first
record IsShell (a b m k : ℕ) : Type 0 where
  number : pair_number a b ≡ m * m + k
  short : k ≤ m + m
  from : a ≤ m
  to : b ≤ m
  which : ((a ≡ m) × (k ≡ b) × (b < m)) ⊎ ((b ≡ m) × (k ≡ b + a))

shell-of : (a b : ℕ) → (m : ℕ) × (k : ℕ) × IsShell a b m k
shell-of a b = elim (cases_Bool (nat_lt b a)) [
  | inl less ↦ (
      let l = ltb-true b a less in (
        a,
        b,
        record {
          number = ap (λ t. if t then a * a + b else b * b + (b + a)) less;
          short = omega (arith, l);
          from = omega arith;
          to = omega (arith, l);
          which = inl (refl, refl, l);
        },
      ))
  | inr more ↦ (
      let l = ltb-false b a more in (
        b,
        b + a,
        record {
          number = ap (λ t. if t then a * a + b else b * b + (b + a)) more;
          short = omega (arith, l);
          from = omega (arith, l);
          to = omega arith;
          which = inr (refl, refl);
        },
      ))
]

same-pair : (a b x y : ℕ) → pair_number a b ≡ pair_number x y → (a ≡ x) × (b ≡ y)
same-pair a b x y e =
    let s = shell-of a b in
    let t = shell-of x y in
    let m = s.0 in
    let n = t.0 in
    let k = s.1 in
    let l = t.1 in
    let both : m * m + k ≡ n * n + l = sym s.2.number ∙ e ∙ t.2.number in
    let same : m ≡ n = same-shell m n k l s.2.short t.2.short both in
    let square : m * m ≡ n * n = ap₂ (λ u v. u * v) same same in
    let place : k ≡ l = omega (arith, both, square) in
    elim s.2.which [
      | inl p ↦ (elim t.2.which [
        | inl q ↦ (omega (arith, p.0, q.0, same), omega (arith, p.1, q.1, place))
        | inr q ↦ absurd (let w = p.2 in omega (arith, p.1, w, q.0, q.1, same, place))
      ])
      | inr p ↦ (elim t.2.which [
        | inl q ↦ absurd (let w = q.2 in omega (arith, q.1, w, p.0, p.1, same, place))
        | inr q ↦ (omega (arith, p.0, p.1, q.0, q.1, same, place), omega (arith, p.0, q.0, same))
      ])
    ]

-- a number below another is told by a multiple of that with it
same-multiple : (m n r q many : ℕ) → r < many → q < many → m * many + r ≡ n * many + q → m ≡ n
same-multiple m n r q many lr lq e = elim (cases_lt m n) [
  | inl less ↦ absurd (
      let up = mul-le (suc m) many n many less (omega arith) in
      let step : suc m * many ≡ many + m * many = grind arith in
      omega (arith, e, up, step, lr))
  | inr geq ↦ (elim (cases_lt n m) [
    | inl more ↦ absurd (
        let up = mul-le (suc n) many m many more (omega arith) in
        let step : suc n * many ≡ many + n * many = grind arith in
        omega (arith, e, up, step, lq))
    | inr leq ↦ omega (arith, geq, leq)
  ])
]

-- no two edges have the same cell
pub same-cell : (many r a b k x y : ℕ) → r < many → k < many → cell many k x y ≡ cell many r a b → IsEdge r a b k x y
same-cell many r a b k x y lr lk e =
    let pair : pair_number x y ≡ pair_number a b = same-multiple (pair_number x y) (pair_number a b) k r many lk lr e in
    let both = same-pair x y a b pair in
    let multiple : pair_number x y * many ≡ pair_number a b * many = ap (λ u. u * many) pair in
    (omega (arith, e, multiple), both.0, both.1)

-- the cells of edges between n objects
pub cell-inside : (many n r a b : ℕ) → r < many → a < n → b < n → cell many r a b < n * n * many
cell-inside many n r a b lr la lb =
    let s = shell-of a b in
    let m = s.0 in
    let top : suc m ≤ n = elim s.2.which [
      | inl p ↦ omega (arith, p.0, la)
      | inr p ↦ omega (arith, p.0, lb)
    ] in
    let up = mul-le (suc m) (suc m) n n top top in
    let square = square-suc m in
    let number = s.2.number in
    let short = s.2.short in
    let below : suc (pair_number a b) ≤ n * n = omega (arith, up, square, number, short) in
    let all = mul-le (suc (pair_number a b)) many (n * n) many below (omega arith) in
    let step : suc (pair_number a b) * many ≡ many + pair_number a b * many = grind arith in
    omega (arith, all, step, lr)

-- an edge whose cell is among them is between them
pub inside-cell : (many n r a b : ℕ) → cell many r a b < n * n * many → (a < n) × (b < n)
inside-cell many n r a b l =
    let s = shell-of a b in
    let m = s.0 in
    let from = s.2.from in
    let to = s.2.to in
    let number = s.2.number in
    let low : m < n = elim (cases_lt m n) [
      | inl less ↦ less
      | inr more ↦ absurd (
          let square = mul-le n n m m more more in
          let at : n * n ≤ pair_number a b = omega (arith, square, number) in
          let all = mul-le (n * n) many (pair_number a b) many at (omega arith) in
          omega (arith, all, l))
    ] in
    (omega (arith, from, low), omega (arith, to, low))
