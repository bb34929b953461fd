-- Lemmas on tests, counts, sums and first values over the numbers below a bound.
use Rattle.std.proofs.Common.{◌≡◌, ℕ, zero, suc, ◌+◌, ◌≤◌, ◌<◌, Bool, true, false, cond, not, ◌&&◌, eqb, Option, Some, None, ◌⊎◌, refl, sym, ap, ◌∙◌, subst, inl, inr, arith, true≢false, add-one}
use Rattle.std.proofs.lemmas.Bool.{and_parts, and_from, or_cases, or_left, or_right, or_from, cases_Bool, cases_eq, cases_lt, cases_order, both_ways, false_from_ne_true, ne_eqb, eq-eqb, eqb-true}
use Rattle.std.specs.Option.{option_map, option_or}
use Rattle.rf_finite.specs.Range.{some_below, all_below, count_below, sum_below, first_below, IsFirstValue}

-- a number below n + 1 is below n, or n itself
pub below_or_last : (n k : ℕ) → k < suc n → (k < n) ⊎ (k ≡ n)
below_or_last n k h = elim (cases_order k n) [ inl e ↦ inr e | inr s ↦ elim s [ inl l ↦ inl l | inr g ↦ absurd (omega arith) ] ]

-- some number passes where this one does
pub some_below-from_one : (n : ℕ) (p : ℕ → Bool) (k : ℕ) → k < n → p k ≡ true → some_below n p ≡ true
some_below-from_one zero p k l h = absurd (omega arith)
some_below-from_one (suc n) p k l h = elim (below_or_last n k l) [
  | inl lt ↦ or_left (some_below n p) (p n) (some_below-from_one n p k lt h)
  | inr e ↦ or_right (some_below n p) (p n) (subst (λ m. p m ≡ true) e h)
]

-- where some number passes, one can be named
pub one-from_some_below : (n : ℕ) (p : ℕ → Bool) → some_below n p ≡ true → (k : ℕ) × (k < n) × (p k ≡ true)
one-from_some_below zero p h = absurd (true≢false (sym h))
one-from_some_below (suc n) p h = elim (or_cases (some_below n p) (p n) h) [
  | inl e ↦ (let r = one-from_some_below n p e in let l = r.1 in (r.0, omega arith, r.2))
  | inr e ↦ (n, omega arith, e)
]

-- where more numbers pass, the count is no less
pub count_below-le : (n : ℕ) (p q : ℕ → Bool) → ((k : ℕ) → k < n → p k ≡ true → q k ≡ true) → count_below n p ≤ count_below n q
count_below-le zero p q h = omega arith
count_below-le (suc n) p q h =
    let rest = count_below-le n p q (λ k l e. h k (omega arith) e) in
    elim (cases_Bool (p n)) [
      | inl e ↦ rw (e, h n (omega arith) e) (omega arith)
      | inr e ↦ rw e (omega arith)
    ]

-- where one passes the count is at least 1
pub count_below-positive : (n : ℕ) (p : ℕ → Bool) (k : ℕ) → k < n → p k ≡ true → 1 ≤ count_below n p
count_below-positive zero p k l h = absurd (omega arith)
count_below-positive (suc n) p k l h = elim (below_or_last n k l) [
  | inl lt ↦ (let rest = count_below-positive n p k lt h in omega arith)
  | inr e ↦ (let here : p n ≡ true = subst (λ m. p m ≡ true) e h in rw here (omega arith))
]

-- where the count is at least 1, one that passes can be named
pub one-from_count_below : (n : ℕ) (p : ℕ → Bool) → 1 ≤ count_below n p → (k : ℕ) × (k < n) × (p k ≡ true)
one-from_count_below zero p h = absurd (omega arith)
one-from_count_below (suc n) p h = elim (cases_Bool (p n)) [
  | inl e ↦ (n, omega arith, e)
  | inr e ↦ (let some : 1 ≤ count_below n p = (let g = rw e at h in omega arith) in
      let r = one-from_count_below n p some in let l = r.1 in (r.0, omega arith, r.2))
]

-- two that exclude each other and imply a third count at most as many
pub count_below-apart : (n : ℕ) (p q r : ℕ → Bool) → ((k : ℕ) → k < n → p k ≡ true → r k ≡ true) → ((k : ℕ) → k < n → q k ≡ true → r k ≡ true)
    → ((k : ℕ) → p k ≡ true → q k ≡ true → ⊥) → count_below n p + count_below n q ≤ count_below n r
count_below-apart zero p q r hp hq apart = omega arith
count_below-apart (suc n) p q r hp hq apart =
    let rest = count_below-apart n p q r (λ k l e. hp k (omega arith) e) (λ k l e. hq k (omega arith) e) apart in
    elim (cases_Bool (p n)) [
      | inl e ↦ elim (cases_Bool (q n)) [
        | inl f ↦ absurd (apart n e f)
        | inr f ↦ rw (e, f, hp n (omega arith) e) (omega arith)
      ]
      | inr e ↦ elim (cases_Bool (q n)) [
        | inl f ↦ rw (e, f, hq n (omega arith) f) (omega arith)
        | inr f ↦ rw (e, f) (omega arith)
      ]
    ]

-- a count is at most those of two that cover it
pub count_below-cover : (n : ℕ) (p q r : ℕ → Bool) → ((k : ℕ) → k < n → r k ≡ true → (p k ≡ true) ⊎ (q k ≡ true)) → count_below n r ≤ count_below n p + count_below n q
count_below-cover zero p q r h = omega arith
count_below-cover (suc n) p q r h =
    let rest = count_below-cover n p q r (λ k l e. h k (omega arith) e) in
    elim (cases_Bool (r n)) [
      | inl e ↦ elim (h n (omega arith) e) [ inl f ↦ rw (e, f) (omega arith) | inr f ↦ rw (e, f) (omega arith) ]
      | inr e ↦ rw e (omega arith)
    ]

more_below : (n : ℕ) (p q : ℕ → Bool) (f g : ℕ → ℕ) → ((k : ℕ) → k < n → p k ≡ true → (q k ≡ true) × (f k ≤ g k)) → sum_below n p f ≤ sum_below n q g
more_below zero p q f g h = omega arith
more_below (suc n) p q f g h =
    let rest = more_below n p q f g (λ k l. h k (omega arith)) in
    elim (cases_Bool (p n)) [
      | inl e ↦ (let here = h n (omega arith) e in let term = here.1 in rw (e, here.0) (omega arith))
      | inr e ↦ rw e (omega arith)
    ]

further_below : (m n : ℕ) (p : ℕ → Bool) (f : ℕ → ℕ) → m ≤ n → sum_below m p f ≤ sum_below n p f
further_below m zero p f l = let e : m ≡ 0 = omega arith in rw e (omega arith)
further_below m (suc n) p f l = elim (cases_lt n m) [
  | inl last ↦ (let e : m ≡ suc n = omega arith in rw e (omega arith))
  | inr before ↦ (let rest = further_below m n p f before in omega arith)
]

-- more numbers and greater terms sum to no less
pub sum_below-more : (m n : ℕ) (p q : ℕ → Bool) (f g : ℕ → ℕ) → m ≤ n → ((k : ℕ) → k < m → p k ≡ true → (q k ≡ true) × (f k ≤ g k)) → sum_below m p f ≤ sum_below n q g
sum_below-more m n p q f g l h = let here = more_below m p q f g h in let rest = further_below m n q g l in omega arith

-- greater terms sum to no less
pub sum_below-le : (n : ℕ) (p : ℕ → Bool) (f g : ℕ → ℕ) → ((k : ℕ) → k < n → p k ≡ true → f k ≤ g k) → sum_below n p f ≤ sum_below n p g
sum_below-le n p f g h = more_below n p p f g (λ k l e. (e, h k l e))

pub sum_below-zero : (n : ℕ) (p : ℕ → Bool) → sum_below n p (λ k. 0) ≡ 0
sum_below-zero zero p = refl
sum_below-zero (suc n) p = let rest = sum_below-zero n p in elim (cases_Bool (p n)) [ inl e ↦ rw e (omega arith) | inr e ↦ rw e (omega arith) ]

pub sum_below-add : (n : ℕ) (p : ℕ → Bool) (f g : ℕ → ℕ) → sum_below n p (λ k. f k + g k) ≡ sum_below n p f + sum_below n p g
sum_below-add zero p f g = refl
sum_below-add (suc n) p f g = let rest = sum_below-add n p f g in elim (cases_Bool (p n)) [ inl e ↦ rw e (omega arith) | inr e ↦ rw e (omega arith) ]

-- one at c alone sums to one where c passes
pub sum_below-one : (n : ℕ) (p : ℕ → Bool) (c : ℕ) → (c < n → sum_below n p (λ k. cond (eqb c k) 1 0) ≡ cond (p c) 1 0) × (n ≤ c → sum_below n p (λ k. cond (eqb c k) 1 0) ≡ 0)
sum_below-one zero p c = (λ l. absurd (omega arith), λ g. refl)
sum_below-one (suc n) p c =
    let rest = sum_below-one n p c in (
      λ l. elim (below_or_last n c l) [
        | inl lt ↦ (let e : eqb c n ≡ false = ne_eqb c n (λ s. omega arith) in let r = rest.0 lt in rw e (elim (cases_Bool (p n)) [ inl f ↦ rw f (omega arith) | inr f ↦ rw f (omega arith) ]))
        | inr s ↦ (let r = rest.1 (omega arith) in rw (eq-eqb c n s, r, s) (elim (cases_Bool (p n)) [ inl f ↦ rw f (omega arith) | inr f ↦ rw f (omega arith) ]))
      ],
      λ g. let e : eqb c n ≡ false = ne_eqb c n (λ s. omega arith) in let r = rest.1 (omega arith) in rw e (elim (cases_Bool (p n)) [ inl f ↦ rw f (omega arith) | inr f ↦ rw f (omega arith) ]),
    )

-- the sizes of the classes of h that pass add up to how many are in one that passes
pub sum_below-counts : (n m : ℕ) (h : ℕ → ℕ) (q : ℕ → Bool) → ((x : ℕ) → x < n → h x < m) → sum_below m q (λ c. count_below n (λ x. eqb (h x) c)) ≡ count_below n (λ x. q (h x))
sum_below-counts zero m h q into = sum_below-zero m q
sum_below-counts (suc n) m h q into =
    sum_below-add m q (λ c. count_below n (λ x. eqb (h x) c)) (λ c. cond (eqb (h n) c) 1 0)
    ∙ ap (λ s. s + sum_below m q (λ c. cond (eqb (h n) c) 1 0)) (sum_below-counts n m h q (λ x l. into x (omega arith)))
    ∙ ap (λ s. count_below n (λ x. q (h x)) + s) ((sum_below-one m q (h n)).0 (into n (omega arith)))

-- tests that agree count the same
pub count_below-same : (n : ℕ) (p q : ℕ → Bool) → ((k : ℕ) → k < n → p k ≡ q k) → count_below n p ≡ count_below n q
count_below-same zero p q h = refl
count_below-same (suc n) p q h = let rest = count_below-same n p q (λ k l. h k (omega arith)) in let here = h n (omega arith) in rw (rest, here) refl

-- without one that passes, one fewer passes
pub count_below-without : (n : ℕ) (p : ℕ → Bool) (x : ℕ) → x < n → p x ≡ true → count_below n p ≡ suc (count_below n (λ k. not (eqb k x) && p k))
count_below-without zero p x l h = absurd (omega arith)
count_below-without (suc n) p x l h = elim (below_or_last n x l) [
  | inl lt ↦ (let rest = count_below-without n p x lt h in let e : eqb n x ≡ false = ne_eqb n x (λ s. omega arith) in rw (e, rest) (omega arith))
  | inr s ↦ (let e : eqb n x ≡ true = eq-eqb n x (sym s) in
      let here : p n ≡ true = subst (λ m. p m ≡ true) s h in
      let rest = count_below-same n p (λ k. not (eqb k x) && p k) (λ k l. (let f : eqb k x ≡ false = ne_eqb k x (λ q. omega arith) in rw f refl)) in
      rw (e, here, rest) (omega arith))
]

-- where none passes the count is 0
pub count_below-none : (n : ℕ) (p : ℕ → Bool) → ((k : ℕ) → k < n → p k ≡ false) → count_below n p ≡ 0
count_below-none zero p h = refl
count_below-none (suc n) p h = let rest = count_below-none n p (λ k l. h k (omega arith)) in let here = h n (omega arith) in rw (here, rest) refl

-- all numbers pass where each does
pub all_below-from_each : (n : ℕ) (p : ℕ → Bool) → ((k : ℕ) → k < n → p k ≡ true) → all_below n p ≡ true
all_below-from_each zero p h = refl
all_below-from_each (suc n) p h = and_from (all_below n p) (p n) (all_below-from_each n p (λ k l. h k (omega arith))) (h n (omega arith))

-- no more pass than there are
pub count_below-le_bound : (n : ℕ) (p : ℕ → Bool) → count_below n p ≤ n
count_below-le_bound zero p = omega arith
count_below-le_bound (suc n) p = let rest = count_below-le_bound n p in elim (cases_Bool (p n)) [ inl e ↦ rw e (omega arith) | inr e ↦ rw e (omega arith) ]

-- where all numbers pass, each does
pub each-from_all_below : (n : ℕ) (p : ℕ → Bool) → all_below n p ≡ true → (k : ℕ) → k < n → p k ≡ true
each-from_all_below zero p h k l = absurd (omega arith)
each-from_all_below (suc n) p h k l = let parts = and_parts (all_below n p) (p n) h in elim (below_or_last n k l) [
  | inl lt ↦ each-from_all_below n p parts.0 k lt
  | inr e ↦ subst (λ m. p m ≡ true) (sym e) parts.1
]

-- no number passes where each fails
pub some_below-none : (n : ℕ) (p : ℕ → Bool) → ((k : ℕ) → k < n → p k ≡ false) → some_below n p ≡ false
some_below-none zero p h = refl
some_below-none (suc n) p h = or_from (some_below n p) (p n) (some_below-none n p (λ k l. h k (omega arith))) (h n (omega arith))

-- where no number passes, each fails
pub each-from_some_below : (n : ℕ) (p : ℕ → Bool) → some_below n p ≡ false → (k : ℕ) → k < n → p k ≡ false
each-from_some_below n p h k l = false_from_ne_true (p k) (λ t. both_ways (some_below n p) h (some_below-from_one n p k l t))

-- where more numbers pass, some number passes as well
pub some_below-more_pass : (n : ℕ) (p q : ℕ → Bool) → ((k : ℕ) → k < n → p k ≡ true → q k ≡ true) → some_below n p ≡ true → some_below n q ≡ true
some_below-more_pass n p q h s = let r = one-from_some_below n p s in some_below-from_one n q r.0 r.1 (h r.0 r.1 r.2)

-- tests that agree give the same answer
pub some_below-same : (n : ℕ) (p q : ℕ → Bool) → ((k : ℕ) → k < n → p k ≡ q k) → some_below n p ≡ some_below n q
some_below-same zero p q h = refl
some_below-same (suc n) p q h = let rest = some_below-same n p q (λ k l. h k (omega arith)) in let here = h n (omega arith) in rw (rest, here) refl

pub all_below-same : (n : ℕ) (p q : ℕ → Bool) → ((k : ℕ) → k < n → p k ≡ q k) → all_below n p ≡ all_below n q
all_below-same zero p q h = refl
all_below-same (suc n) p q h = let rest = all_below-same n p q (λ k l. h k (omega arith)) in let here = h n (omega arith) in rw (rest, here) refl

-- a loop that keeps whether some number passed tries one number more
pub some_below-more : (p : ℕ → Bool) (i : ℕ) (found now : Bool) → found ≡ some_below i p → (found ≡ true → now ≡ true) → (found ≡ false → now ≡ p i) → now ≡ some_below (i + 1) p
some_below-more p i true now e there here = rw (add-one, ← e) (there refl)
some_below-more p i false now e there here = rw (add-one, ← e) (here refl)

-- where two different numbers pass the count is at least 2
pub count_below-two : (n : ℕ) (p : ℕ → Bool) (x y : ℕ) → x < n → y < n → (x ≡ y → ⊥) → p x ≡ true → p y ≡ true → 2 ≤ count_below n p
count_below-two n p x y lx ly ne hx hy =
    let one = count_below-positive n (λ k. eqb k x) x lx (eq-eqb x x refl) in
    let other = count_below-positive n (λ k. eqb k y) y ly (eq-eqb y y refl) in
    let both = count_below-apart n (λ k. eqb k x) (λ k. eqb k y) p
    (λ k l e. subst (λ m. p m ≡ true) (sym (eqb-true k x e)) hx)
    (λ k l e. subst (λ m. p m ≡ true) (sym (eqb-true k y e)) hy)
    (λ k e f. ne (sym (eqb-true k x e) ∙ eqb-true k y f)) in
    omega arith

-- where the count is at most 1, numbers that pass are the same
pub same-from_count_below : (n : ℕ) (p : ℕ → Bool) (x y : ℕ) → count_below n p ≤ 1 → x < n → y < n → p x ≡ true → p y ≡ true → x ≡ y
same-from_count_below n p x y le lx ly hx hy = elim (cases_eq x y) [
  | inl e ↦ e
  | inr ne ↦ (let two = count_below-two n p x y lx ly ne hx hy in absurd (omega arith))
]

-- where all pass the count is the bound
pub count_below-all : (n : ℕ) (p : ℕ → Bool) → ((k : ℕ) → k < n → p k ≡ true) → count_below n p ≡ n
count_below-all zero p h = refl
count_below-all (suc n) p h = let rest = count_below-all n p (λ k l. h k (omega arith)) in let here = h n (omega arith) in rw (here, rest) (omega arith)

-- terms that agree where their numbers pass sum to the same
pub sum_below-pointwise : (n : ℕ) (p q : ℕ → Bool) (f g : ℕ → ℕ) → ((k : ℕ) → k < n → p k ≡ q k) → ((k : ℕ) → k < n → p k ≡ true → f k ≡ g k) → sum_below n p f ≡ sum_below n q g
sum_below-pointwise zero p q f g hp hf = refl
sum_below-pointwise (suc n) p q f g hp hf =
    let rest = sum_below-pointwise n p q f g (λ k l. hp k (omega arith)) (λ k l. hf k (omega arith)) in
    let test = hp n (omega arith) in
    elim (cases_Bool (p n)) [
      | inl e ↦ (let term = hf n (omega arith) e in let other = sym test ∙ e in rw (e, other, rest, term) refl)
      | inr e ↦ (let other = sym test ∙ e in rw (e, other, rest) refl)
    ]

-- tests and terms that agree sum to the same
pub sum_below-same : (n : ℕ) (p q : ℕ → Bool) (f g : ℕ → ℕ) → ((k : ℕ) → k < n → p k ≡ q k) → ((k : ℕ) → k < n → f k ≡ g k) → sum_below n p f ≡ sum_below n q g
sum_below-same n p q f g hp hf = sum_below-pointwise n p q f g hp (λ k l e. hf k l)

-- one of the terms is at most their sum
pub sum_below-term : (n : ℕ) (p : ℕ → Bool) (f : ℕ → ℕ) (k : ℕ) → k < n → p k ≡ true → f k ≤ sum_below n p f
sum_below-term zero p f k l h = absurd (omega arith)
sum_below-term (suc n) p f k l h = elim (below_or_last n k l) [
  | inl lt ↦ (let rest = sum_below-term n p f k lt h in omega arith)
  | inr e ↦ (let here : p n ≡ true = subst (λ m. p m ≡ true) e h in rw (here, e) (omega arith))
]

-- two of the terms sum to at most the whole
pub sum_below-two_terms : (n : ℕ) (p : ℕ → Bool) (f : ℕ → ℕ) (j k : ℕ) → j < n → k < n → (j ≡ k → ⊥) → p j ≡ true → p k ≡ true → f j + f k ≤ sum_below n p f
sum_below-two_terms zero p f j k lj lk ne hj hk = absurd (omega arith)
sum_below-two_terms (suc n) p f j k lj lk ne hj hk = elim (below_or_last n j lj) [
  | inl bj ↦ elim (below_or_last n k lk) [
    | inl bk ↦ (let rest = sum_below-two_terms n p f j k bj bk ne hj hk in omega arith)
    | inr ek ↦ (let rest = sum_below-term n p f j bj hj in let here : p n ≡ true = subst (λ m. p m ≡ true) ek hk in rw (here, ek) (omega arith))
  ]
  | inr ej ↦ elim (below_or_last n k lk) [
    | inl bk ↦ (let rest = sum_below-term n p f k bk hk in let here : p n ≡ true = subst (λ m. p m ≡ true) ej hj in rw (here, ej) (omega arith))
    | inr ek ↦ absurd (ne (ej ∙ sym ek))
  ]
]

-- the first value is where the search meets it: none before, and one here
pub first_below-at : {A : Type 0} (n : ℕ) (f : ℕ → Option A) (k : ℕ) (v : A) → k < n → first_below k f ≡ None → f k ≡ Some v → first_below n f ≡ Some v
first_below-at zero f k v l none here = absurd (omega arith)
first_below-at (suc n) f k v l none here = elim (below_or_last n k l) [
  | inl lt ↦ (let r = first_below-at n f k v lt none here in rw r refl)
  | inr e ↦ (let none' = subst (λ m. first_below m f ≡ None) e none in let here' = subst (λ m. f m ≡ Some v) e here in rw (none', here') refl)
]

pub None-ne_Some : {A : Type 0} {x : A} → None ≡ Some x → ⊥
None-ne_Some e = cc

option_or-None : {A : Type 0} (a b : Option A) → option_or a b ≡ None → (a ≡ None) × (b ≡ None)
option_or-None None b e = (refl, e)
option_or-None (Some a) b e = absurd (None-ne_Some (sym e))

-- there is no first value where no number has one
pub first_below-none : {A : Type 0} (n : ℕ) (f : ℕ → Option A) → ((k : ℕ) → k < n → f k ≡ None) → first_below n f ≡ None
first_below-none zero f h = refl
first_below-none (suc n) f h = let rest = first_below-none n f (λ k l. h k (omega arith)) in let here = h n (omega arith) in rw (rest, here) refl

-- where there is no first value, no number has one
pub each-from_first_below : {A : Type 0} (n : ℕ) (f : ℕ → Option A) → first_below n f ≡ None → (k : ℕ) → k < n → f k ≡ None
each-from_first_below zero f h k l = absurd (omega arith)
each-from_first_below (suc n) f h k l = let parts = option_or-None (first_below n f) (f n) h in elim (below_or_last n k l) [
  | inl lt ↦ each-from_first_below n f parts.0 k lt
  | inr e ↦ subst (λ m. f m ≡ None) (sym e) parts.1
]

-- the first value is that of the least number that has one
pub IsFirstValue-from_first_below : {A : Type 0} (n : ℕ) (f : ℕ → Option A) (v : A) → first_below n f ≡ Some v → IsFirstValue n f v
IsFirstValue-from_first_below zero f v h = absurd (None-ne_Some h)
IsFirstValue-from_first_below {A} (suc n) f v h = go (first_below n f) refl h (IsFirstValue-from_first_below n f v)
  where
    go : (o : Option A) → first_below n f ≡ o → option_or o (f n) ≡ Some v
        → (first_below n f ≡ Some v → IsFirstValue n f v) → IsFirstValue (suc n) f v
    go None e s earlier = (n, omega arith, s, each-from_first_below n f e)
    go (Some w) e s earlier = let r = earlier (e ∙ s) in let l = r.1 in (r.0, omega arith, r.2, r.3)

pub first_below-from_IsFirstValue : {A : Type 0} (n : ℕ) (f : ℕ → Option A) (v : A) → IsFirstValue n f v → first_below n f ≡ Some v
first_below-from_IsFirstValue n f v r = first_below-at n f r.0 v r.1 (first_below-none r.0 f r.3) r.2

-- values of what is found are what is found by their values
pub first_below-map : {A B : Type 0} (v : A → B) (n : ℕ) (f : ℕ → Option A) → first_below n (λ k. option_map v (f k)) ≡ option_map v (first_below n f)
first_below-map {A} {B} v zero f = refl
first_below-map {A} {B} v (suc n) f = rw (first_below-map v n f) (or_map (first_below n f) (f n))
  where
    or_map : (a b : Option A) → option_or (option_map v a) (option_map v b) ≡ option_map v (option_or a b)
    or_map None b = refl
    or_map (Some a) b = refl
