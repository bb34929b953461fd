-- Lemmas on sums over the numbers below a bound, and on sums of ends.
use Rattle.std.proofs.Common.{◌≡◌, ℕ, zero, suc, ◌+◌, ◌≤◌, ◌<◌, Bool, true, false, cond, not, ◌&&◌, eqb, Option, Some, None, refl, sym, ap, ◌∙◌, inl, inr, arith}
use Rattle.std.proofs.lemmas.Bool.{cases_Bool, cases_lt, ne_eqb, eq-eqb, leb-true, le-leb}
use Rattle.rf_finite.specs.Ends.{within, add_ends, ends_below}
use Rattle.rf_finite.specs.Range.{sum_below}
use Rattle.rf_finite.specs.Sums.{IsNoGreaterEnd}
use Rattle.rf_finite.proofs.Ends.{ends_below-same, sum_below-within}
use Rattle.rf_finite.proofs.Range.{None-ne_Some, below_or_last, sum_below-same}

-- the other numbers are those that pass, where this one isn't among them
others_same : (n : ℕ) (p : ℕ → Bool) (k : ℕ) → n ≤ k → (j : ℕ) → j < n → p j ≡ (not (eqb j k) && p j)
others_same n p k g j l = let e : eqb j k ≡ false = ne_eqb j k (λ q. omega arith) in rw e refl

-- the sum is the term of one number, where it passes, and the sum of the others
pub sum_below-others : (n : ℕ) (p : ℕ → Bool) (f : ℕ → ℕ) (k : ℕ) → k < n → sum_below n p f ≡ cond (p k) (f k) 0 + sum_below n (λ j. not (eqb j k) && p j) f
sum_below-others zero p f k l = absurd (omega arith)
sum_below-others (suc n) p f k l = elim (below_or_last n k l) [
  | inl lt ↦ (let rest = sum_below-others n p f k lt in let e : eqb n k ≡ false = ne_eqb n k (λ s. omega arith) in rw e (omega arith))
  | inr s ↦ (let rest = sum_below-same n p (λ j. not (eqb j k) && p j) f f (others_same n p k (omega arith)) (λ j lj. refl) in
      let e : eqb n k ≡ true = eq-eqb n k (sym s) in
      let here : cond (p k) (f k) 0 ≡ cond (p n) (f n) 0 = ap (λ m. cond (p m) (f m) 0) s in
      rw (e, here, rest) (omega arith))
]

-- so where it passes, they are the sum without it
pub sum_below-without : (n : ℕ) (p : ℕ → Bool) (f : ℕ → ℕ) (k : ℕ) → k < n → p k ≡ true → sum_below n p f ≡ f k + sum_below n (λ j. not (eqb j k) && p j) f
sum_below-without n p f k l h = let whole = sum_below-others n p f k l in rw h at whole

pub sum_below-split : (n : ℕ) (p q : ℕ → Bool) (f : ℕ → ℕ) → sum_below n p f ≡ sum_below n (λ k. p k && q k) f + sum_below n (λ k. p k && not (q k)) f
sum_below-split zero p q f = refl
sum_below-split (suc n) p q f =
    let rest = sum_below-split n p q f in
    elim (cases_Bool (p n)) [
      | inl e ↦ elim (cases_Bool (q n)) [ inl d ↦ rw (e, d) (omega arith) | inr d ↦ rw (e, d) (omega arith) ]
      | inr e ↦ rw e (omega arith)
    ]

pub add_ends-comm : (a b : Option ℕ) → add_ends a b ≡ add_ends b a
add_ends-comm None None = refl
add_ends-comm None (Some b) = refl
add_ends-comm (Some a) None = refl
add_ends-comm (Some a) (Some b) = let e : a + b ≡ b + a = omega arith in ap Some e

pub add_ends-assoc : (a b c : Option ℕ) → add_ends (add_ends a b) c ≡ add_ends a (add_ends b c)
add_ends-assoc None b c = refl
add_ends-assoc (Some a) None c = refl
add_ends-assoc (Some a) (Some b) None = refl
add_ends-assoc (Some a) (Some b) (Some c) = let e : a + b + c ≡ a + (b + c) = omega arith in ap Some e

add_ends-swap : (a b c : Option ℕ) → add_ends (add_ends a b) c ≡ add_ends (add_ends a c) b
add_ends-swap a b c = add_ends-assoc a b c ∙ (ap (add_ends a) (add_ends-comm b c) ∙ sym (add_ends-assoc a c b))

pub add_ends-zero : (a : Option ℕ) → add_ends (Some 0) a ≡ a
add_ends-zero None = refl
add_ends-zero (Some a) = let e : 0 + a ≡ a = omega arith in ap Some e

-- ends without an end sum to one without
pub unbounded-from_ends_below : (n : ℕ) (p : ℕ → Bool) (f : ℕ → Option ℕ) → ends_below n p f ≡ None → (k : ℕ) × (k < n) × (p k ≡ true) × (f k ≡ None)
unbounded-from_ends_below zero p f e = absurd (None-ne_Some (sym e))
unbounded-from_ends_below (suc n) p f e =
    let rest : ends_below n p f ≡ None → (k : ℕ) × (k < suc n) × (p k ≡ true) × (f k ≡ None) =
    λ none. (let r = unbounded-from_ends_below n p f none in let l = r.1 in (r.0, omega arith, r.2, r.3)) in
    elim (cases_Bool (p n)) [
      | inl t ↦ go (ends_below n p f) (f n) refl refl (rw t at e) rest t
      | inr t ↦ rest (rw t at e)
    ]
  where
    go : (a b : Option ℕ) → ends_below n p f ≡ a → f n ≡ b → add_ends a b ≡ None
        → (ends_below n p f ≡ None → (k : ℕ) × (k < suc n) × (p k ≡ true) × (f k ≡ None)) → p n ≡ true → (k : ℕ) × (k < suc n) × (p k ≡ true) × (f k ≡ None)
    go None b ea eb e rest t = rest ea
    go (Some a) None ea eb e rest t = (n, omega arith, t, eb)
    go (Some a) (Some b) ea eb e rest t = absurd (None-ne_Some (sym e))

-- where each number that passes has an end, ends sum as numbers do
pub ends_below-numbers : (n : ℕ) (p : ℕ → Bool) (f : ℕ → Option ℕ) (g : ℕ → ℕ) → ((k : ℕ) → k < n → p k ≡ true → f k ≡ Some (g k)) → ends_below n p f ≡ Some (sum_below n p g)
ends_below-numbers zero p f g h = refl
ends_below-numbers (suc n) p f g h =
    let rest = ends_below-numbers n p f g (λ k l. h k (omega arith)) in
    elim (cases_Bool (p n)) [
      | inl e ↦ (let here = h n (omega arith) e in rw (e, rest, here) refl)
      | inr e ↦ (let none : sum_below n p g ≡ sum_below n p g + 0 = omega arith in rw (e, rest) (ap Some none))
    ]

-- the sum of ends is the end of one number, where it passes, and the sum of the others
pub ends_below-others : (n : ℕ) (p : ℕ → Bool) (f : ℕ → Option ℕ) (k : ℕ) → k < n
    → ends_below n p f ≡ add_ends (cond (p k) (f k) (Some 0)) (ends_below n (λ j. not (eqb j k) && p j) f)
ends_below-others zero p f k l = absurd (omega arith)
ends_below-others (suc n) p f k l = elim (below_or_last n k l) [
  | inl lt ↦ (let rest = ends_below-others n p f k lt in
      let e : eqb n k ≡ false = ne_eqb n k (λ s. omega arith) in
      elim (cases_Bool (p n)) [
        | inl t ↦ rw (e, t, rest) (add_ends-assoc (cond (p k) (f k) (Some 0)) (ends_below n (λ j. not (eqb j k) && p j) f) (f n))
        | inr t ↦ rw (e, t) rest
      ])
  | inr s ↦ (let rest = ends_below-same n p (λ j. not (eqb j k) && p j) f f (others_same n p k (omega arith)) (λ j lj. refl) in
      let e : eqb n k ≡ true = eq-eqb n k (sym s) in
      let here : cond (p k) (f k) (Some 0) ≡ cond (p n) (f n) (Some 0) = ap (λ m. cond (p m) (f m) (Some 0)) s in
      elim (cases_Bool (p n)) [
        | inl t ↦ rw (e, here, t, rest) (add_ends-comm (ends_below n (λ j. not (eqb j k) && p j) f) (f n))
        | inr t ↦ rw (e, here, t, rest) (sym (add_ends-zero (ends_below n (λ j. not (eqb j k) && p j) f)))
      ])
]

-- so where it passes, they are the sum without it
pub ends_below-without : (n : ℕ) (p : ℕ → Bool) (f : ℕ → Option ℕ) (k : ℕ) → k < n → p k ≡ true → ends_below n p f ≡ add_ends (f k) (ends_below n (λ j. not (eqb j k) && p j) f)
ends_below-without n p f k l h = let whole = ends_below-others n p f k l in rw h at whole

pub ends_below-split : (n : ℕ) (p q : ℕ → Bool) (f : ℕ → Option ℕ) → ends_below n p f ≡ add_ends (ends_below n (λ k. p k && q k) f) (ends_below n (λ k. p k && not (q k)) f)
ends_below-split zero p q f = refl
ends_below-split (suc n) p q f =
    let rest = ends_below-split n p q f in
    let both = ends_below n (λ k. p k && q k) f in
    let one = ends_below n (λ k. p k && not (q k)) f in
    elim (cases_Bool (p n)) [
      | inl e ↦ elim (cases_Bool (q n)) [
        | inl d ↦ rw (e, d, rest) (add_ends-swap both one (f n))
        | inr d ↦ rw (e, d, rest) (add_ends-assoc both one (f n))
      ]
      | inr e ↦ rw e rest
    ]

add_ends-more : (a b c d : Option ℕ) → IsNoGreaterEnd a c → IsNoGreaterEnd b d → IsNoGreaterEnd (add_ends a b) (add_ends c d)
add_ends-more a b None d ac bd m h = refl
add_ends-more a b (Some c) None ac bd m h = refl
add_ends-more None b (Some c) (Some d) ac bd m h = absurd (let k = leb-true (c + 1) c (ac (c + 1) refl) in omega arith)
add_ends-more (Some a) None (Some c) (Some d) ac bd m h = absurd (let k = leb-true (d + 1) d (bd (d + 1) refl) in omega arith)
add_ends-more (Some a) (Some b) (Some c) (Some d) ac bd m h =
    let first = leb-true a c (ac a (le-leb a a (omega arith))) in
    let second = leb-true b d (bd b (le-leb b b (omega arith))) in
    let sum = leb-true m (a + b) h in
    le-leb m (c + d) (omega arith)

-- an end that is added leaves room for what there was room for
within-add_ends : (a b : Option ℕ) (m : ℕ) → within m a ≡ true → within m (add_ends a b) ≡ true
within-add_ends None b m w = refl
within-add_ends (Some a) None m w = refl
within-add_ends (Some a) (Some b) m w = let k = leb-true m a w in le-leb m (a + b) (omega arith)

within-added : (t : Bool) (a b : Option ℕ) (m : ℕ) → within m a ≡ true → within m (cond t (add_ends a b) a) ≡ true
within-added true a b m w = within-add_ends a b m w
within-added false a b m w = w

more_ends : (n : ℕ) (p q : ℕ → Bool) (f g : ℕ → Option ℕ) → ((k : ℕ) → k < n → p k ≡ true → (q k ≡ true) × IsNoGreaterEnd (f k) (g k)) → IsNoGreaterEnd (ends_below n p f) (ends_below n q g)
more_ends zero p q f g h = λ m w. w
more_ends (suc n) p q f g h =
    let rest = more_ends n p q f g (λ k l. h k (omega arith)) in
    elim (cases_Bool (p n)) [
      | inl e ↦ (let here = h n (omega arith) e in rw (e, here.0) (add_ends-more (ends_below n p f) (f n) (ends_below n q g) (g n) rest here.1))
      | inr e ↦ rw e (λ m w. within-added (q n) (ends_below n q g) (g n) m (rest m w))
    ]

further_ends : (m n : ℕ) (p : ℕ → Bool) (f : ℕ → Option ℕ) → m ≤ n → IsNoGreaterEnd (ends_below m p f) (ends_below n p f)
further_ends m zero p f l = let e : m ≡ 0 = omega arith in rw e (λ k w. w)
further_ends m (suc n) p f l = elim (cases_lt n m) [
  | inl last ↦ (let e : m ≡ suc n = omega arith in rw e (λ k w. w))
  | inr before ↦ (let rest = further_ends m n p f before in λ k w. within-added (p n) (ends_below n p f) (f n) k (rest k w))
]

-- more numbers and greater ends sum to no less
pub ends_below-more : (m n : ℕ) (p q : ℕ → Bool) (f g : ℕ → Option ℕ) → m ≤ n → ((k : ℕ) → k < m → p k ≡ true → (q k ≡ true) × IsNoGreaterEnd (f k) (g k))
    → IsNoGreaterEnd (ends_below m p f) (ends_below n q g)
ends_below-more m n p q f g l h k w = further_ends m n q g l k (more_ends m p q f g h k w)

-- terms that are each within an end sum to a number within the sum of the ends
pub within-sum_below : (n : ℕ) (p : ℕ → Bool) (f : ℕ → ℕ) (ends : ℕ → Option ℕ) → ((k : ℕ) → k < n → p k ≡ true → within (f k) (ends k) ≡ true) → within (sum_below n p f) (ends_below n p ends) ≡ true
within-sum_below n p f ends h = go (ends_below n p ends) refl
  where
    go : (e : Option ℕ) → ends_below n p ends ≡ e → within (sum_below n p f) e ≡ true
    go None e = refl
    go (Some s) e = le-leb (sum_below n p f) s (sum_below-within n p f ends s e h)
