-- Lemmas on ends.
use Rattle.std.proofs.Common.{◌≡◌, ℕ, zero, suc, ◌+◌, ◌*◌, ◌≤◌, ◌<◌, Bool, true, Option, Some, None, IfSome, refl, sym, ◌∙◌, subst, inl, inr, arith}
use Rattle.std.proofs.lemmas.Bool.{cases_Bool, leb-true, le-leb}
use Rattle.rf_finite.specs.Range.{sum_below}
use Rattle.rf_finite.proofs.Range.{None-ne_Some, below_or_last}
use Rattle.rf_finite.specs.Ends.{within, add_ends, ends_below}

-- what is within an end lets a smaller number in
pub within-le : (m n : ℕ) (e : Option ℕ) → m ≤ n → within n e ≡ true → within m e ≡ true
within-le m n None l h = refl
within-le m n (Some e) l h = let k = leb-true n e h in le-leb m e (omega arith)

-- where the ends sum to s, so do at most the numbers within them
pub sum_below-within : (n : ℕ) (p : ℕ → Bool) (f : ℕ → ℕ) (ends : ℕ → Option ℕ) (s : ℕ) → ends_below n p ends ≡ Some s → ((k : ℕ) → k < n → p k ≡ true → within (f k) (ends k) ≡ true) → sum_below n p f ≤ s
sum_below-within zero p f ends s e h = omega arith
sum_below-within (suc n) p f ends s e h =
    let rest : (t : ℕ) → ends_below n p ends ≡ Some t → sum_below n p f ≤ t = λ t et. sum_below-within n p f ends t et (λ k l x. h k (omega arith) x) in
    elim (cases_Bool (p n)) [
      | inl t ↦ rw t (go (ends_below n p ends) (ends n) refl (rw t at e) rest (h n (omega arith) t))
      | inr t ↦ (let r = rest s (rw t at e) in rw t (omega arith))
    ]
  where
    go : (a b : Option ℕ) → ends_below n p ends ≡ a → add_ends a b ≡ Some s → ((t : ℕ) → ends_below n p ends ≡ Some t → sum_below n p f ≤ t) → within (f n) b ≡ true → sum_below n p f + f n ≤ s
    go None b ea es rest fits = absurd (None-ne_Some es)
    go (Some x) None ea es rest fits = absurd (None-ne_Some es)
    go (Some x) (Some y) ea es rest fits =
        let total : x + y ≡ s = cc in
        let below : f n ≤ y = leb-true (f n) y fits in
        let r = rest x ea in omega arith

-- the sum of ends that are at most a limit each is at most as many times the limit
pub add_ends-le : (total e : Option ℕ) (limit c d : ℕ) → IfSome total (λ n. n ≤ limit * c) → IfSome e (λ n. n ≤ limit) → d ≡ c + 1 → IfSome (add_ends total e) (λ n. n ≤ limit * d)
add_ends-le None e limit c d a b q = tt
add_ends-le (Some t) None limit c d a b q = tt
add_ends-le (Some t) (Some n) limit c d a b q = rw q (omega arith)

pub within-from_le : (m n : ℕ) (e : Option ℕ) → e ≡ Some n → m ≤ n → within m e ≡ true
within-from_le m n e h l = rw h (le-leb m n l)

-- ends that agree where their numbers pass sum to the same
pub ends_below-pointwise : (n : ℕ) (p q : ℕ → Bool) (f g : ℕ → Option ℕ) → ((k : ℕ) → k < n → p k ≡ q k) → ((k : ℕ) → k < n → p k ≡ true → f k ≡ g k) → ends_below n p f ≡ ends_below n q g
ends_below-pointwise zero p q f g hp hf = refl
ends_below-pointwise (suc n) p q f g hp hf =
    let rest = ends_below-pointwise n p q f g (λ k l. hp k (omega arith)) (λ k l. hf k (omega arith)) in
    let test = hp n (omega arith) in
    elim (cases_Bool (p n)) [
      | inl e ↦ (let term = hf n (omega arith) e in let other = sym test ∙ e in rw (e, other, rest, term) refl)
      | inr e ↦ (let other = sym test ∙ e in rw (e, other, rest) refl)
    ]

-- tests and ends that agree have the same sum
pub ends_below-same : (n : ℕ) (p q : ℕ → Bool) (f g : ℕ → Option ℕ) → ((k : ℕ) → k < n → p k ≡ q k) → ((k : ℕ) → k < n → f k ≡ g k) → ends_below n p f ≡ ends_below n q g
ends_below-same n p q f g hp hf = ends_below-pointwise n p q f g hp (λ k l e. hf k l)

add_ends-None : (a : Option ℕ) → add_ends a None ≡ None
add_ends-None None = refl
add_ends-None (Some a) = refl

-- the sum has no end where one of its terms has none
pub ends_below-unbounded : (n : ℕ) (p : ℕ → Bool) (f : ℕ → Option ℕ) (k : ℕ) → k < n → p k ≡ true → f k ≡ None → ends_below n p f ≡ None
ends_below-unbounded zero p f k l h e = absurd (omega arith)
ends_below-unbounded (suc n) p f k l h e = elim (below_or_last n k l) [
  | inl lt ↦ (let rest = ends_below-unbounded n p f k lt h e in elim (cases_Bool (p n)) [ inl t ↦ rw (t, rest) refl | inr t ↦ rw t rest ])
  | inr s ↦ (let test : p n ≡ true = subst (λ m. p m ≡ true) s h in
      let term : f n ≡ None = subst (λ m. f m ≡ None) s e in
      rw (test, term) (add_ends-None (ends_below n p f)))
]
