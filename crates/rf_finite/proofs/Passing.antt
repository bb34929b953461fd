-- Lemmas on the numbers that pass, in order, and on sums where each term is 1 or 0.
use Rattle.std.proofs.Common.{◌≡◌, ℕ, zero, suc, ◌+◌, ◌<◌, Bool, true, false, cond, not, ◌&&◌, eqb, Option, Some, ◌∷◌, [], ◌++◌, length, get_or, refl, sym, ap, ◌∙◌, subst, inl, inr, arith}
use Rattle.std.proofs.lemmas.Bool.{cases_Bool, cases_lt, cases_order, eqb-true, eq-eqb}
use Rattle.std.proofs.lemmas.List.{get_or_append_left, length-append}
use Rattle.std.proofs.Math.Seq.{get_or-append_seam}
use Rattle.rf_finite.specs.Ends.{ends_below}
use Rattle.rf_finite.specs.Passing.{passing, PassingIsAll, PassingIsInOrder}
use Rattle.rf_finite.specs.Range.{count_below, sum_below}
use Rattle.rf_finite.proofs.Range.{count_below-same, count_below-without, count_below-none, below_or_last}

pub length_passing : (n : ℕ) (p : ℕ → Bool) → length (passing n p) ≡ count_below n p
length_passing zero p = refl
length_passing (suc n) p = let rest = length_passing n p in elim (cases_Bool (p n)) [
  | inl e ↦ rw (e, length-append, rest) refl
  | inr e ↦ rw (e, rest) (omega arith)
]

-- k is the number that has place x
abbrev pub IsPick : ℕ → (ℕ → Bool) → ℕ → ℕ → Type 0
IsPick n p x k = (k < n) × (p k ≡ true) × (count_below k p ≡ x)

pub at_passing : (n : ℕ) (p : ℕ → Bool) (x : ℕ) → x < count_below n p → IsPick n p x (get_or (passing n p) x 0)
at_passing zero p x l = absurd (omega arith)
at_passing (suc n) p x l = elim (cases_Bool (p n)) [
  | inl e ↦ elim (cases_lt x (count_below n p)) [
    | inl lt ↦ (let r = at_passing n p x lt in let m = r.0 in let len = length_passing n p in
        let same = get_or_append_left (passing n p) (n ∷ []) 0 x (omega arith) in
        rw e (subst (IsPick (suc n) p x) (sym same) (omega arith, r.1, r.2)))
    | inr ge ↦ (let k = rw e at l in let len = length_passing n p in let here : x ≡ length (passing n p) = omega arith in
        let seam : get_or (passing n p ++ n ∷ []) x 0 ≡ n = ap (λ i. get_or (passing n p ++ n ∷ []) i 0) here ∙ get_or-append_seam (passing n p) n [] 0 in
        rw e (subst (IsPick (suc n) p x) (sym seam) (omega arith, e, omega arith)))
  ]
  | inr e ↦ (let k = rw e at l in let r = at_passing n p x (omega arith) in let m = r.0 in rw e (omega arith, r.1, r.2))
]

pub count_strict : (n : ℕ) (p : ℕ → Bool) (k : ℕ) → k < n → p k ≡ true → count_below k p < count_below n p
count_strict zero p k l h = absurd (omega arith)
count_strict (suc n) p k l h = elim (below_or_last n k l) [
  | inl lt ↦ (let rest = count_strict n p k lt h in omega arith)
  | inr e ↦ (let here : p n ≡ true = subst (λ m. p m ≡ true) e h in rw (here, e) (omega arith))
]

pub same_place : (p : ℕ → Bool) (j k : ℕ) → p j ≡ true → p k ≡ true → count_below j p ≡ count_below k p → j ≡ k
same_place p j k hj hk e = elim (cases_order j k) [
  | inl s ↦ s
  | inr o ↦ elim o [
    | inl l ↦ (let m = count_strict k p j l hj in absurd (omega arith))
    | inr g ↦ (let m = count_strict j p k g hk in absurd (omega arith))
  ]
]

-- one that passes has a place
pub place_of : (n : ℕ) (p : ℕ → Bool) (k : ℕ) → k < n → p k ≡ true → (count_below k p < count_below n p) × (get_or (passing n p) (count_below k p) 0 ≡ k)
place_of n p k l h =
    let m = count_strict n p k l h in let r = at_passing n p (count_below k p) m in
    (m, same_place p (get_or (passing n p) (count_below k p) 0) k r.1 h r.2)

pub apart_passing : (n : ℕ) (p : ℕ → Bool) (x y : ℕ) → x < count_below n p → y < count_below n p → get_or (passing n p) x 0 ≡ get_or (passing n p) y 0 → x ≡ y
apart_passing n p x y lx ly e = sym (at_passing n p x lx).2 ∙ (ap (λ k. count_below k p) e ∙ (at_passing n p y ly).2)

count_next : (m c : ℕ) (f : ℕ → Bool) → m ≡ c + 1 → count_below m f ≡ count_below c f + cond (f c) 1 0
count_next m c f e = subst (λ m. count_below m f ≡ count_below c f + cond (f c) 1 0) (let k : suc c ≡ m = omega arith in k) refl

-- how many places pass is how many of the numbers do
pub count_passing : (n : ℕ) (p q : ℕ → Bool) → count_below (count_below n p) (λ x. q (get_or (passing n p) x 0)) ≡ count_below n (λ k. p k && q k)
count_passing zero p q = refl
count_passing (suc n) p q =
    let rest = count_passing n p q in let len = length_passing n p in
    elim (cases_Bool (p n)) [
      | inl e ↦ (let left = count_below-same (count_below n p) (λ x. q (get_or (passing n p ++ n ∷ []) x 0)) (λ x. q (get_or (passing n p) x 0))
          (λ x l. ap q (get_or_append_left (passing n p) (n ∷ []) 0 x (omega arith))) in
          let seam : get_or (passing n p ++ n ∷ []) (count_below n p) 0 ≡ n = ap (λ i. get_or (passing n p ++ n ∷ []) i 0) (sym len) ∙ get_or-append_seam (passing n p) n [] 0 in
          rw e (count_next (count_below n p + 1) (count_below n p) (λ x. q (get_or (passing n p ++ n ∷ []) x 0)) refl
          ∙ (ap (λ k. count_below (count_below n p) (λ x. q (get_or (passing n p ++ n ∷ []) x 0)) + cond (q k) 1 0) seam
          ∙ ap (λ c. c + cond (q n) 1 0) (left ∙ rest))))
      | inr e ↦ (let none : count_below n p + 0 ≡ count_below n p = omega arith in
          rw e (ap (λ c. count_below c (λ x. q (get_or (passing n p) x 0))) none ∙ (rest ∙ omega arith)))
    ]

-- one number alone
pub count_only : (n : ℕ) (p : ℕ → Bool) (o : ℕ) → o < n → count_below n (λ k. p k && eqb k o) ≡ cond (p o) 1 0
count_only n p o l = elim (cases_Bool (p o)) [
  | inl e ↦ rw e (count_below-without n (λ k. p k && eqb k o) o l (rw (e, eq-eqb o o refl) refl)
      ∙ ap suc (count_below-none n (λ k. not (eqb k o) && (p k && eqb k o)) (λ k lk. elim (cases_Bool (eqb k o)) [
        | inl f ↦ rw f refl
        | inr f ↦ rw f (elim (cases_Bool (p k)) [ inl g ↦ rw g refl | inr g ↦ rw g refl ])
      ])))
  | inr e ↦ rw e (count_below-none n (λ k. p k && eqb k o) (λ k lk. elim (cases_Bool (eqb k o)) [
    | inl f ↦ (let g : p k ≡ false = subst (λ j. p j ≡ false) (sym (eqb-true k o f)) e in rw g refl)
    | inr f ↦ rw f (elim (cases_Bool (p k)) [ inl g ↦ rw g refl | inr g ↦ rw g refl ])
  ]))
]

-- where each lower end is one at a single object and none at another, the sum counts the single ones
pub sum_singles : (n : ℕ) (q single : ℕ → Bool) (f : ℕ → ℕ) → ((k : ℕ) → k < n → f k ≡ cond (single k) 1 0) → sum_below n q f ≡ count_below n (λ k. single k && q k)
sum_singles zero q single f h = refl
sum_singles (suc n) q single f h =
    let rest = sum_singles n q single f (λ k l. h k (omega arith)) in let here = h n (omega arith) in
    elim (cases_Bool (q n)) [
      | inl e ↦ elim (cases_Bool (single n)) [ inl d ↦ (let v = rw d at here in rw (e, d) (omega arith)) | inr d ↦ (let v = rw d at here in rw (e, d) (omega arith)) ]
      | inr e ↦ elim (cases_Bool (single n)) [ inl d ↦ rw (e, d) (omega arith) | inr d ↦ rw (e, d) (omega arith) ]
    ]

pub ends_singles : (n : ℕ) (q single : ℕ → Bool) (f : ℕ → Option ℕ) → ((k : ℕ) → k < n → f k ≡ Some (cond (single k) 1 0)) → ends_below n q f ≡ Some (count_below n (λ k. single k && q k))
ends_singles zero q single f h = refl
ends_singles (suc n) q single f h =
    let rest = ends_singles n q single f (λ k l. h k (omega arith)) in let here = h n (omega arith) in
    elim (cases_Bool (q n)) [
      | inl e ↦ rw (e, rest, here) (elim (cases_Bool (single n)) [ inl d ↦ rw d refl | inr d ↦ rw d refl ])
      | inr e ↦ rw (e, rest) (elim (cases_Bool (single n)) [ inl d ↦ rw d (ap Some (omega arith)) | inr d ↦ rw d (ap Some (omega arith)) ])
    ]

pub passing_all : PassingIsAll
passing_all = length_passing

pub passing_in_order : PassingIsInOrder
passing_in_order n p x l = let many = length_passing n p in at_passing n p x (omega arith)
