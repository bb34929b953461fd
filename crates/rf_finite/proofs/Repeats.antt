-- Lemmas on lists without repeats, and on their length.
use Rattle.std.proofs.Common.{◌≡◌, ℕ, zero, suc, ◌≤◌, ◌<◌, Bool, true, ◌&&◌, List, [], ◌∷◌, ◌++◌, ◌⊎◌, refl, sym, subst, ap, not, eqb, length, inl, inr, arith}
use Rattle.std.proofs.lemmas.Bool.{and_from, not_from_false, ne_eqb, cases_eq, cases_Bool, both_ways}
use Rattle.std.specs.Prelude.{Contains, ◌↔◌}
use Rattle.std.proofs.lemmas.List.Elements.{Contains-append_cases, Contains-push_cases}
use Rattle.rf_finite.specs.Lists.{HasNoRepeats}
use Rattle.rf_finite.specs.Range.{count_below}
use Rattle.rf_finite.proofs.Range.{below_or_last, count_below-without}

pub Contains-cons : {X : Type 0} (x : X) (xs : List X) (y : X) → Contains xs y → Contains (x ∷ xs) y
Contains-cons x xs y c = let l = c.1 in (suc c.0, omega arith, c.2)

-- what a list contains is its first element or in its rest
pub Contains-cons_cases : {X : Type 0} (x : X) (xs : List X) (y : X) → Contains (x ∷ xs) y → (x ≡ y) ⊎ Contains xs y
Contains-cons_cases x xs y c = elim (Contains-append_cases (x ∷ []) xs y c) [
  | inl h ↦ elim (Contains-push_cases [] x y h) [ inl n ↦ absurd (omega (arith, n.1)) | inr e ↦ inl e ]
  | inr t ↦ inr t
]

-- a list has no x, or it has one between two parts
pub cases_Contains : (ys : List ℕ) (x : ℕ) → (Contains ys x → ⊥) ⊎ ((before : List ℕ) × (after : List ℕ) × (ys ≡ before ++ x ∷ after))
cases_Contains [] x = inl (λ c. omega (arith, c.1))
cases_Contains (y ∷ ys) x = elim (cases_eq y x) [
  | inl e ↦ inr ([], ys, ap (λ z. z ∷ ys) e)
  | inr ne ↦ elim (cases_Contains ys x) [
    | inl none ↦ inl (λ c. elim (Contains-cons_cases y ys x c) [ inl e ↦ ne e | inr t ↦ none t ])
    | inr s ↦ inr (y ∷ s.0, s.1, ap (λ zs. y ∷ zs) s.2)
  ]
]

-- what is left of a list without repeats has none
pub HasNoRepeats-rest : {X : Type 0} (xs ys : List X) → HasNoRepeats (xs ++ ys) → HasNoRepeats ys
HasNoRepeats-rest [] ys h = h
HasNoRepeats-rest (x ∷ xs) ys h = HasNoRepeats-rest xs ys h.1

-- numbers that differ and pass are at most as many as pass at all
pub length-no_repeats : (n : ℕ) (xs : List ℕ) (p : ℕ → Bool) → HasNoRepeats xs → ((x : ℕ) → Contains xs x → (x < n) × (p x ≡ true)) → length xs ≤ count_below n p
length-no_repeats n [] p d h = omega arith
length-no_repeats n (x ∷ xs) p d h =
    let here = h x (zero, omega arith, refl) in
    let one = count_below-without n p x here.0 here.1 in
    let rest = length-no_repeats n xs (λ k. not (eqb k x) && p k) d.1
    (λ y c. let there = h y (Contains-cons x xs y c) in
    (there.0, and_from (not (eqb y x)) (p y) (not_from_false (eqb y x) (ne_eqb y x (λ e. d.0 (subst (Contains xs) e c)))) there.1)) in
    omega arith

-- the numbers below n that pass, each once, are as many as the count says
pub count_below-listed : (n : ℕ) (p : ℕ → Bool)
    → (xs : List ℕ) × HasNoRepeats xs × ((x : ℕ) → Contains xs x ↔ ((x < n) × (p x ≡ true))) × (count_below n p ≡ length xs)
count_below-listed zero p = ([], tt, (λ x. (λ c. absurd (omega (arith, c.1)), λ h. (let l = h.0 in absurd (omega arith)))), refl)
count_below-listed (suc n) p =
    let rest = count_below-listed n p in
    elim (cases_Bool (p n)) [
      | inl t ↦ (
        n ∷ rest.0,
        (λ c. (let l = ((rest.2 n).0 c).0 in omega arith), rest.1),
        (λ x. (
          λ c. elim (Contains-cons_cases n rest.0 x c) [
            | inl e ↦ (subst (λ m. m < suc n) e (omega arith), subst (λ m. p m ≡ true) e t)
            | inr k ↦ (let r = (rest.2 x).0 k in let l = r.0 in (omega arith, r.1))
          ],
          λ h. elim (below_or_last n x h.0) [
            | inl l ↦ Contains-cons n rest.0 x ((rest.2 x).1 (l, h.1))
            | inr e ↦ subst (Contains (n ∷ rest.0)) (sym e) (zero, omega arith, refl)
          ],
        )),
        (let e = rest.3 in rw t (omega arith)),
      )
      | inr f ↦ (
        rest.0,
        rest.1,
        (λ x. (
          λ c. (let r = (rest.2 x).0 c in let l = r.0 in (omega arith, r.1)),
          λ h. elim (below_or_last n x h.0) [
            | inl l ↦ (rest.2 x).1 (l, h.1)
            | inr e ↦ absurd (both_ways (p n) f (subst (λ m. p m ≡ true) e h.1))
          ],
        )),
        (let e = rest.3 in rw f (omega arith)),
      )
    ]
