-- Lemmas on lists one after another: what holds of each element, of each two, and of some.
use Rattle.std.proofs.Common.{◌≡◌, ℕ, zero, suc, ◌-◌, ◌<◌, Bool, true, ◌||◌, List, [], ◌∷◌, ◌++◌, length, get_or, refl, sym, ap, ◌∙◌, subst, inl, inr, arith, All, AllPairs}
use Rattle.std.proofs.lemmas.Bool.{cases_lt}
use Rattle.std.proofs.lemmas.List.{get_or_append_left, get_or-append_right, length-append}
use Rattle.std.proofs.lemmas.List.Elements.{All-append}
use Rattle.std.proofs.lemmas.List.Folds.{list_any-append}
use Rattle.std.specs.List.{list_any}
use Rattle.rf_finite.specs.Passing.{joined}
use Rattle.rf_finite.specs.Range.{some_below}
use Rattle.rf_finite.proofs.Range.{one-from_some_below, some_below-from_one}

pub any_joined : {A : Type 0} (n : ℕ) (test : A → Bool) (f : ℕ → List A) → list_any test (joined n f) ≡ some_below n (λ k. list_any test (f k))
any_joined zero test f = refl
any_joined (suc n) test f = list_any-append test (joined n f) (f n) ∙ ap (λ b. b || list_any test (f n)) (any_joined n test f)

pub joined_found : {A : Type 0} (n : ℕ) (test : A → Bool) (f : ℕ → List A) → list_any test (joined n f) ≡ true → (k : ℕ) × (k < n) × (list_any test (f k) ≡ true)
joined_found n test f h = one-from_some_below n (λ k. list_any test (f k)) (sym (any_joined n test f) ∙ h)

pub joined_made : {A : Type 0} (n : ℕ) (test : A → Bool) (f : ℕ → List A) (k : ℕ) → k < n → list_any test (f k) ≡ true → list_any test (joined n f) ≡ true
joined_made n test f k l h = any_joined n test f ∙ some_below-from_one n (λ k. list_any test (f k)) k l h

pub all_joined : {A : Type 0} (P : A → Type 0) (n : ℕ) (f : ℕ → List A) → ((k : ℕ) → k < n → All P (f k)) → All P (joined n f)
all_joined P zero f h = λ i d l. absurd (omega arith)
all_joined P (suc n) f h = All-append P (joined n f) (f n) (all_joined P n f (λ k l. h k (omega arith))) (h n (omega arith))

pairs_append : {A : Type 0} (R : A → A → Type 0) (xs ys : List A) → AllPairs R xs → AllPairs R ys → ((i j : ℕ) (d : A) → i < length xs → j < length ys → R (get_or xs i d) (get_or ys j d)) → AllPairs R (xs ++ ys)
pairs_append R xs ys a b c i j d l k =
    let n = length-append xs ys in
    elim (cases_lt j (length xs)) [
      | inl lj ↦ subst (λ u. R u (get_or (xs ++ ys) j d)) (sym (get_or_append_left xs ys d i (omega arith))) (subst (R (get_or xs i d)) (sym (get_or_append_left xs ys d j lj)) (a i j d l lj))
      | inr gj ↦ subst (R (get_or (xs ++ ys) i d)) (sym (get_or-append_right xs ys (length xs) j d refl gj)) (elim (cases_lt i (length xs)) [
        | inl li ↦ subst (λ u. R u (get_or ys (j - length xs) d)) (sym (get_or_append_left xs ys d i li)) (c i (j - length xs) d li (omega arith))
        | inr gi ↦ subst (λ u. R u (get_or ys (j - length xs) d)) (sym (get_or-append_right xs ys (length xs) i d refl gi)) (b (i - length xs) (j - length xs) d (omega arith) (omega arith))
      ])
    ]

-- elements of different lists have different keys
pub pairs_joined : {A : Type 0} (R : A → A → Type 0) (key : A → ℕ) (n : ℕ) (f : ℕ → List A) → ((x y : A) → (key x ≡ key y → ⊥) → R x y)
    → ((k : ℕ) → k < n → All (λ x. key x ≡ k) (f k)) → ((k : ℕ) → k < n → AllPairs R (f k)) → AllPairs R (joined n f)
pairs_joined R key zero f apart keys pairs = λ i j d l k. absurd (omega arith)
pairs_joined R key (suc n) f apart keys pairs =
    let front = all_joined (λ x. key x < n) n f (λ k l i d m. let e = keys k (omega arith) i d m in omega arith) in
    pairs_append R (joined n f) (f n) (pairs_joined R key n f apart (λ k l. keys k (omega arith)) (λ k l. pairs k (omega arith))) (pairs n (omega arith))
    (λ i j d l k. apart (get_or (joined n f) i d) (get_or (f n) j d) (λ same. let a = front i d l in let b = keys n (omega arith) j d k in omega arith))
