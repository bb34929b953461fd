-- Keys that differ, and of which kind a key is.
use Rattle.std.proofs.Common.{◌≡◌, ◌≢◌, ◌∙◌, ℕ, ◌<◌, List, true≢false, ◌⊎◌, inl, inr, get_or, sym, ap, arith}
use Rattle.std.specs.Prelude.{nat_eq}
use Rattle.std.specs.Cmp.Lexicographic.{pointwise, bytes_decides}
use Rattle.std.proofs.lemmas.Bool.{cases_Bool, cases_lt}
use Rattle.rf_vstate.specs.Words.{fact_key, number_key, object_key}

word : List ℕ → ℕ → ℕ
word k i = get_or k i 0

-- the kinds differ in their first words
pub number-ne_object : (o : ℕ) → number_key ≢ object_key o
number-ne_object o e = (let h : ◌≡◌ {A = ℕ} 0 1 = ap (λ k. get_or k 0 0) e in absurd (omega arith))

pub number-ne_fact : (r a b : ℕ) → number_key ≢ fact_key r a b
number-ne_fact r a b e = (let h : ◌≡◌ {A = ℕ} 0 2 = ap (λ k. get_or k 0 0) e in absurd (omega arith))

pub object-ne_fact : (o r a b : ℕ) → object_key o ≢ fact_key r a b
object-ne_fact o r a b e = (let h : ◌≡◌ {A = ℕ} 1 2 = ap (λ k. get_or k 0 0) e in absurd (omega arith))

pub object_key-same : (o x : ℕ) → object_key o ≡ object_key x → o ≡ x
object_key-same o x e = ap (λ k. get_or k 1 0) e

pub fact_key-same : (r a b q x y : ℕ) → fact_key r a b ≡ fact_key q x y → (r ≡ q) × ((a ≡ x) × (b ≡ y))
fact_key-same r a b q x y e = (ap (λ k. get_or k 1 0) e, (ap (λ k. get_or k 2 0) e, ap (λ k. get_or k 3 0) e))

-- a key is this one, or it isn't
cases_key : (k l : List ℕ) → (k ≡ l) ⊎ (k ≡ l → ⊥)
cases_key k l = elim (cases_Bool (pointwise nat_eq k l)) [
  | inl t ↦ inl ((bytes_decides k l).0 t)
  | inr f ↦ inr (λ e. true≢false (sym ((bytes_decides k l).1 e) ∙ f))
]

-- the key is that of an object, or that of no object below n
pub cases_object : (n : ℕ) (k : List ℕ) → ((o : ℕ) × ((o < n) × (k ≡ object_key o))) ⊎ ((o : ℕ) → o < n → k ≢ object_key o)
cases_object n k = elim (cases_key k (object_key (get_or k 1 0))) [
  | inl e ↦ elim (cases_lt (get_or k 1 0) n) [
    | inl l ↦ inl (get_or k 1 0, (l, e))
    | inr m ↦ inr (λ o l same. (let h : get_or k 1 0 ≡ o = ap (λ j. get_or j 1 0) same in absurd (omega (arith, h))))
  ]
  | inr ne ↦ inr (λ o l same. ne (same ∙ ap object_key (sym (ap (λ j. get_or j 1 0) same))))
]

pub cases_fact : (k : List ℕ) → ((r : ℕ) × ((a : ℕ) × ((b : ℕ) × (k ≡ fact_key r a b)))) ⊎ ((r a b : ℕ) → k ≢ fact_key r a b)
cases_fact k = elim (cases_key k (fact_key (get_or k 1 0) (get_or k 2 0) (get_or k 3 0))) [
  | inl e ↦ inl (get_or k 1 0, (get_or k 2 0, (get_or k 3 0, e)))
  | inr ne ↦ inr (λ r a b same. ne (same ∙ (λ i. fact_key (ap (λ j. get_or j 1 0) (sym same) i) (ap (λ j. get_or j 2 0) (sym same) i) (ap (λ j. get_or j 3 0) (sym same) i))))
]

pub cases_number : (k : List ℕ) → (k ≡ number_key) ⊎ (k ≡ number_key → ⊥)
cases_number k = cases_key k number_key
