-- Variables inside negations stand in no other literal.
use Rattle.std.proofs.Common.{◌≡◌, ◌∙◌, ℕ, zero, suc, ◌+◌, ◌≤◌, ◌<◌, Bool, true, false, List, [], ◌∷◌, length, get_or, drop, refl, sym, ap, inl, inr, arith, true≢false}
use Rattle.std.specs.Prelude.{◌==◌, nat_lt}
use Rattle.std.specs.List.{list_all, list_any}
use Rattle.std.proofs.lemmas.Bool.{and_from, and_parts, cases_Bool, eq-eqb, lt-ltb}
use Rattle.std.proofs.lemmas.List.{get_or_default}
use Rattle.std.proofs.lemmas.List.Folds.{Any-from_list_any}
use Rattle.rf_problem.specs.Valid.{ranges_over}
use Rattle.rf_problem.specs.declared.predicate.Literal.{Literal}
use Rattle.rf_problem.specs.declared.predicate.Literal.TheVariants.{Call, Same, Differ}
use Rattle.rf_names.specs.LookUp.{numbers_where}
use Rattle.rf_build.specs.Resolved.{is_variable, mentions, negates, negation_around, only_one}
use Rattle.rf_resolve.proofs.ClearOffsets.{cons_not_nil}

-- each number is that of an item
pub numbers_where-below :
    {X : Type 0} (p : X → Bool) (n : ℕ) (xs : List X) (m : ℕ) → n + length xs ≤ m → list_all (λ k. nat_lt k m) (numbers_where n p xs) ≡ true
numbers_where-below p n [] m l = refl
numbers_where-below p n (x ∷ xs) m l =
    let below : nat_lt n m ≡ true = lt-ltb n m (omega arith) in
    let rest = numbers_where-below p (suc n) xs m (omega arith) in
    elim (cases_Bool (p x)) [
      | inl e ↦ rw e (and_from (nat_lt n m) (list_all (λ k. nat_lt k m) (numbers_where (suc n) p xs)) below rest)
      | inr e ↦ rw e rest
    ]

-- where there is no number, no item passes
numbers_where-none :
    {X : Type 0} (p : X → Bool) (n : ℕ) (xs : List X) → numbers_where n p xs ≡ [] →
    (k : ℕ) (d : X) → k < length xs → p (get_or xs k d) ≡ true → ⊥
numbers_where-none p n [] e k d l h = absurd (omega arith)
numbers_where-none p n (x ∷ xs) e zero d l h = cons_not_nil n (numbers_where (suc n) p xs) (rw h at e)
numbers_where-none p n (x ∷ xs) e (suc k) d l h = elim (cases_Bool (p x)) [
  | inl here ↦ cons_not_nil n (numbers_where (suc n) p xs) (rw here at e)
  | inr gone ↦ numbers_where-none p (suc n) xs (rw gone at e) k d (omega arith) h
]

-- where there is one number, it is that of each item that passes
numbers_where-one :
    {X : Type 0} (p : X → Bool) (n : ℕ) (xs : List X) (j : ℕ) → numbers_where n p xs ≡ j ∷ [] →
    (k : ℕ) (d : X) → k < length xs → p (get_or xs k d) ≡ true → n + k ≡ j
numbers_where-one p n [] j e k d l h = absurd (omega arith)
numbers_where-one p n (x ∷ xs) j e zero d l h =
    let whole : n ∷ numbers_where (suc n) p xs ≡ j ∷ [] = rw h at e in
    let first : n ≡ j = ap (λ ns. get_or ns 0 0) whole in
    omega arith
numbers_where-one p n (x ∷ xs) j e (suc k) d l h = elim (cases_Bool (p x)) [
  | inl here ↦ (let whole : n ∷ numbers_where (suc n) p xs ≡ j ∷ [] = rw here at e in
      let rest : numbers_where (suc n) p xs ≡ [] = ap (drop 1) whole in
      absurd (numbers_where-none p (suc n) xs rest k d (omega arith) h))
  | inr gone ↦ (let later = numbers_where-one p (suc n) xs j (rw gone at e) k d (omega arith) h in omega arith)
]

-- whether a `!` stands before a literal
abbrev pub is_negation : Literal → Bool
is_negation (Call negated closure symbol args) = negated
is_negation (Same a b) = false
is_negation (Differ a b) = false

negates-parts : (v : ℕ) (l : Literal) → negates v l ≡ true → (is_negation l ≡ true) × (mentions v l ≡ true)
negates-parts v (Call negated closure symbol args) h = and_parts negated (list_any (is_variable v) args) h
negates-parts v (Same a b) h = absurd (true≢false (sym h))
negates-parts v (Differ a b) h = absurd (true≢false (sym h))

-- the one literal that names a variable, where some literal negates it
only_one-fits :
    (ls : List Literal) (k : ℕ) (d : Literal) (v : ℕ) → k < length ls → mentions v (get_or ls k d) ≡ true → list_any (negates v) ls ≡ true →
    (js : List ℕ) → numbers_where 0 (mentions v) ls ≡ js → ranges_over (only_one js) k (is_negation (get_or ls k d)) ≡ true
only_one-fits ls k d v l has some [] e = refl
only_one-fits ls k d v l has some (i ∷ j ∷ js) e = refl
only_one-fits ls k d v l has some (i ∷ []) e =
    let one = Any-from_list_any (negates v) ls some in
    let parts = negates-parts v one.1 one.4 in
    let here : 0 + k ≡ i = numbers_where-one (mentions v) 0 ls i e k d l has in
    let there : 0 + one.0 ≡ i =
    numbers_where-one (mentions v) 0 ls i e one.0 one.1 one.2 (ap (mentions v) one.3 ∙ parts.1) in
    let same : one.0 ≡ k = omega arith in
    let at : get_or ls k d ≡ one.1 = get_or_default ls k d one.1 l ∙ ap (λ m. get_or ls m one.1) (sym same) ∙ one.3 in
    and_from (is_negation (get_or ls k d)) (k == i) (ap is_negation at ∙ parts.0) (eq-eqb k i (omega arith))

-- a literal that names a variable is the one in whose negation it ranges, where there is such a one
pub negation_around-fits :
    (ls : List Literal) (k : ℕ) (d : Literal) (v : ℕ) → k < length ls → mentions v (get_or ls k d) ≡ true →
    ranges_over (negation_around ls v) k (is_negation (get_or ls k d)) ≡ true
negation_around-fits ls k d v l has = elim (cases_Bool (list_any (negates v) ls)) [
  | inl some ↦ rw some (only_one-fits ls k d v l has some (numbers_where 0 (mentions v) ls) refl)
  | inr none ↦ rw none refl
]
