-- The places of lists one after another.
use Rattle.std.proofs.Common.{◌≡◌, ℕ, zero, suc, ◌+◌, ◌-◌, ◌*◌, ◌/◌, ◌%◌, ◌<◌, ◌≤◌, List, [], ◌++◌, length, get_or, refl, sym, ap, ap₂, ◌∙◌, subst, inl, inr, arith}
use Rattle.std.proofs.lemmas.Bool.{cases_lt}
use Rattle.std.proofs.lemmas.List.{append-nil, append_assoc, get_or_append_left, get_or-append_right, length-append}
use Rattle.std.proofs.lemmas.Nat.{div-mul-add, mod-mul-add}
use Rattle.rf_finite.specs.Passing.{joined}

-- the lists below a lesser number come first
pub joined_more : {A : Type 0} (n m : ℕ) (f : ℕ → List A) (d : A) (i : ℕ) → m ≤ n → i < length (joined m f)
    → get_or (joined n f) i d ≡ get_or (joined m f) i d
joined_more zero m f d i le l = let e : m ≡ 0 = omega arith in subst (λ m. get_or [] i d ≡ get_or (joined m f) i d) (sym e) refl
joined_more (suc n) m f d i le l = elim (cases_lt n m) [
  | inl lt ↦ (let e : m ≡ suc n = omega arith in subst (λ m. get_or (joined (suc n) f) i d ≡ get_or (joined m f) i d) (sym e) refl)
  | inr ge ↦ (let rest = joined_more n m f d i ge l in let more = joined_length n m f ge in
      get_or_append_left (joined n f) (f n) d i (omega arith) ∙ rest)
]
  where
    joined_length : {A : Type 0} (n m : ℕ) (f : ℕ → List A) → m ≤ n → length (joined m f) ≤ length (joined n f)
    joined_length zero m f le = let e : m ≡ 0 = omega arith in rw e (omega arith)
    joined_length (suc n) m f le = elim (cases_lt n m) [
      | inl lt ↦ (let e : m ≡ suc n = omega arith in rw e (omega arith))
      | inr ge ↦ (let rest = joined_length n m f ge in let two = length-append (joined n f) (f n) in omega arith)
    ]

-- a place of one list
pub joined_at : {A : Type 0} (n k : ℕ) (f : ℕ → List A) (d : A) (i : ℕ) → k < n → i < length (f k)
    → get_or (joined n f) (length (joined k f) + i) d ≡ get_or (f k) i d
joined_at n k f d i l li =
    let two = length-append (joined k f) (f k) in
    let at : length (joined k f) ≤ length (joined k f) + i = omega arith in
    let same : (length (joined k f) + i) - length (joined k f) ≡ i = omega arith in
    joined_more n (suc k) f d (length (joined k f) + i) (omega arith) (omega arith)
    ∙ (get_or-append_right (joined k f) (f k) (length (joined k f)) (length (joined k f) + i) d refl at ∙ ap (λ j. get_or (f k) j d) same)

-- they are empty exactly where each is
pub joined_some : {A : Type 0} (n k : ℕ) (f : ℕ → List A) → k < n → length (joined n f) ≡ 0 → length (f k) ≡ 0
joined_some zero k f l e = absurd (omega arith)
joined_some (suc n) k f l e =
    let two = length-append (joined n f) (f n) in
    elim (cases_lt k n) [
      | inl lt ↦ joined_some n k f lt (omega arith)
      | inr ge ↦ (let same : k ≡ n = omega arith in subst (λ j. length (f j) ≡ 0) (sym same) (omega arith))
    ]

pub joined_none : {A : Type 0} (n : ℕ) (f : ℕ → List A) → ((k : ℕ) → k < n → length (f k) ≡ 0) → length (joined n f) ≡ 0
joined_none zero f h = refl
joined_none (suc n) f h =
    let two = length-append (joined n f) (f n) in
    let rest = joined_none n f (λ k l. h k (omega arith)) in
    let last = h n (omega arith) in
    omega arith

-- lists that are the same one by one
pub joined_same : {A : Type 0} (n : ℕ) (f g : ℕ → List A) → ((k : ℕ) → k < n → f k ≡ g k) → joined n f ≡ joined n g
joined_same zero f g h = refl
joined_same (suc n) f g h = ap₂ (λ xs ys. xs ++ ys) (joined_same n f g (λ k l. h k (omega arith))) (h n (omega arith))

-- first the first m, then the n that follow
joined_split : {A : Type 0} (m n : ℕ) (f : ℕ → List A) → joined (m + n) f ≡ joined m f ++ joined n (λ k. f (m + k))
joined_split m zero f =
    let e : m + 0 ≡ m = omega arith in
    ap (λ k. joined k f) e ∙ sym (append-nil (joined m f))
joined_split m (suc n) f =
    let e : m + suc n ≡ suc (m + n) = omega arith in
    ap (λ k. joined k f) e ∙ (ap (λ xs. xs ++ f (m + n)) (joined_split m n f)
    ∙ append_assoc (joined m f) (joined n (λ k. f (m + k))) (f (m + n)))

rows-joined : {A : Type 0} (m n : ℕ) (f : ℕ → ℕ → List A) → 0 < n → joined (m * n) (λ k. f (k / n) (k % n)) ≡ joined m (λ r. joined n (f r))
rows-joined zero n f l = let e : 0 * n ≡ 0 = omega arith in ap (λ k. joined k (λ j. f (j / n) (j % n))) e
rows-joined (suc m) n f l =
    let e : suc m * n ≡ m * n + n = omega arith in
    ap (λ k. joined k (λ j. f (j / n) (j % n))) e
    ∙ (joined_split (m * n) n (λ j. f (j / n) (j % n))
    ∙ ap₂ (λ xs ys. xs ++ ys) (rows-joined m n f l)
    (joined_same n (λ k. f ((m * n + k) / n) ((m * n + k) % n)) (f m) (λ k h. rw (div-mul-add m n k h, mod-mul-add m n k h) refl)))

joined_empty : {A : Type 0} (m : ℕ) (f : ℕ → ℕ → List A) → joined m (λ r. joined 0 (f r)) ≡ []
joined_empty zero f = refl
joined_empty (suc m) f = ap (λ xs. xs ++ []) (joined_empty m f)

-- lists of lists are one list of lists, numbered row by row
pub joined_rows : {A : Type 0} (m n : ℕ) (f : ℕ → ℕ → List A) → joined (m * n) (λ k. f (k / n) (k % n)) ≡ joined m (λ r. joined n (f r))
joined_rows m zero f =
    let e : m * 0 ≡ 0 = omega arith in
    ap (λ k. joined k (λ j. f (j / 0) (j % 0))) e ∙ sym (joined_empty m f)
joined_rows m (suc n) f = rows-joined m (suc n) f (omega arith)
