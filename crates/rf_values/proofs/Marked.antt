-- What the operations on four words do to the set that they stand for.
use Rattle.std.proofs.Common.{Bool, rules, ◌≡◌, ℕ, zero, suc, ◌-◌, ◌*◌, ◌/◌, ◌%◌, ◌^◌, ◌<◌, ◌≤◌, true, false, ◌&&◌, ◌||◌, not, nat_eq, List, [], ◌∷◌, length, get_or, sym, refl, ap, ◌∙◌, inl, inr, arith, w64, min, max}
use Rattle.std.specs.Prelude.{◌==◌, ◌↔◌, bit_and, bit_or}
use Rattle.std.specs.Cmp.Lexicographic.{pointwise, bytes_decides}
use Rattle.std.specs.List.{list_any}
use Rattle.std.specs.Ordering.{nat_cmp, eq_by_cmp}
use Rattle.std.specs.Cmp.{nat_cmp_total, unsigned_tied}
use Rattle.std.specs.FinSet.{FinSet, items, contains-items, empty, insert, contains, intersection, difference, union, contains-union, contains-empty, contains-insert, contains-intersection, contains-difference, same_set, nat_cmp-IsAntisymmetric}
use Rattle.std.specs.Int.{bit_at, bit_not}
use Rattle.std.proofs.Math.ListN.{set, length-set}
use Rattle.std.proofs.lemmas.Bool.{cases_eq, cases_lt, eq-eqb, ne_eqb}
use Rattle.std.proofs.lemmas.List.{get_or-set_same, get_or-set_other}
use Rattle.std.proofs.lemmas.List.Elements.{All-from_recursion, All-set}
use Rattle.std.proofs.lemmas.Nat.{or_lt}
use Rattle.std.proofs.lemmas.Nat.Bits.{bit_at-zero, bit_at-lt, bit_at_and, bit_at_or, bit_at_not, bit_at_set_same, bit_at_set_other, shr_and_one}
use Rattle.rf_values.specs.Words.{AreWords, has_bit, marked, words_of}
use Rattle.rf_values.specs.WordLemmas.{words_of-marked, contains-marked, contains-marked_past}

-- four words that each have the bits of a set stand for it
pub marked-same : (words : List ℕ) (s : FinSet nat_cmp) → ((c : ℕ) → c < 256 → has_bit words c ≡ contains s c) → ((c : ℕ) → 256 ≤ c → contains s c ≡ false) → marked words ≡ s
marked-same words s bits past = same_set nat_cmp_total nat_cmp-IsAntisymmetric (marked words) s (λ c. elim (cases_lt c 256) [
  | inl lt ↦ contains-marked words c lt ∙ bits c lt
  | inr le ↦ contains-marked_past words c le ∙ sym (past c le)
])

-- what is made of two lists of four words, word by word
abbrev word_by_word : (ℕ → ℕ → ℕ) → List ℕ → List ℕ → List ℕ
word_by_word f a b =
    f (get_or a 0 0) (get_or b 0 0) ∷ f (get_or a 1 0) (get_or b 1 0) ∷ f (get_or a 2 0) (get_or b 2 0) ∷ f (get_or a 3 0) (get_or b 3 0) ∷ []

get_or-word_by_word : (f : ℕ → ℕ → ℕ) (a b : List ℕ) (k : ℕ) → k < 4 → get_or (word_by_word f a b) k 0 ≡ f (get_or a k 0) (get_or b k 0)
get_or-word_by_word f a b zero h = refl
get_or-word_by_word f a b (suc zero) h = refl
get_or-word_by_word f a b (suc (suc zero)) h = refl
get_or-word_by_word f a b (suc (suc (suc zero))) h = refl
get_or-word_by_word f a b (suc (suc (suc (suc k)))) h = absurd (omega arith)

zero_bit : (c : ℕ) → has_bit (0 ∷ 0 ∷ 0 ∷ 0 ∷ []) c ≡ false
zero_bit c = let word = zero_word (c / 64) in rw (word, bit_at-zero (c % 64)) refl
  where
    zero_word : (k : ℕ) → ◌≡◌ {A = ℕ} (get_or (0 ∷ 0 ∷ 0 ∷ 0 ∷ []) k 0) 0
    zero_word zero = refl
    zero_word (suc zero) = refl
    zero_word (suc (suc zero)) = refl
    zero_word (suc (suc (suc zero))) = refl
    zero_word (suc (suc (suc (suc k)))) = refl

pub marked-zeros : marked (0 ∷ 0 ∷ 0 ∷ 0 ∷ []) ≡ empty
marked-zeros = marked-same _ empty (λ c _. zero_bit c ∙ sym (contains-empty nat_cmp c)) (λ c _. contains-empty nat_cmp c)

min_bits : (m n : ℕ) → m < 2 → n < 2 → (min m n == 1) ≡ (m == 1 && n == 1)
min_bits zero zero p q = refl
min_bits zero (suc zero) p q = refl
min_bits (suc zero) zero p q = refl
min_bits (suc zero) (suc zero) p q = refl
min_bits m (suc (suc n)) p q = absurd (omega arith)
min_bits (suc (suc m)) n p q = absurd (omega arith)

flip_bit : (m : ℕ) → m < 2 → (1 - m == 1) ≡ not (m == 1)
flip_bit zero p = refl
flip_bit (suc zero) p = refl
flip_bit (suc (suc m)) p = absurd (omega arith)

max_bits : (m n : ℕ) → m < 2 → n < 2 → (max m n == 1) ≡ (m == 1 || n == 1)
max_bits zero zero p q = refl
max_bits zero (suc zero) p q = refl
max_bits (suc zero) zero p q = refl
max_bits (suc zero) (suc zero) p q = refl
max_bits m (suc (suc n)) p q = absurd (omega arith)
max_bits (suc (suc m)) n p q = absurd (omega arith)

or_bit : (x y i : ℕ) → (bit_at (bit_or x y) i == 1) ≡ (bit_at x i == 1 || bit_at y i == 1)
or_bit x y i = ap (λ m. m == 1) (bit_at_or x y i) ∙ max_bits (bit_at x i) (bit_at y i) (bit_at-lt x i) (bit_at-lt y i)

and_bit : (x y i : ℕ) → (bit_at (bit_and x y) i == 1) ≡ (bit_at x i == 1 && bit_at y i == 1)
and_bit x y i = ap (λ m. m == 1) (bit_at_and x y i) ∙ min_bits (bit_at x i) (bit_at y i) (bit_at-lt x i) (bit_at-lt y i)

and_not_bit : (x y i : ℕ) → y < 2 ^ 64 → i < 64 → (bit_at (bit_and x (bit_not w64 y)) i == 1) ≡ (bit_at x i == 1 && not (bit_at y i == 1))
and_not_bit x y i fits h =
    and_bit x (bit_not w64 y) i
    ∙ ap (λ b. bit_at x i == 1 && b) (ap (λ m. m == 1) (bit_at_not w64 y i fits h) ∙ flip_bit (bit_at y i) (bit_at-lt y i))

-- the words of both sets
pub marked-intersection : (a b : List ℕ) → marked (word_by_word bit_and a b) ≡ intersection (marked a) (marked b)
marked-intersection a b = marked-same _ _ (λ c h.
    let word = get_or-word_by_word bit_and a b (c / 64) (omega arith) in
    let bits = and_bit (get_or a (c / 64) 0) (get_or b (c / 64) 0) (c % 64) in
    let first = contains-marked a c h in
    let second = contains-marked b c h in
    rw (contains-intersection nat_cmp_total (marked a) (marked b) c, first, second, word) bits)
    (λ c h. let first = contains-marked_past a c h in rw (contains-intersection nat_cmp_total (marked a) (marked b) c, first) refl)

-- the words of either set
pub marked-union : (a b : List ℕ) → marked (word_by_word bit_or a b) ≡ union (marked a) (marked b)
marked-union a b = marked-same _ _ (λ c h.
    let word = get_or-word_by_word bit_or a b (c / 64) (omega arith) in
    let bits = or_bit (get_or a (c / 64) 0) (get_or b (c / 64) 0) (c % 64) in
    let first = contains-marked a c h in
    let second = contains-marked b c h in
    rw (contains-union nat_cmp_total (marked a) (marked b) c, first, second, word) bits)
    (λ c h.
    let first = contains-marked_past a c h in
    let second = contains-marked_past b c h in
    rw (contains-union nat_cmp_total (marked a) (marked b) c, first, second) refl)

-- the words of the one set without the other
pub marked-difference : (a b : List ℕ) → AreWords b → marked (word_by_word (λ x y. bit_and x (bit_not w64 y)) a b) ≡ difference (marked a) (marked b)
marked-difference a b are = marked-same _ _ (λ c h.
    let word = get_or-word_by_word (λ x y. bit_and x (bit_not w64 y)) a b (c / 64) (omega arith) in
    let fits : get_or b (c / 64) 0 < 2 ^ 64 = are.fit (c / 64) 0 (omega (arith, are.four)) in
    let bits = and_not_bit (get_or a (c / 64) 0) (get_or b (c / 64) 0) (c % 64) fits (omega arith) in
    let first = contains-marked a c h in
    let second = contains-marked b c h in
    rw (contains-difference nat_cmp_total (marked a) (marked b) c, first, second, word) bits)
    (λ c h. let first = contains-marked_past a c h in rw (contains-difference nat_cmp_total (marked a) (marked b) c, first) refl)

pub AreWords-union : (a b : List ℕ) → AreWords a → AreWords b → AreWords (word_by_word bit_or a b)
AreWords-union a b own other = record {
  four = refl;
  fit = All-from_recursion (λ word. word < 2 ^ 64) (word_by_word bit_or a b)
      (fits 0 (omega arith), (fits 1 (omega arith), (fits 2 (omega arith), (fits 3 (omega arith), tt))));
}
  where
    fits : (k : ℕ) → k < 4 → bit_or (get_or a k 0) (get_or b k 0) < 2 ^ 64
    fits k h = or_lt 64 (get_or a k 0) (get_or b k 0) (own.fit k 0 (omega (arith, own.four))) (other.fit k 0 (omega (arith, other.four)))

-- the word of c with its bit set
abbrev word_with : List ℕ → ℕ → ℕ
word_with words c = bit_or (get_or words (c / 64) 0) (1 * 2 ^ (c % 64) % 2 ^ 64)

bit_of_word_with : (words : List ℕ) (c d : ℕ) → length words ≡ 4 → c < 256 → has_bit (set words (c / 64) (word_with words c)) d ≡ (d == c || has_bit words d)
bit_of_word_with words c d four h = elim (cases_eq (d / 64) (c / 64)) [
  | inr other ↦ (
      let word : get_or (set words (c / 64) (word_with words c)) (d / 64) 0 ≡ get_or words (d / 64) 0 = get_or-set_other words (c / 64) (d / 64) (word_with words c) 0 other in
      let test : nat_eq d c ≡ false = ne_eqb d c (λ e. other (ap (λ n. n / 64) e)) in
      rw (word, test) refl)
  | inl same ↦ (
      let word : get_or (set words (c / 64) (word_with words c)) (c / 64) 0 ≡ word_with words c = get_or-set_same words (c / 64) (word_with words c) 0 (omega arith) in
      elim (cases_eq (d % 64) (c % 64)) [
        | inl bit ↦ (
            let test : nat_eq d c ≡ true = eq-eqb d c (omega arith) in
            let one = bit_at_set_same w64 (get_or words (c / 64) 0) (c % 64) (omega arith) in
            rw (same, bit, word, test, one) refl)
        | inr bit ↦ (
            let test : nat_eq d c ≡ false = ne_eqb d c (λ e. bit (ap (λ n. n % 64) e)) in
            let kept = bit_at_set_other w64 (get_or words (c / 64) 0) (c % 64) (omega arith) (d % 64) bit in
            rw (same, word, test, kept) refl)
      ])
]

-- the words with the bit of c set
pub marked-insert : (words : List ℕ) (c : ℕ) → AreWords words → c < 256 → marked (set words (c / 64) (word_with words c)) ≡ insert (marked words) c
marked-insert words c are h = marked-same _ _ (λ d l.
    let rest = contains-marked words d l in
    let tie = unsigned_tied d c in
    rw (contains-insert nat_cmp_total (marked words) c d, tie, rest) (bit_of_word_with words c d are.four h))
    (λ d l.
    let test : nat_eq d c ≡ false = ne_eqb d c (λ e. omega arith) in
    let tie = unsigned_tied d c ∙ test in
    let rest = contains-marked_past words d l in
    rw (contains-insert nat_cmp_total (marked words) c d, tie, rest) refl)

pub AreWords-set : (words : List ℕ) (c : ℕ) → AreWords words → c < 256 → AreWords (set words (c / 64) (word_with words c))
AreWords-set words c are h =
    let fits : get_or words (c / 64) 0 < 2 ^ 64 = are.fit (c / 64) 0 (omega (arith, are.four)) in
    record {
      four = length-set words (c / 64) (word_with words c) ∙ are.four;
      fit = All-set (λ word. word < 2 ^ 64) words (c / 64) (word_with words c) (or_lt 64 (get_or words (c / 64) 0) (1 * 2 ^ (c % 64) % 2 ^ 64) fits (omega arith)) are.fit;
    }

-- the test of one bit
pub has_bit-test : (words : List ℕ) (c : ℕ) → (bit_and (get_or words (c / 64) 0 / 2 ^ (c % 64)) 1 == 1) ≡ has_bit words c
has_bit-test words c = ap (λ m. m == 1) (shr_and_one (get_or words (c / 64) 0) (c % 64))

-- words that stand for no number are all 0
pub zeros-from_marked : (words : List ℕ) → AreWords words → marked words ≡ empty → words ≡ 0 ∷ 0 ∷ 0 ∷ 0 ∷ []
zeros-from_marked words are none =
    sym (words_of-marked words are) ∙ ap words_of (none ∙ sym marked-zeros) ∙ words_of-marked (0 ∷ 0 ∷ 0 ∷ 0 ∷ []) are_zeros
  where
    are_zeros : AreWords (0 ∷ 0 ∷ 0 ∷ 0 ∷ [])
    are_zeros = record { four = refl; fit = search rules }

-- sets with the same classes in order are the same
same_items : (s t : FinSet nat_cmp) → items s ≡ items t → s ≡ t
same_items s t same = same_set nat_cmp_total nat_cmp-IsAntisymmetric s t (λ c.
    contains-items s c ∙ ap (list_any (eq_by_cmp nat_cmp c)) same ∙ sym (contains-items t c))

same_test : (p q : Bool) → (p ≡ true → q ≡ true) → (q ≡ true → p ≡ true) → p ≡ q
same_test true q there back = sym (there refl)
same_test false true there back = back refl
same_test false false there back = refl

-- the comparison of two sets, class by class, says whether they are the same
pub equal_is_same : (s t : FinSet nat_cmp) → (pointwise nat_eq (items s) (items t) ≡ true) ↔ (s ≡ t)
equal_is_same s t =
    let decides = bytes_decides (items s) (items t) in
    (λ equal. same_items s t (decides.0 equal), λ same. decides.1 (ap items same))

-- the comparison of the words is that of the sets
pub pointwise-words : (a b : List ℕ) → AreWords a → AreWords b → pointwise nat_eq a b ≡ pointwise nat_eq (items (marked a)) (items (marked b))
pointwise-words a b first second =
    let decides = bytes_decides a b in
    let is = equal_is_same (marked a) (marked b) in
    same_test (pointwise nat_eq a b) (pointwise nat_eq (items (marked a)) (items (marked b))) (λ equal. is.1 (ap marked (decides.0 equal))) (λ equal. decides.1 (sym (words_of-marked a first) ∙ ap words_of (is.0 equal) ∙ words_of-marked b second))
