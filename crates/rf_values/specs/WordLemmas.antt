-- Private: no public contract cites this.
-- What set four words stand for, and that it gives them back, as the model of `ClassSet` asks.
use Rattle.std.specs.Prelude.{◌≡◌, ℕ, zero, suc, ◌+◌, ◌*◌, ◌/◌, ◌%◌, ◌^◌, ◌<◌, ◌≤◌, Bool, true, false, ◌==◌, ◌&&◌, nat_lt, if◌then◌else◌, List, [], ◌∷◌, slice_index, refl}
use Rattle.std.specs.Ordering.{nat_cmp}
use Rattle.std.specs.Cmp.{nat_cmp_total, unsigned_tied}
use Rattle.std.specs.FinSet.{FinSet, insert, contains, contains-empty, contains-insert}
use Rattle.std.specs.Int.{bit_at}
use Rattle.std.proofs.Common.{sym, ◌∙◌, ap, inl, inr, arith, lit<}
use Rattle.std.proofs.lemmas.Bool.{cases_eq, cases_lt, lt-ltb, le-ltb, eq-eqb, ne_eqb}
use Rattle.std.proofs.lemmas.Nat.Bits.{bit_at_lowest, bit_at-suc, bit_at-lt, same_from_bits_below}
use Rattle.std.proofs.Math.Nat.{pow-succ'}
use Rattle.rf_values.specs.ClassSet.{members_below}
use Rattle.rf_values.specs.Words.{AreWords, has_bit, marked, number_of_bits, word_of, words_of}

lt-suc : (c n : ℕ) → (c ≡ n → ⊥) → nat_lt c n ≡ nat_lt c (suc n)
lt-suc c n ne = elim (cases_lt c n) [
  | inl lt ↦ (let less : nat_lt c n ≡ true = lt-ltb c n lt in let more : nat_lt c (suc n) ≡ true = lt-ltb c (suc n) (omega arith) in less ∙ sym more)
  | inr le ↦ (let less : nat_lt c n ≡ false = le-ltb c n le in let more : nat_lt c (suc n) ≡ false = le-ltb c (suc n) (omega arith) in less ∙ sym more)
]

contains-insert_nat : (s : FinSet nat_cmp) (n c : ℕ) (r : Bool) → contains s c ≡ (nat_lt c n && r) → (c ≡ n → true ≡ r) → contains (insert s n) c ≡ (nat_lt c (suc n) && r)
contains-insert_nat s n c r rest at = contains-insert nat_cmp_total s n c ∙ elim (cases_eq c n) [
  | inl e ↦ (let same = unsigned_tied c n ∙ eq-eqb c n e in let less : nat_lt c (suc n) ≡ true = lt-ltb c (suc n) (omega arith) in let is = at e in rw (same, less) is)
  | inr ne ↦ (let other = unsigned_tied c n ∙ ne_eqb c n ne in let less = lt-suc c n ne in rw (other, rest, less) refl)
]

contains_more : (s : FinSet nat_cmp) (b : Bool) (n c : ℕ) (r : Bool) → contains s c ≡ (nat_lt c n && r) → (c ≡ n → b ≡ r) → contains (if b then insert s n else s) c ≡ (nat_lt c (suc n) && r)
contains_more s true n c r rest at = contains-insert_nat s n c r rest at
contains_more s false n c r rest at = rest ∙ elim (cases_eq c n) [
  | inl e ↦ (let less : nat_lt c n ≡ false = le-ltb c n (omega arith) in let more : nat_lt c (suc n) ≡ true = lt-ltb c (suc n) (omega arith) in let is = at e in rw (less, more) is)
  | inr ne ↦ (let less = lt-suc c n ne in rw less refl)
]

-- the numbers in the set are those below n that pass
pub contains-members_below : (n : ℕ) (p : ℕ → Bool) (c : ℕ) → contains (members_below n p) c ≡ (nat_lt c n && p c)
unfolding members_below
contains-members_below zero p c = let less : nat_lt c 0 ≡ false = le-ltb c 0 (omega arith) in rw less (contains-empty nat_cmp c)
contains-members_below (suc n) p c = contains_more (members_below n p) (p n) n c (p c) (contains-members_below n p c) (λ e. ap p (sym e))

pub contains-marked : (words : List ℕ) (c : ℕ) → c < 256 → contains (marked words) c ≡ has_bit words c
unfolding marked
contains-marked words c h =
    let less : nat_lt c 256 ≡ true = lt-ltb c 256 h in contains-members_below 256 (has_bit words) c ∙ rw less refl

pub contains-marked_past : (words : List ℕ) (c : ℕ) → 256 ≤ c → contains (marked words) c ≡ false
unfolding marked
contains-marked_past words c h =
    let less : nat_lt c 256 ≡ false = le-ltb c 256 h in contains-members_below 256 (has_bit words) c ∙ rw less refl

lowest : (b : Bool) (m : ℕ) → ((if b then 1 else 0) + 2 * m) % 2 ≡ (if b then 1 else 0)
lowest true m = omega arith
lowest false m = omega arith

upper : (b : Bool) (m : ℕ) → ((if b then 1 else 0) + 2 * m) / 2 ≡ m
upper true m = omega arith
upper false m = omega arith

bit-lt : (b : Bool) → (if b then 1 else 0) < 2
bit-lt true = lit< tt
bit-lt false = lit< tt

bit_at-number_of_bits : (n : ℕ) (p : ℕ → Bool) (i : ℕ) → i < n → bit_at (number_of_bits n p) i ≡ (if p i then 1 else 0)
unfolding number_of_bits
bit_at-number_of_bits zero p i h = absurd (omega arith)
bit_at-number_of_bits (suc n) p zero h =
    bit_at_lowest (number_of_bits (suc n) p) ∙ lowest (p 0) (number_of_bits n (λ i. p (suc i)))
bit_at-number_of_bits (suc n) p (suc i) h =
    bit_at-suc (number_of_bits (suc n) p) i
    ∙ ap (λ m. bit_at m i) (upper (p 0) (number_of_bits n (λ i. p (suc i))))
    ∙ bit_at-number_of_bits n (λ i. p (suc i)) i (omega arith)

number_of_bits-lt : (n : ℕ) (p : ℕ → Bool) → number_of_bits n p < 2 ^ n
unfolding number_of_bits
number_of_bits-lt zero p = lit< tt
number_of_bits-lt (suc n) p =
    omega (arith, number_of_bits-lt n (λ i. p (suc i)), pow-succ' 2 n, bit-lt (p 0))

bit-is : (m : ℕ) → m < 2 → (if m == 1 then 1 else 0) ≡ m
bit-is zero h = refl
bit-is (suc zero) h = refl
bit-is (suc (suc m)) h = absurd (omega arith)

bit_of_marked : (words : List ℕ) (k i : ℕ) → k < 4 → i < 64 → (if contains (marked words) (64 * k + i) then 1 else 0) ≡ bit_at (slice_index words k) i
bit_of_marked words k i h l =
    let word : (64 * k + i) / 64 ≡ k = omega arith in
    let bit : (64 * k + i) % 64 ≡ i = omega arith in
    let has = contains-marked words (64 * k + i) (omega arith) in
    rw (has, word, bit) (bit-is (bit_at (slice_index words k) i) (bit_at-lt (slice_index words k) i))

word_of-marked : (words : List ℕ) (k : ℕ) → k < 4 → slice_index words k < 2 ^ 64 → word_of (marked words) k ≡ slice_index words k
unfolding word_of
word_of-marked words k h fits =
    let p : ℕ → Bool = λ i. contains (marked words) (64 * k + i) in
    same_from_bits_below 64 (number_of_bits 64 p) (slice_index words k) (number_of_bits-lt 64 p) fits (λ i l. bit_at-number_of_bits 64 p i l ∙ bit_of_marked words k i h l)

pub words_of-marked : (words : List ℕ) → AreWords words → words_of (marked words) ≡ words
words_of-marked [] h = absurd (omega (arith, h.four))
words_of-marked (a ∷ []) h = absurd (omega (arith, h.four))
words_of-marked (a ∷ b ∷ []) h = absurd (omega (arith, h.four))
words_of-marked (a ∷ b ∷ c ∷ []) h = absurd (omega (arith, h.four))
words_of-marked (a ∷ b ∷ c ∷ d ∷ []) h =
    let words : List ℕ = a ∷ b ∷ c ∷ d ∷ [] in
    let first = word_of-marked words 0 (lit< tt) (h.fit 0 0 (lit< tt)) in
    let second = word_of-marked words 1 (lit< tt) (h.fit 1 0 (lit< tt)) in
    let third = word_of-marked words 2 (lit< tt) (h.fit 2 0 (lit< tt)) in
    let fourth = word_of-marked words 3 (lit< tt) (h.fit 3 0 (lit< tt)) in
    λ i. first i ∷ second i ∷ third i ∷ fourth i ∷ []
words_of-marked (a ∷ b ∷ c ∷ d ∷ e ∷ words) h = absurd (omega (arith, h.four))
