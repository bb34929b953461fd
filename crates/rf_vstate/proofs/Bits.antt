-- Sets of classes, bit by bit.
use Rattle.std.proofs.Common.{◌≡◌, ◌≢◌, ◌∙◌, ℕ, suc, ◌+◌, ◌-◌, ◌*◌, ◌/◌, ◌%◌, ◌^◌, ◌<◌, ◌≤◌, Bool, true, false, ◌&&◌, ◌||◌, ◌==◌, nat_lt, List, [], ◌∷◌, get_or, refl, sym, ap, inl, inr, arith}
use Rattle.std.specs.Prelude.{bit_or, nat_eq}
use Rattle.std.specs.Cmp.{nat_cmp_total, unsigned_tied}
use Rattle.std.specs.FinSet.{FinSet, contains, contains-empty, contains-insert, same_set, nat_cmp-IsAntisymmetric}
use Rattle.std.specs.Int.{bit_at}
use Rattle.std.specs.Ordering.{nat_cmp}
use Rattle.std.proofs.Math.ListN.{set}
use Rattle.std.proofs.Math.Nat.{pow-succ'}
use Rattle.std.proofs.lemmas.Bool.{cases_Bool, cases_eq, cases_lt, eq-eqb, ne_eqb, lt-ltb, le-ltb}
use Rattle.std.proofs.lemmas.List.Elements.{All-from_recursion}
use Rattle.std.proofs.lemmas.Nat.Bits.{bit_at-suc, bit_at-zero, bit_at_lowest}
use Rattle.rf_values.specs.Words.{AreWords, has_bit, marked, words_of}
use Rattle.rf_values.specs.WordLemmas.{words_of-marked}
use Rattle.rf_values.proofs.Marked.{AreWords-set, marked-insert, marked-same, marked-zeros}

-- ---- the classes of one word, its lowest bits first

-- the bits below `bit` were gathered, and the rest is left
pub record IsGathering (classes : FinSet nat_cmp) (place word : ℕ) (all : FinSet nat_cmp) (bit rest : ℕ) : Type 0 where
  pub exact : (c : ℕ) → contains all c ≡ ((c / 64 == place && (nat_lt (c % 64) bit && bit_at word (c % 64) == 1)) || contains classes c)
  pub left : (j : ℕ) → bit_at rest j ≡ bit_at word (bit + j)
  pub few : bit ≤ 64
  pub small : rest < 2 ^ (64 - bit)

-- none at first
pub IsGathering-none : (classes : FinSet nat_cmp) (place word : ℕ) → word < 2 ^ 64 → IsGathering classes place word classes 0 word
IsGathering-none classes place word fits = record {
  exact = λ c. let less : nat_lt (c % 64) 0 ≡ false = le-ltb (c % 64) 0 (omega arith) in rw less (none (c / 64 == place) (contains classes c));
  left = λ j. let e : j ≡ 0 + j = omega arith in ap (bit_at word) e;
  few = omega arith;
  small = fits;
}
  where
    none : (b d : Bool) → d ≡ ((b && false) || d)
    none true d = refl
    none false d = refl

-- where bits are left, there are less than 64 before them
pub gathering-few : (classes : FinSet nat_cmp) (place word : ℕ) (all : FinSet nat_cmp) (bit rest : ℕ) → IsGathering classes place word all bit rest → rest ≢ 0 → bit < 64
gathering-few classes place word all bit rest held some = elim (cases_lt bit 64) [
  | inl l ↦ l
  | inr m ↦ (let e : 64 - bit ≡ 0 = omega (arith, m) in let none : 2 ^ (64 - bit) ≡ 2 ^ 0 = ap (λ n. 2 ^ n) e in absurd (omega (arith, held.small, none, some)))
]

-- one bit more
module _ (classes : FinSet nat_cmp) (place word : ℕ) (all new : FinSet nat_cmp) (bit rest : ℕ) (fits : place < 4) (held : IsGathering classes place word all bit rest) (some : rest ≢ 0) where
  within : bit < 64
  within = gathering-few classes place word all bit rest held some

  lowest : bit_at word bit ≡ rest % 2
  lowest = let e : bit ≡ bit + 0 = omega arith in ap (bit_at word) e ∙ sym (held.left 0) ∙ bit_at_lowest rest

  here : (c : ℕ) → c ≡ 64 * place + bit → (c / 64 ≡ place) × (c % 64 ≡ bit)
  here c e = let w = within in (omega (arith, e, w), omega (arith, e, w))

  away : (c : ℕ) → c / 64 ≡ place → (c ≡ 64 * place + bit → ⊥) → c % 64 ≡ bit → ⊥
  away c e ne f = ne (omega (arith, e, f))

  same_below : (c : ℕ) → (c % 64 ≡ bit → ⊥) → nat_lt (c % 64) (bit + 1) ≡ nat_lt (c % 64) bit
  same_below c ne = elim (cases_lt (c % 64) bit) [
    | inl l ↦ lt-ltb (c % 64) (bit + 1) (omega (arith, l)) ∙ sym (lt-ltb (c % 64) bit l)
    | inr m ↦ le-ltb (c % 64) (bit + 1) (omega (arith, m, ne)) ∙ sym (le-ltb (c % 64) bit m)
  ]

  -- at other classes nothing changes
  elsewhere : (c : ℕ) → (c ≡ 64 * place + bit → ⊥)
      → contains all c ≡ ((c / 64 == place && (nat_lt (c % 64) (bit + 1) && bit_at word (c % 64) == 1)) || contains classes c)
  elsewhere c ne = held.exact c ∙ elim (cases_eq (c / 64) place) [
    | inl e ↦ ap (λ b. (c / 64 == place && (b && bit_at word (c % 64) == 1)) || contains classes c) (sym (same_below c (away c e ne)))
    | inr other ↦ (let off : nat_eq (c / 64) place ≡ false = ne_eqb (c / 64) place other in rw off refl)
  ]

  rest-left : (j : ℕ) → bit_at (rest / 2) j ≡ bit_at word (bit + 1 + j)
  rest-left j = let e : bit + suc j ≡ bit + 1 + j = omega arith in sym (bit_at-suc rest j) ∙ held.left (suc j) ∙ ap (bit_at word) e

  rest-small : rest / 2 < 2 ^ (64 - (bit + 1))
  rest-small =
      let w = within in
      let e : 64 - bit ≡ suc (64 - (bit + 1)) = omega (arith, w) in
      let twice : 2 ^ (64 - bit) ≡ 2 ^ suc (64 - (bit + 1)) = ap (λ n. 2 ^ n) e in
      omega (arith, held.small, twice, pow-succ' 2 (64 - (bit + 1)))

  at-class : (b : Bool) → bit_at word bit == 1 ≡ b → (c : ℕ) → c ≡ 64 * place + bit
      → ((c / 64 == place && (nat_lt (c % 64) (bit + 1) && bit_at word (c % 64) == 1)) || contains classes c) ≡ (b || contains classes c)
  at-class b is c e =
      let p : nat_eq (c / 64) place ≡ true = eq-eqb (c / 64) place (here c e).0 in
      let q = (here c e).1 in
      let less : nat_lt bit (bit + 1) ≡ true = lt-ltb bit (bit + 1) (omega arith) in
      rw (p, q, less, is) refl

  pub IsGathering-with : rest % 2 ≡ 1 → ((c : ℕ) → contains new c ≡ (c == 64 * place + bit || contains all c)) → IsGathering classes place word new (bit + 1) (rest / 2)
  IsGathering-with odd adding = record { exact = exact; left = rest-left; few = (let w = within in omega (arith, w)); small = rest-small }
    where
      exact : (c : ℕ) → contains new c ≡ ((c / 64 == place && (nat_lt (c % 64) (bit + 1) && bit_at word (c % 64) == 1)) || contains classes c)
      exact c = adding c ∙ elim (cases_eq c (64 * place + bit)) [
        | inl e ↦ (let t : nat_eq c (64 * place + bit) ≡ true = eq-eqb c (64 * place + bit) e in
            ap (λ b. b || contains all c) t ∙ sym (at-class true (eq-eqb (bit_at word bit) 1 (lowest ∙ odd)) c e))
        | inr ne ↦ (let f : nat_eq c (64 * place + bit) ≡ false = ne_eqb c (64 * place + bit) ne in
            ap (λ b. b || contains all c) f ∙ elsewhere c ne)
      ]

  pub IsGathering-without : (rest % 2 ≡ 1 → ⊥) → IsGathering classes place word all (bit + 1) (rest / 2)
  IsGathering-without even = record { exact = exact; left = rest-left; few = (let w = within in omega (arith, w)); small = rest-small }
    where
      before : (c : ℕ) → c ≡ 64 * place + bit → contains all c ≡ contains classes c
      before c e =
          let q = (here c e).1 in
          let less : nat_lt bit bit ≡ false = le-ltb bit bit (omega arith) in
          held.exact c ∙ rw (q, less) (none (c / 64 == place) (contains classes c))
        where
          none : (b d : Bool) → ((b && false) || d) ≡ d
          none true d = refl
          none false d = refl

      exact : (c : ℕ) → contains all c ≡ ((c / 64 == place && (nat_lt (c % 64) (bit + 1) && bit_at word (c % 64) == 1)) || contains classes c)
      exact c = elim (cases_eq c (64 * place + bit)) [
        | inl e ↦ before c e ∙ sym (at-class false (ne_eqb (bit_at word bit) 1 (λ one. even (sym lowest ∙ one))) c e)
        | inr ne ↦ elsewhere c ne
      ]

-- all in the end
pub gathered : (classes : FinSet nat_cmp) (place word : ℕ) (all : FinSet nat_cmp) (bit rest : ℕ) → IsGathering classes place word all bit rest → rest ≡ 0
    → (c : ℕ) → contains all c ≡ ((c / 64 == place && bit_at word (c % 64) == 1) || contains classes c)
gathered classes place word all bit rest held none c = held.exact c ∙ ap (λ b. (c / 64 == place && b) || contains classes c) whole
  where
    whole : (nat_lt (c % 64) bit && bit_at word (c % 64) == 1) ≡ (bit_at word (c % 64) == 1)
    whole = elim (cases_lt (c % 64) bit) [
      | inl l ↦ (let t : nat_lt (c % 64) bit ≡ true = lt-ltb (c % 64) bit l in rw t refl)
      | inr m ↦ (
          let e : c % 64 ≡ bit + (c % 64 - bit) = omega (arith, m) in
          let zero_bit : bit_at word (c % 64) ≡ 0 = ap (bit_at word) e ∙ sym (held.left (c % 64 - bit)) ∙ ap (λ n. bit_at n (c % 64 - bit)) none ∙ bit_at-zero (c % 64 - bit) in
          let f : nat_lt (c % 64) bit ≡ false = le-ltb (c % 64) bit m in
          rw (f, zero_bit) refl)
    ]

-- ---- the words of the classes, the lowest class first

-- the words are those of the classes below `class`
pub record IsSpelling (classes : FinSet nat_cmp) (class : ℕ) (words : List ℕ) : Type 0 where
  pub words_fit : AreWords words
  pub exact : (c : ℕ) → contains (marked words) c ≡ (nat_lt c class && contains classes c)

-- the classes are those of the words before a place
pub record AreOfWords (words : List ℕ) (place : ℕ) (classes : FinSet nat_cmp) : Type 0 where
  pub exact : (c : ℕ) → contains classes c ≡ (nat_lt (c / 64) place && has_bit words c)

-- the classes of one word more
pub AreOfWords-more : (words : List ℕ) (place : ℕ) (classes new : FinSet nat_cmp)
    → ((c : ℕ) → contains new c ≡ ((c / 64 == place && bit_at (get_or words place 0) (c % 64) == 1) || contains classes c))
    → AreOfWords words place classes → AreOfWords words (place + 1) new
AreOfWords-more words place classes new more held = record {
  exact = λ c. more c ∙ elim (cases_eq (c / 64) place) [
    | inl e ↦ (
        let t : nat_eq (c / 64) place ≡ true = eq-eqb (c / 64) place e in
        let before : nat_lt (c / 64) place ≡ false = le-ltb (c / 64) place (omega (arith, e)) in
        let now : nat_lt (c / 64) (place + 1) ≡ true = lt-ltb (c / 64) (place + 1) (omega (arith, e)) in
        let was = held.exact c in
        rw (was, before, now) (rw t (or_false (bit_at (get_or words place 0) (c % 64) == 1)) ∙ ap (λ n. bit_at (get_or words n 0) (c % 64) == 1) (sym e)))
    | inr ne ↦ (
        let f : nat_eq (c / 64) place ≡ false = ne_eqb (c / 64) place ne in
        rw f (held.exact c ∙ ap (λ b. b && has_bit words c) (same_below c ne)))
  ];
}
  where
    or_false : (b : Bool) → (b || false) ≡ b
    or_false true = refl
    or_false false = refl

    same_below : (c : ℕ) → (c / 64 ≡ place → ⊥) → nat_lt (c / 64) place ≡ nat_lt (c / 64) (place + 1)
    same_below c ne = elim (cases_lt (c / 64) place) [
      | inl l ↦ lt-ltb (c / 64) place l ∙ sym (lt-ltb (c / 64) (place + 1) (omega (arith, l)))
      | inr m ↦ le-ltb (c / 64) place m ∙ sym (le-ltb (c / 64) (place + 1) (omega (arith, m, ne)))
    ]

pub marked-of_words : (words : List ℕ) (classes : FinSet nat_cmp) → AreOfWords words 4 classes → classes ≡ marked words
marked-of_words words classes held = sym (marked-same words classes
    (λ c l. (let t : nat_lt (c / 64) 4 ≡ true = lt-ltb (c / 64) 4 (omega (arith, l)) in sym (held.exact c ∙ ap (λ b. b && has_bit words c) t)))
    (λ c m. (let f : nat_lt (c / 64) 4 ≡ false = le-ltb (c / 64) 4 (omega (arith, m)) in held.exact c ∙ ap (λ b. b && has_bit words c) f)))

-- ---- spelling

pub IsSpelling-none : (classes : FinSet nat_cmp) → IsSpelling classes 0 (0 ∷ 0 ∷ 0 ∷ 0 ∷ [])
IsSpelling-none classes = record {
  words_fit = record { four = refl; fit = All-from_recursion (λ word. word < 2 ^ 64) (0 ∷ 0 ∷ 0 ∷ 0 ∷ []) (omega arith, (omega arith, (omega arith, (omega arith, tt)))) };
  exact = λ c. ap (λ s. contains s c) marked-zeros ∙ contains-empty nat_cmp c
      ∙ (let f : nat_lt c 0 ≡ false = le-ltb c 0 (omega arith) in sym (ap (λ b. b && contains classes c) f));
}

module _ (classes : FinSet nat_cmp) (class : ℕ) (words : List ℕ) (fits : class < 256) (held : IsSpelling classes class words) where
  below-more : (c : ℕ) → (c ≡ class → ⊥) → nat_lt c class ≡ nat_lt c (class + 1)
  below-more c ne = elim (cases_lt c class) [
    | inl l ↦ lt-ltb c class l ∙ sym (lt-ltb c (class + 1) (omega (arith, l)))
    | inr m ↦ le-ltb c class m ∙ sym (le-ltb c (class + 1) (omega (arith, m, ne)))
  ]

  now-below : (c : ℕ) → c ≡ class → nat_lt c (class + 1) ≡ true
  now-below c e = lt-ltb c (class + 1) (omega (arith, e))

  pub IsSpelling-with : contains classes class ≡ true
      → IsSpelling classes (class + 1) (set words (class / 64) (bit_or (get_or words (class / 64) 0) (1 * 2 ^ (class % 64) % 2 ^ 64)))
  IsSpelling-with has = record {
    words_fit = AreWords-set words class held.words_fit fits;
    exact = λ c.
        ap (λ s. contains s c) (marked-insert words class held.words_fit fits)
        ∙ contains-insert nat_cmp_total (marked words) class c
        ∙ elim (cases_eq c class) [
          | inl e ↦ (
              let t = unsigned_tied c class ∙ eq-eqb c class e in
              let below = now-below c e in
              rw (t, below) (sym has ∙ ap (contains classes) (sym e)))
          | inr ne ↦ (
              let f = unsigned_tied c class ∙ ne_eqb c class ne in
              rw f (held.exact c ∙ ap (λ b. b && contains classes c) (below-more c ne)))
        ];
  }

  pub IsSpelling-without : contains classes class ≡ false → IsSpelling classes (class + 1) words
  IsSpelling-without has_not = record {
    words_fit = held.words_fit;
    exact = λ c. held.exact c ∙ elim (cases_eq c class) [
      | inl e ↦ (let none : contains classes c ≡ false = ap (contains classes) e ∙ has_not in rw none (and_false (nat_lt c class) ∙ sym (and_false (nat_lt c (class + 1)))))
      | inr ne ↦ ap (λ b. b && contains classes c) (below-more c ne)
    ];
  }
    where
      and_false : (b : Bool) → (b && false) ≡ false
      and_false true = refl
      and_false false = refl

pub spelled : (classes : FinSet nat_cmp) (class : ℕ) (words : List ℕ) → IsSpelling classes class words → ((c : ℕ) → contains classes c ≡ true → c < class)
    → marked words ≡ classes
spelled classes class words held all = same_set nat_cmp_total nat_cmp-IsAntisymmetric (marked words) classes (λ c. held.exact c ∙ whole c)
  where
    whole : (c : ℕ) → (nat_lt c class && contains classes c) ≡ contains classes c
    whole c = elim (cases_Bool (contains classes c)) [
      | inl t ↦ (let l : nat_lt c class ≡ true = lt-ltb c class (all c t) in rw (t, l) refl)
      | inr f ↦ rw f (and_false (nat_lt c class))
    ]
      where
        and_false : (b : Bool) → (b && false) ≡ false
        and_false true = refl
        and_false false = refl

pub spelled-words : (classes : FinSet nat_cmp) (class : ℕ) (words : List ℕ) → IsSpelling classes class words → ((c : ℕ) → contains classes c ≡ true → c < class)
    → words ≡ words_of classes
spelled-words classes class words held all = sym (words_of-marked words held.words_fit) ∙ ap words_of (spelled classes class words held all)
