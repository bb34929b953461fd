-- Classes below others.
use Rattle.std.proofs.Common.{not, take, take_all, get_or, ◌≡◌, ◌∙◌, ℕ, ◌+◌, ◌≤◌, ◌<◌, Bool, true, false, ◌&&◌, ◌||◌, List, [], ◌∷◌, length, refl, sym, ap, subst, inl, inr, arith, true≢false}
use Rattle.std.specs.Prelude.{◌==◌, nat_lt}
use Rattle.std.specs.FinSet.{FinSet, contains, contains-empty, empty}
use Rattle.std.specs.List.{list_any}
use Rattle.std.specs.Ordering.{nat_cmp}
use Rattle.std.proofs.lemmas.Bool.{cases_Bool, cases_lt, eq-eqb, eqb-true, or_cases, or_left, or_right, lt-ltb}
use Rattle.std.proofs.lemmas.List.{get_or_past}
use Rattle.std.proofs.lemmas.List.Folds.{list_any_more}
use Rattle.rf_finite.specs.Walks.{IsReachable}
use Rattle.rf_finite.proofs.Walks.{IsReachable-from_edge, IsReachable-trans}
use Rattle.rf_problem.specs.Above.{AreAbove, row}
use Rattle.rf_problem.specs.Classes.{IsBelow, extends, is_below, no_class}
use Rattle.rf_problem.specs.Parts.{is_contains}
use Rattle.rf_problem.specs.declared.class.Class.{Class}
use Rattle.rf_problem.specs.declared.reference.Reference.{Reference}
use Rattle.rf_problem.proofs.Below.{IsBelow-from_is_below}

abbrev pub anywhere : ℕ → Bool
anywhere x = true

-- one test is true where the other is
pub same_tests : (t u : Bool) → (t ≡ true → u ≡ true) → (u ≡ true → t ≡ true) → t ≡ u
same_tests true u h k = sym (h refl)
same_tests false true h k = k refl
same_tests false false h k = refl

-- a number of a list that passes
pub any_extended : (p : ℕ → Bool) (ss : List ℕ) → list_any p ss ≡ true → (d : ℕ) × (p d ≡ true) × (list_any (λ s. s == d) ss ≡ true)
any_extended p [] h = absurd (true≢false (sym h))
any_extended p (s ∷ ss) h = elim (or_cases (p s) (list_any p ss) h) [
  | inl here ↦ (s, here, or_left (s == s) (list_any (λ t. t == s) ss) (eq-eqb s s refl))
  | inr later ↦ (let found = any_extended p ss later in
      (found.0, found.1, or_right (s == found.0) (list_any (λ t. t == found.0) ss) found.2))
]

pub extends_some : (p : ℕ → Bool) (d : ℕ) (ss : List ℕ) → list_any (λ s. s == d) ss ≡ true → p d ≡ true → list_any p ss ≡ true
extends_some p d [] h has = absurd (true≢false (sym h))
extends_some p d (s ∷ ss) h has = elim (or_cases (s == d) (list_any (λ t. t == d) ss) h) [
  | inl here ↦ or_left (p s) (list_any p ss) (subst (λ x. p x ≡ true) (sym (eqb-true s d here)) has)
  | inr later ↦ or_right (p s) (list_any p ss) (extends_some p d ss later has)
]

module _ (classes : List Class) where
  -- what extends a class is a class
  pub extends-in_range : (c d : ℕ) → extends classes c d ≡ true → c < length classes
  extends-in_range c d e = elim (cases_lt c (length classes)) [
    | inl l ↦ l
    | inr past ↦ (let none : extends classes c d ≡ false = ap (λ k. list_any (λ s. s == d) k.supers) (get_or_past classes c no_class past) in
        absurd (true≢false (sym e ∙ none)))
  ]

  -- what a walk leads on from is a class
  IsReachable-in_range : (c d : ℕ) → IsReachable (extends classes) anywhere (length classes) c d → c < length classes
  IsReachable-in_range c d ([], w) = extends-in_range c d w
  IsReachable-in_range c d (x ∷ xs, w) = extends-in_range c x w.0

  pub IsBelow-trans : (b c d : ℕ) → IsBelow classes b c → IsBelow classes c d → IsBelow classes b d
  IsBelow-trans b c d (inl e) k = subst (λ x. IsBelow classes x d) (sym e) k
  IsBelow-trans b c d (inr w) (inl e) = inr (subst (IsReachable (extends classes) anywhere (length classes) b) e w)
  IsBelow-trans b c d (inr w) (inr v) =
      inr (IsReachable-trans (extends classes) anywhere (length classes) b c d (IsReachable-in_range c d v) refl w v)

  pub IsBelow-from_extends : (c d : ℕ) → extends classes c d ≡ true → IsBelow classes c d
  IsBelow-from_extends c d e = inr (IsReachable-from_edge (extends classes) anywhere (length classes) c d e)

  -- what is no class is below none
  pub is_below-past : (c d : ℕ) → length classes ≤ c → d < length classes → is_below classes c d ≡ false
  is_below-past c d past there = elim (cases_Bool (is_below classes c d)) [
    | inl e ↦ elim (IsBelow-from_is_below classes c d e) [
      | inl same ↦ absurd (omega arith)
      | inr w ↦ (let l = IsReachable-in_range c d w in absurd (omega arith))
    ]
    | inr e ↦ e
  ]

-- what is in a set that has nothing but what is in another
pub none_new : (a b : Bool) → (a && not b) ≡ false → a ≡ true → b ≡ true
none_new true true h e = refl
none_new true false h e = absurd (true≢false h)
none_new false b h e = absurd (true≢false (sym e))

-- the classes among the first n whose rows have a class are those below it
pub row_below-all :
    (classes : List Class) (above : List (FinSet nat_cmp)) (n d : ℕ) (below : FinSet nat_cmp) → length classes ≤ n → d < length classes →
    AreAbove classes above → ((c : ℕ) → contains below c ≡ (nat_lt c n && contains (row above c) d)) → (c : ℕ) → contains below c ≡ is_below classes c d
row_below-all classes above n d below all there are selected c = elim (cases_lt c (length classes)) [
  | inl l ↦ (let first : nat_lt c n ≡ true = lt-ltb c n (omega arith) in
      selected c ∙ ap (λ b. b && contains (row above c) d) first ∙ are.each c d l there)
  | inr past ↦ (let none : contains (row above c) d ≡ false = ap (λ s. contains s d) (get_or_past above c empty (omega (arith, are.same_length))) ∙ contains-empty nat_cmp d in
      selected c ∙ ap (λ b. nat_lt c n && b) none ∙ and-false (nat_lt c n) ∙ sym (is_below-past classes c d past there))
]
  where
    and-false : (b : Bool) → (b && false) ≡ false
    and-false true = refl
    and-false false = refl

-- the classes below the targets of some references that contain
module _ (classes : List Class) (c : ℕ) where
  abbrev pub is_inside : Reference → Bool
  is_inside r = is_contains r.kind && is_below classes c r.target

  -- with one reference more
  pub is_inside-more :
      (rs : List Reference) (i : ℕ) (r : Reference) (old now : Bool) → i < length rs → r ≡ get_or rs i r → old ≡ list_any is_inside (take i rs) →
      (is_contains r.kind ≡ true → now ≡ (old || is_below classes c r.target)) → (is_contains r.kind ≡ false → now ≡ old) →
      now ≡ list_any is_inside (take (i + 1) rs)
  is_inside-more rs i r old now within at before add skip = elim (cases_Bool (is_contains r.kind)) [
    | inl t ↦ (let here : is_inside (get_or rs i r) ≡ is_below classes c r.target = ap is_inside (sym at) ∙ ap (λ b. b && is_below classes c r.target) t in
        rw (list_any_more is_inside rs i r within, here, ← before) (add t))
    | inr f ↦ (let here : is_inside (get_or rs i r) ≡ false = ap is_inside (sym at) ∙ ap (λ b. b && is_below classes c r.target) f in
        rw (list_any_more is_inside rs i r within, here, ← before) (skip f ∙ or-false old))
  ]
    where
      or-false : (b : Bool) → b ≡ (b || false)
      or-false true = refl
      or-false false = refl

  pub is_inside-all : (xs rs : List Reference) (i : ℕ) (now : Bool) → xs ≡ rs → length xs ≤ i → now ≡ list_any is_inside (take i xs) → now ≡ list_any is_inside rs
  is_inside-all xs rs i now same all h = h ∙ ap (list_any is_inside) (take_all i xs all ∙ same)
