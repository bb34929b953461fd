-- Sets of classes against tests of each declared class.
use Rattle.std.proofs.Common.{◌≡◌, ◌∙◌, true≢false, length, ℕ, Bool, true, false, ◌&&◌, ◌||◌, not, ◌<◌, ◌≤◌, refl, sym, ap, inl, inr, arith}
use Rattle.std.specs.Prelude.{IsTrue, nat_lt, ◌↔◌}
use Rattle.std.specs.Cmp.{both_ways as same_tests, nat_cmp_total}
use Rattle.std.specs.FinSet.{FinSet, contains, same_set, nat_cmp-IsAntisymmetric}
use Rattle.std.specs.Ordering.{nat_cmp}
use Rattle.std.proofs.lemmas.Bool.{cases_Bool, cases_lt, lt-ltb, le-ltb}
use Rattle.rf_finite.specs.Range.{all_below, some_below}
use Rattle.rf_finite.proofs.Range.{all_below-from_each, each-from_all_below, each-from_some_below, some_below-none}
use Rattle.rf_values.specs.WordLemmas.{contains-members_below}
use Rattle.rf_problem.specs.Classes.{is_below}
use Rattle.rf_problem.specs.declared.problem.Problem.{Problem}
use Rattle.rf_problem.proofs.BelowLemmas.{is_below-past}
use Rattle.rf_rules.specs.Words.{classes_where}

-- a set whose members are the classes of the problem that pass is the set of those
pub classes_where-is : (p : Problem) (test : ℕ → Bool) (set : FinSet nat_cmp) → ((c : ℕ) → c < length p.classes → contains set c ≡ test c)
    → ((c : ℕ) → length p.classes ≤ c → contains set c ≡ false) → set ≡ classes_where p test
classes_where-is p test set within past = same_set nat_cmp_total nat_cmp-IsAntisymmetric set (classes_where p test) (λ c.
    let made : contains (classes_where p test) c ≡ (nat_lt c (length p.classes) && test c) = contains-members_below (length p.classes) test c in
    elim (cases_lt c (length p.classes)) [
      | inl l ↦ (let less : nat_lt c (length p.classes) ≡ true = lt-ltb c (length p.classes) l in within c l ∙ sym (made ∙ ap (λ b. b && test c) less))
      | inr m ↦ (let more : nat_lt c (length p.classes) ≡ false = le-ltb c (length p.classes) m in past c m ∙ sym (made ∙ ap (λ b. b && test c) more))
    ])

-- the members of that set
pub contains-classes_where : (p : Problem) (test : ℕ → Bool) (c : ℕ) → c < length p.classes → contains (classes_where p test) c ≡ test c
contains-classes_where p test c l =
    let made : contains (classes_where p test) c ≡ (nat_lt c (length p.classes) && test c) = contains-members_below (length p.classes) test c in
    let less : nat_lt c (length p.classes) ≡ true = lt-ltb c (length p.classes) l in
    made ∙ ap (λ b. b && test c) less

pub classes_below-is : (p : Problem) (k : ℕ) (set : FinSet nat_cmp) → k < length p.classes → ((c : ℕ) → contains set c ≡ is_below p.classes c k)
    → set ≡ classes_where p (λ c. is_below p.classes c k)
classes_below-is p k set there are = classes_where-is p (λ c. is_below p.classes c k) set (λ c l. are c) (λ c m. are c ∙ is_below-past p.classes c k m there)

pub and_true : (a : Bool) → a ≡ (a && true)
and_true true = refl
and_true false = refl

implied : (a b : Bool) → (a && not b) ≡ false → (not a || b) ≡ true
implied false b e = refl
implied true true e = refl
implied true false e = sym e

excluded : (a b : Bool) → (not a || b) ≡ true → (a && not b) ≡ false
excluded false b e = refl
excluded true true e = refl
excluded true false e = sym e

module _ (n : ℕ) (candidates chosen : FinSet nat_cmp) (test : ℕ → Bool) (declared : (c : ℕ) → contains candidates c ≡ true → c < n) (empty : Bool)
    (tested : IsTrue empty ↔ ((c : ℕ) → contains chosen c ≡ false)) where
  -- what isn't declared is no candidate
  none_past : (c : ℕ) → n ≤ c → contains candidates c ≡ false
  none_past c m = elim (cases_Bool (contains candidates c)) [
    | inl e ↦ (let l = declared c e in absurd (omega (arith, l, m)))
    | inr e ↦ e
  ]

  -- no candidate fails where each candidate below n passes
  pub empty-each : ((c : ℕ) → contains chosen c ≡ (contains candidates c && not (test c))) → empty ≡ all_below n (λ c. not (contains candidates c) || test c)
  empty-each are = same_tests empty (all_below n (λ c. not (contains candidates c) || test c))
      (λ t. all_below-from_each n (λ c. not (contains candidates c) || test c) (λ c l. implied (contains candidates c) (test c) (sym (are c) ∙ tested.0 t c)))
      (λ t. tested.1 (λ c. are c ∙ elim (cases_lt c n) [
        | inl l ↦ excluded (contains candidates c) (test c) (each-from_all_below n (λ c. not (contains candidates c) || test c) t c l)
        | inr m ↦ (let none = none_past c m in rw none refl)
      ]))

  none-chosen : ((c : ℕ) → contains chosen c ≡ (contains candidates c && test c)) → some_below n (λ c. contains candidates c && test c) ≡ false
      → (c : ℕ) → contains chosen c ≡ false
  none-chosen are none c = are c ∙ elim (cases_lt c n) [
    | inl l ↦ each-from_some_below n _ none c l
    | inr m ↦ (let past = none_past c m in rw past refl)
  ]

  not_empty-any : ((c : ℕ) → contains chosen c ≡ (contains candidates c && test c)) → (b : Bool) → empty ≡ b → not empty ≡ some_below n (λ c. contains candidates c && test c)
  not_empty-any are true is =
      rw is (sym (some_below-none n _ (λ c l. sym (are c) ∙ tested.0 is c)))
  not_empty-any are false is = elim (cases_Bool (some_below n (λ c. contains candidates c && test c))) [
    | inl e ↦ rw is (sym e)
    | inr e ↦ absurd (true≢false (sym (tested.1 (none-chosen are e)) ∙ is))
  ]

  -- some candidate passes where some below n does
  pub empty-any : ((c : ℕ) → contains chosen c ≡ (contains candidates c && test c)) → not empty ≡ some_below n (λ c. contains candidates c && test c)
  empty-any are = not_empty-any are empty refl
