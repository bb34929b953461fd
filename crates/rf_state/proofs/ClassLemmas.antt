-- Sets of classes against tests of each declared class.
use Rattle.std.proofs.Common.{◌≡◌, ◌∙◌, true≢false, length, ℕ, Bool, true, false, ◌&&◌, ◌||◌, not, ◌<◌, ◌≤◌, refl, sym, inl, inr}
use Rattle.std.specs.Prelude.{IsTrue, nat_lt, ◌↔◌}
use Rattle.std.specs.FinSet.{FinSet, contains}
use Rattle.std.specs.Ordering.{nat_cmp}
use Rattle.std.specs.Cmp.{both_ways as same_tests}
use Rattle.std.proofs.lemmas.Bool.{and_right, cases_Bool, cases_lt, lt-ltb, le-ltb}
use Rattle.rf_finite.specs.Range.{all_below, some_below}
use Rattle.rf_finite.proofs.Range.{all_below-from_each, each-from_all_below, each-from_some_below, some_below-none}
use Rattle.rf_problem.specs.Classes.{is_below}
use Rattle.rf_problem.specs.declared.problem.Problem.{Problem}
use Rattle.rf_problem.proofs.BelowLemmas.{is_below-past}

kept : (a u : Bool) → ((a && true) && not u) ≡ false → (not a || u) ≡ true
kept false u e = refl
kept true true e = refl
kept true false e = sym e

left_out : (a u : Bool) → (not a || u) ≡ true → ((a && true) && not u) ≡ false
left_out false u e = refl
left_out true true e = refl
left_out true false e = sym e

beyond : (a b : Bool) → ((a && false) && b) ≡ false
beyond false b = refl
beyond true b = refl

module _ (n : ℕ) (classes numbers declared under chosen : FinSet nat_cmp) (is_under : ℕ → Bool)
    (all : (c : ℕ) → contains numbers c ≡ nat_lt c n)
    (both : (c : ℕ) → contains declared c ≡ (contains classes c && contains numbers c))
    (below : (c : ℕ) → contains under c ≡ is_under c) (empty : Bool) (tested : IsTrue empty ↔ ((c : ℕ) → contains chosen c ≡ false)) where
  within : (c : ℕ) → c < n → contains declared c ≡ (contains classes c && true)
  within c l = let a = all c in let less : nat_lt c n ≡ true = lt-ltb c n l in let e = both c in rw (e, a, less) refl

  past : (c : ℕ) → n ≤ c → contains declared c ≡ (contains classes c && false)
  past c l = let a = all c in let less : nat_lt c n ≡ false = le-ltb c n l in let e = both c in rw (e, a, less) refl

  -- none of them isn't below the top where each declared one is
  pub empty-all_below : ((c : ℕ) → contains chosen c ≡ (contains declared c && not (contains under c)))
      → empty ≡ all_below n (λ c. not (contains classes c) || is_under c)
  empty-all_below is = same_tests empty (all_below n (λ c. not (contains classes c) || is_under c))
      (λ t. all_below-from_each n (λ c. not (contains classes c) || is_under c) (λ c l.
      let none = tested.0 t c in let e = is c in let w = within c l in let b = below c in
      kept (contains classes c) (is_under c) (rw (← w, ← b, ← e) none)))
      (λ t. tested.1 (λ c. let e = is c in let b = below c in elim (cases_lt c n) [
        | inl l ↦ (let w = within c l in let h = each-from_all_below n (λ c. not (contains classes c) || is_under c) t c l in
            rw (e, w, b) (left_out (contains classes c) (is_under c) h))
        | inr m ↦ (let w = past c m in rw (e, w) (beyond (contains classes c) (not (contains under c))))
      ]))

module _ (p : Problem) (classes both : FinSet nat_cmp) (k : ℕ) (there : k < length p.classes)
    (are : (c : ℕ) → contains both c ≡ (contains classes c && is_below p.classes c k)) where
  none-below : some_below (length p.classes) (λ c. contains classes c && is_below p.classes c k) ≡ false → (c : ℕ) → contains both c ≡ false
  none-below none c = elim (cases_lt c (length p.classes)) [
    | inl l ↦ are c ∙ each-from_some_below (length p.classes) _ none c l
    | inr past ↦ are c ∙ and_right _ _ (is_below-past p.classes c k past there)
  ]

  -- some of them is below the top where the set of those that are isn't empty
  pub empty-some_below : (empty : Bool) → (IsTrue empty ↔ ((c : ℕ) → contains both c ≡ false))
      → not empty ≡ some_below (length p.classes) (λ c. contains classes c && is_below p.classes c k)
  empty-some_below true tested = sym (some_below-none (length p.classes) _ (λ c l. sym (are c) ∙ tested.0 refl c))
  empty-some_below false tested = elim (cases_Bool (some_below (length p.classes) (λ c. contains classes c && is_below p.classes c k))) [
    | inl e ↦ sym e
    | inr e ↦ absurd (true≢false (sym (tested.1 (none-below e))))
  ]
