-- The first tuple that passes a test.
use Rattle.std.proofs.Common.{◌≡◌, ℕ, zero, suc, ◌<◌, Bool, true, false, ◌||◌, Option, Some, None, List, [], ◌∷◌, ◌++◌, nat_cmp, refl, sym, ap, ◌∙◌, ◌⊎◌, inl, inr, append_assoc}
use Rattle.std.specs.Option.{option_map, option_or}
use Rattle.std.specs.Cmp.Lexicographic.{slice_cmp, nat_list_cmp_total}
use Rattle.std.proofs.lemmas.Bool.{cases_Bool, or_cases, or_left, or_right}
use Rattle.std.proofs.lemmas.List.{append-nil}
use Rattle.std.proofs.lemmas.List.Elements.{All-cons, All-nil}
use Rattle.rf_finite.specs.Firsts.{earlier}
use Rattle.rf_finite.specs.Range.{first_below}
use Rattle.rf_finite.specs.Tuples.{IsTuple, first_tuple}
use Rattle.rf_finite.proofs.Firsts.{IsFirstOf-either, IsFirstOf-same}
use Rattle.rf_finite.proofs.Range.{first_below-none}
use Rattle.rf_finite.proofs.Tuples.{first_tuple-is_first}
use Rattle.rf_graph.specs.First.{when}
use Rattle.rf_graph.specs.declared.verdict.Violation.{Violation}
use Rattle.rf_satisfy.specs.Tuples.{IsFirst, first_passing}

-- the search finds nothing where no tuple passes
pub first_passing-none : (n m : ℕ) (prefix : List ℕ) (test : List ℕ → Bool) → ((u : List ℕ) → IsTuple n m u → test (prefix ++ u) ≡ false)
    → first_passing n m prefix test ≡ None
first_passing-none n zero prefix test none =
    let e : test prefix ≡ false = sym (ap test (append-nil prefix)) ∙ none [] record { many = refl; below = All-nil (λ x. x < n) } in rw e refl
first_passing-none n (suc m) prefix test none = first_below-none n (λ x. first_passing n m (prefix ++ x ∷ []) test) (λ x l.
    first_passing-none n m (prefix ++ x ∷ []) test (λ u h. ap test (append_assoc prefix (x ∷ []) u)
    ∙ none (x ∷ u) record { many = ap suc h.many; below = All-cons (λ y. y < n) x u l h.below }))

-- it finds the first tuple that passes
pub IsFirst-from_first_passing : (n m : ℕ) (test : List ℕ → Bool) (o : Option (List ℕ)) → o ≡ first_passing n m [] test → IsFirst n m test o
IsFirst-from_first_passing n m test o e = (first_tuple-is_first n m test o).0 (sym e)

pub first_passing-from_IsFirst : (n m : ℕ) (test : List ℕ → Bool) (o : Option (List ℕ)) → IsFirst n m test o → first_passing n m [] test ≡ o
first_passing-from_IsFirst n m test o h = (first_tuple-is_first n m test o).1 h

-- tests that agree on tuples have the same first
pub IsFirst-same : (n m : ℕ) (p q : List ℕ → Bool) (o : Option (List ℕ)) → ((u : List ℕ) → IsTuple n m u → p u ≡ q u) → IsFirst n m p o → IsFirst n m q o
IsFirst-same n m p q o same h =
    IsFirstOf-same (slice_cmp nat_cmp) (λ u. IsTuple n m u × (p u ≡ true)) (λ u. IsTuple n m u × (q u ≡ true)) o
    (λ u t. (t.0, sym (same u t.0) ∙ t.1)) (λ u t. (t.0, same u t.0 ∙ t.1)) h

-- the earlier of two first tuples is that of both tests
pub IsFirst-earlier : (n m : ℕ) (p q : List ℕ → Bool) (a b : Option (List ℕ)) → IsFirst n m p a → IsFirst n m q b
    → IsFirst n m (λ t. p t || q t) (earlier (slice_cmp nat_cmp) a b)
IsFirst-earlier n m p q a b ha hb =
    IsFirstOf-same (slice_cmp nat_cmp) (λ t. (IsTuple n m t × (p t ≡ true)) ⊎ (IsTuple n m t × (q t ≡ true)))
    (λ t. IsTuple n m t × ((p t || q t) ≡ true)) (earlier (slice_cmp nat_cmp) a b)
    (λ t s. elim s [ inl h ↦ (h.0, or_left (p t) (q t) h.1) | inr h ↦ (h.0, or_right (p t) (q t) h.1) ])
    (λ t h. elim (or_cases (p t) (q t) h.1) [ inl e ↦ inl (h.0, e) | inr e ↦ inr (h.0, e) ])
    (IsFirstOf-either (slice_cmp nat_cmp) (λ t. IsTuple n m t × (p t ≡ true)) (λ t. IsTuple n m t × (q t ≡ true)) a b nat_list_cmp_total ha hb)

-- the search for the first violation finds the first tuple
pub first_tuple-is : (n m : ℕ) (prefix : List ℕ) (test : List ℕ → Bool) (v : List ℕ → Violation)
    → first_tuple n m prefix (λ t. when (test t) (v t)) ≡ option_map v (first_passing n m prefix test)
first_tuple-is n zero prefix test v = elim (cases_Bool (test prefix)) [ inl e ↦ rw e refl | inr e ↦ rw e refl ]
first_tuple-is n (suc m) prefix test v =
    below n (λ x. first_tuple n m (prefix ++ x ∷ []) (λ t. when (test t) (v t))) (λ x. first_passing n m (prefix ++ x ∷ []) test) (λ x. first_tuple-is n m (prefix ++ x ∷ []) test v)
  where
    or_map : (a b : Option (List ℕ)) → option_or (option_map v a) (option_map v b) ≡ option_map v (option_or a b)
    or_map None b = refl
    or_map (Some a) b = refl

    below : (n : ℕ) (f : ℕ → Option Violation) (h : ℕ → Option (List ℕ)) → ((x : ℕ) → f x ≡ option_map v (h x)) → first_below n f ≡ option_map v (first_below n h)
    below zero f h e = refl
    below (suc k) f h e = rw (below k f h e, e k) (or_map (first_below k h) (h k))
