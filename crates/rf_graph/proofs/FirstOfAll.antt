-- The first violation, computed kind by kind, is the first in words; there is none exactly where the graph satisfies the problem.
use Rattle.std.proofs.Common.{◌≡◌, ◌⊎◌, Option, Some, None, [], ◌∷◌, nat_cmp, Less, Greater, refl, sym, ap, ◌∙◌, subst, inl, inr, true≢false}
use Rattle.std.specs.Option.{option_or}
use Rattle.std.specs.Cmp.Lexicographic.{slice_cmp}
use Rattle.std.specs.Ordering.{ordering_reverse}
use Rattle.std.proofs.lemmas.Cmp.{nat_list_cmp_total}
use Rattle.std.proofs.lemmas.Option.{same_Some}
use Rattle.rf_finite.proofs.Range.{None-ne_Some}
use Rattle.rf_problem.specs.declared.problem.Problem.{Problem}
use Rattle.rf_graph.specs.First.{first_asserted, first_class, first_containers, first_cycle, first_degree, first_edge, first_object, first_opposite, first_scope, first_violation}
use Rattle.rf_graph.specs.Graph.{Fits}
use Rattle.rf_graph.specs.Violations.{FirstViolation, IsBefore, IsVerdict, IsViolation, Sat, Shaped, sort_key}
use Rattle.rf_graph.specs.declared.graph.Graph.{Graph}
use Rattle.rf_graph.specs.declared.verdict.Verdict.{Verdict}
use Rattle.rf_graph.specs.declared.verdict.Verdict.TheVariants.{Satisfied, Violated}
use Rattle.rf_graph.specs.declared.verdict.Violation.{Violation}
use Rattle.rf_graph.specs.declared.verdict.Violation.TheVariants.{Class, Edge, Opposite, Degree, Containers, Cycle, Object, Asserted, Scope}
use Rattle.rf_finite.proofs.KeyedFirsts.{HasPrefix, From, IsKeyedFirst, IsKeyedFirst-last, IsKeyedFirst-none, IsKeyedFirst-or, IsKeyedFirst-same}
use Rattle.rf_graph.proofs.FirstOfKind.{Broken, WronglyContained, Misplaced, OfAbstractClass, OffScope, OnCycle, OneWay, OutOfRange, Unsatisfied, first_asserted-IsFirst, first_class-IsFirst, first_containers-IsFirst, first_cycle-IsFirst, first_degree-IsFirst, first_edge-IsFirst, first_object-IsFirst, first_opposite-IsFirst, first_scope-IsFirst}

-- of two violations not each stands before the other
IsBefore-not_both : (v w : Violation) → IsBefore v w → IsBefore w v → ⊥
IsBefore-not_both v w first second =
    let turned : slice_cmp nat_cmp (sort_key v) (sort_key w) ≡ ordering_reverse (slice_cmp nat_cmp (sort_key w) (sort_key v)) = nat_list_cmp_total.antisymm (sort_key v) (sort_key w) in
    let greater : ordering_reverse (slice_cmp nat_cmp (sort_key w) (sort_key v)) ≡ Greater = ap ordering_reverse second in
    let same : Less ≡ Greater = sym first ∙ (turned ∙ greater) in cc

module _ (p : Problem) (g : Graph) where
  -- the violations, kind by kind, from the last kind on
  abbrev From7 : Violation → Type 0
  From7 v = Broken p g v ⊎ OffScope p g v

  abbrev From6 : Violation → Type 0
  From6 v = Unsatisfied p g v ⊎ From7 v

  abbrev From5 : Violation → Type 0
  From5 v = OnCycle p g v ⊎ From6 v

  abbrev From4 : Violation → Type 0
  From4 v = WronglyContained p g v ⊎ From5 v

  abbrev From3 : Violation → Type 0
  From3 v = OutOfRange p g v ⊎ From4 v

  abbrev From2 : Violation → Type 0
  From2 v = OneWay p g v ⊎ From3 v

  abbrev From1 : Violation → Type 0
  From1 v = Misplaced p g v ⊎ From2 v

  abbrev ByKind : Violation → Type 0
  ByKind v = OfAbstractClass p g v ⊎ From1 v

  kind-from_IsViolation : (v : Violation) → IsViolation p g v → ByKind v
  kind-from_IsViolation (Class x) h = inl (x, refl, h)
  kind-from_IsViolation (Edge r x y) h = inr (inl (r, x, y, refl, h))
  kind-from_IsViolation (Opposite r x y) h = inr (inr (inl (r, x, y, refl, h)))
  kind-from_IsViolation (Degree r x) h = inr (inr (inr (inl (r, x, refl, h))))
  kind-from_IsViolation (Containers z) h = inr (inr (inr (inr (inl (z, refl, h)))))
  kind-from_IsViolation (Cycle x) h = inr (inr (inr (inr (inr (inl (x, refl, h))))))
  kind-from_IsViolation (Object o) h = inr (inr (inr (inr (inr (inr (inl (o, refl, h)))))))
  kind-from_IsViolation (Asserted symbol t) h = inr (inr (inr (inr (inr (inr (inr (inl (symbol, t, refl, h))))))))
  kind-from_IsViolation (Scope s) h = inr (inr (inr (inr (inr (inr (inr (inr (s, refl, h))))))))

  -- a violation by what it is
  there : (v w : Violation) → v ≡ w → IsViolation p g w → IsViolation p g v
  there v w e h = subst (λ (u : Violation). IsViolation p g u) (sym e) h

  IsViolation-from_7 : (v : Violation) → From7 v → IsViolation p g v
  IsViolation-from_7 v s = elim s [ inl k ↦ there v (Asserted k.0 k.1) k.2 k.3 | inr k ↦ there v (Scope k.0) k.1 k.2 ]

  IsViolation-from_5 : (v : Violation) → From5 v → IsViolation p g v
  IsViolation-from_5 v s = elim s [
    | inl k ↦ there v (Cycle k.0) k.1 k.2
    | inr s ↦ elim s [ inl k ↦ there v (Object k.0) k.1 k.2 | inr s ↦ IsViolation-from_7 v s ]
  ]

  IsViolation-from_3 : (v : Violation) → From3 v → IsViolation p g v
  IsViolation-from_3 v s = elim s [
    | inl k ↦ there v (Degree k.0 k.1) k.2 k.3
    | inr s ↦ elim s [ inl k ↦ there v (Containers k.0) k.1 k.2 | inr s ↦ IsViolation-from_5 v s ]
  ]

  IsViolation-from_1 : (v : Violation) → From1 v → IsViolation p g v
  IsViolation-from_1 v s = elim s [
    | inl k ↦ there v (Edge k.0 k.1 k.2) k.3 k.4
    | inr s ↦ elim s [ inl k ↦ there v (Opposite k.0 k.1 k.2) k.3 k.4 | inr s ↦ IsViolation-from_3 v s ]
  ]

  IsViolation-from_kind : (v : Violation) → ByKind v → IsViolation p g v
  IsViolation-from_kind v s = elim s [ inl k ↦ there v (Class k.0) k.1 k.2 | inr s ↦ IsViolation-from_1 v s ]

  -- what is computed is the first of all violations
  first_violation-IsFirst : Fits p g → IsKeyedFirst sort_key (From [] 0) (IsViolation p g) (first_violation p g)
  first_violation-IsFirst fits =
      let from8 : IsKeyedFirst sort_key (From [] 8) (OffScope p g) (first_scope p g) = IsKeyedFirst-last sort_key [] 8 (OffScope p g) (first_scope p g) (first_scope-IsFirst p g) in
      let o7 : Option Violation = option_or (first_asserted p g) (first_scope p g) in
      let from7 : IsKeyedFirst sort_key (From [] 7) From7 o7 = IsKeyedFirst-or sort_key [] 7 (Broken p g) (OffScope p g) (first_asserted p g) (first_scope p g) (first_asserted-IsFirst p g) from8 in
      let o6 : Option Violation = option_or (first_object p g) o7 in
      let from6 : IsKeyedFirst sort_key (From [] 6) From6 o6 = IsKeyedFirst-or sort_key [] 6 (Unsatisfied p g) From7 (first_object p g) o7 (first_object-IsFirst p g) from7 in
      let o5 : Option Violation = option_or (first_cycle p g) o6 in
      let from5 : IsKeyedFirst sort_key (From [] 5) From5 o5 = IsKeyedFirst-or sort_key [] 5 (OnCycle p g) From6 (first_cycle p g) o6 (first_cycle-IsFirst p g) from6 in
      let o4 : Option Violation = option_or (first_containers p g) o5 in
      let from4 : IsKeyedFirst sort_key (From [] 4) From4 o4 = IsKeyedFirst-or sort_key [] 4 (WronglyContained p g) From5 (first_containers p g) o5 (first_containers-IsFirst p g) from5 in
      let o3 : Option Violation = option_or (first_degree p g) o4 in
      let from3 : IsKeyedFirst sort_key (From [] 3) From3 o3 = IsKeyedFirst-or sort_key [] 3 (OutOfRange p g) From4 (first_degree p g) o4 (first_degree-IsFirst p g) from4 in
      let o2 : Option Violation = option_or (first_opposite p g) o3 in
      let from2 : IsKeyedFirst sort_key (From [] 2) From2 o2 = IsKeyedFirst-or sort_key [] 2 (OneWay p g) From3 (first_opposite p g) o3 (first_opposite-IsFirst p g fits) from3 in
      let o1 : Option Violation = option_or (first_edge p g) o2 in
      let from1 : IsKeyedFirst sort_key (From [] 1) From1 o1 = IsKeyedFirst-or sort_key [] 1 (Misplaced p g) From2 (first_edge p g) o2 (first_edge-IsFirst p g fits) from2 in
      let from0 : IsKeyedFirst sort_key (From [] 0) ByKind (first_violation p g) = IsKeyedFirst-or sort_key [] 0 (OfAbstractClass p g) From1 (first_class p g) o1 (first_class-IsFirst p g) from1 in
      IsKeyedFirst-same sort_key (From [] 0) ByKind (IsViolation p g) (first_violation p g) from0 IsViolation-from_kind kind-from_IsViolation

  -- a value that is the first of its kind in words
  FirstViolation-from_IsFirst : (o : Option Violation) → IsKeyedFirst sort_key (From [] 0) (IsViolation p g) o → (v : Violation) → o ≡ Some v → FirstViolation p g v
  FirstViolation-from_IsFirst o f v e = record {
    there = f.some v e;
    first = λ w before h. elim (f.least v e w h) [
      | inl same ↦ (let itself : IsBefore v v = subst (λ (u : Violation). IsBefore u v) same before in IsBefore-not_both v v itself itself)
      | inr after ↦ IsBefore-not_both v w after before
    ];
  }

  IsFirst-from_FirstViolation : (o : Option Violation) → IsKeyedFirst sort_key (From [] 0) (IsViolation p g) o → (v : Violation) → FirstViolation p g v → o ≡ Some v
  IsFirst-from_FirstViolation None f v h = absurd (f.none refl v h.there)
  IsFirst-from_FirstViolation (Some w) f v h = elim (f.least w refl v h.there) [
    | inl same ↦ ap (λ (u : Violation). Some u) (sym same)
    | inr before ↦ absurd (h.first w before (f.some w refl))
  ]

  -- the first violation is the one that is computed
  pub FirstViolation-from_first_violation : Fits p g → (v : Violation) → first_violation p g ≡ Some v → FirstViolation p g v
  FirstViolation-from_first_violation fits v e = FirstViolation-from_IsFirst (first_violation p g) (first_violation-IsFirst fits) v e

  pub first_violation-from_FirstViolation : Fits p g → (v : Violation) → FirstViolation p g v → first_violation p g ≡ Some v
  first_violation-from_FirstViolation fits v h = IsFirst-from_FirstViolation (first_violation p g) (first_violation-IsFirst fits) v h

  -- and a graph satisfies the problem where none is
  pub Sat-from_no_violation : Fits p g → first_violation p g ≡ None → Sat p g
  Sat-from_no_violation fits e = record { fits = fits; no_violation = (first_violation-IsFirst fits).none e }

  pub no_violation-from_Sat : Fits p g → Sat p g → first_violation p g ≡ None
  no_violation-from_Sat fits s = IsKeyedFirst-none sort_key (From [] 0) (IsViolation p g) (first_violation p g) (first_violation-IsFirst fits) s.no_violation

  -- where none of the first six kinds is found, no violation of these kinds is there
  pub Shaped-from_none : Fits p g → first_class p g ≡ None → first_edge p g ≡ None → first_opposite p g ≡ None → first_degree p g ≡ None
      → first_containers p g ≡ None → first_cycle p g ≡ None → Shaped p g
  Shaped-from_none fits c e o d k y (Class x) s h = (first_class-IsFirst p g).none c (Class x) (x, refl, h)
  Shaped-from_none fits c e o d k y (Edge r x z) s h = (first_edge-IsFirst p g fits).none e (Edge r x z) (r, x, z, refl, h)
  Shaped-from_none fits c e o d k y (Opposite r x z) s h = (first_opposite-IsFirst p g fits).none o (Opposite r x z) (r, x, z, refl, h)
  Shaped-from_none fits c e o d k y (Degree r x) s h = (first_degree-IsFirst p g).none d (Degree r x) (r, x, refl, h)
  Shaped-from_none fits c e o d k y (Containers x) s h = (first_containers-IsFirst p g).none k (Containers x) (x, refl, h)
  Shaped-from_none fits c e o d k y (Cycle x) s h = (first_cycle-IsFirst p g).none y (Cycle x) (x, refl, h)
  Shaped-from_none fits c e o d k y (Object x) s h = true≢false (sym s)
  Shaped-from_none fits c e o d k y (Asserted symbol t) s h = true≢false (sym s)
  Shaped-from_none fits c e o d k y (Scope x) s h = true≢false (sym s)

  -- and where no violation of these kinds is there, none is found
  pub none-from_Shaped : Fits p g → Shaped p g
      → (first_class p g ≡ None) × (first_edge p g ≡ None) × (first_opposite p g ≡ None) × (first_degree p g ≡ None) × (first_containers p g ≡ None) × (first_cycle p g ≡ None)
  none-from_Shaped fits shaped = (
    IsKeyedFirst-none sort_key (HasPrefix (0 ∷ [])) (OfAbstractClass p g) (first_class p g) (first_class-IsFirst p g) (λ v k. shaped (Class k.0) refl k.2),
    IsKeyedFirst-none sort_key (HasPrefix (1 ∷ [])) (Misplaced p g) (first_edge p g) (first_edge-IsFirst p g fits) (λ v k. shaped (Edge k.0 k.1 k.2) refl k.4),
    IsKeyedFirst-none sort_key (HasPrefix (2 ∷ [])) (OneWay p g) (first_opposite p g) (first_opposite-IsFirst p g fits) (λ v k. shaped (Opposite k.0 k.1 k.2) refl k.4),
    IsKeyedFirst-none sort_key (HasPrefix (3 ∷ [])) (OutOfRange p g) (first_degree p g) (first_degree-IsFirst p g) (λ v k. shaped (Degree k.0 k.1) refl k.3),
    IsKeyedFirst-none sort_key (HasPrefix (4 ∷ [])) (WronglyContained p g) (first_containers p g) (first_containers-IsFirst p g) (λ v k. shaped (Containers k.0) refl k.2),
    IsKeyedFirst-none sort_key (HasPrefix (5 ∷ [])) (OnCycle p g) (first_cycle p g) (first_cycle-IsFirst p g) (λ v k. shaped (Cycle k.0) refl k.2),
  )

  -- the violation that a verdict names
  abbrev pub violation_of : Verdict → Option Violation
  violation_of Satisfied = None
  violation_of (Violated v) = Some v

  -- a verdict is right exactly where that is the violation that is computed
  pub IsVerdict-from_first_violation : Fits p g → (verdict : Verdict) → first_violation p g ≡ violation_of verdict → IsVerdict p g verdict
  IsVerdict-from_first_violation fits Satisfied e = Sat-from_no_violation fits e
  IsVerdict-from_first_violation fits (Violated v) e = FirstViolation-from_first_violation fits v e

  pub first_violation-from_IsVerdict : Fits p g → (verdict : Verdict) → IsVerdict p g verdict → first_violation p g ≡ violation_of verdict
  first_violation-from_IsVerdict fits Satisfied h = no_violation-from_Sat fits h
  first_violation-from_IsVerdict fits (Violated v) h = first_violation-from_FirstViolation fits v h

  violation_of-same : (a b : Verdict) → violation_of a ≡ violation_of b → a ≡ b
  violation_of-same Satisfied Satisfied e = refl
  violation_of-same Satisfied (Violated w) e = absurd (None-ne_Some e)
  violation_of-same (Violated v) Satisfied e = absurd (None-ne_Some (sym e))
  violation_of-same (Violated v) (Violated w) e = ap (λ (u : Violation). Violated u) (same_Some v w e)

  -- a graph that fits has one verdict
  pub IsVerdict-unique : Fits p g → (a b : Verdict) → IsVerdict p g a → IsVerdict p g b → a ≡ b
  IsVerdict-unique fits a b h k = violation_of-same a b (sym (first_violation-from_IsVerdict fits a h) ∙ first_violation-from_IsVerdict fits b k)
