-- What the marks and the stack say while the search goes on, and at its end.
use Rattle.std.proofs.Common.{◌≡◌, ℕ, ◌<◌, ◌⊎◌, ◌&&◌, Bool, true, false, eqb, not, List, [], ◌∷◌, ◌++◌, length, get_or, sym, ◌∙◌, subst, inl, inr, arith}
use Rattle.std.proofs.lemmas.Bool.{and_parts, and_cases, or_cases, or_left, or_right, cases_Bool, both_ways, not-false, eqb-true}
use Rattle.std.proofs.lemmas.List.Elements.{Contains-append_left, Contains-push, Contains-push_cases}
use Rattle.std.specs.Prelude.{Contains, ◌↔◌}
use Rattle.rf_finite.specs.Walks.{walk_below, IsWalk, IsReachable}
use Rattle.rf_finite.proofs.Walks.{walk_below-trans, walk_below-from_edge, IsReachable-from_walk_below}
use Rattle.rf_closure.specs.Marking.{Marking}

-- the marks are right as far as they go, and only the vertices on the stack are still to be expanded
pub record IsPartialSearch (size : ℕ) (edge : ℕ → ℕ → Bool) (through : ℕ → Bool) (from : ℕ) (marks : List Bool) (stack : List ℕ) : Type 0 where
  pub len : length marks ≡ size
  pub sound : (k : ℕ) → k < size → get_or marks k false ≡ true → walk_below edge through size from k ≡ true
  pub first : (k : ℕ) → k < size → edge from k ≡ true → get_or marks k false ≡ true
  pub closed : (c : ℕ) → c < size → get_or marks c false ≡ true → through c ≡ true
      → Contains stack c ⊎ ((k : ℕ) → k < size → edge c k ≡ true → get_or marks k false ≡ true)
  pub waiting : (c : ℕ) → Contains stack c → (c < size) × (get_or marks c false ≡ true)

module _ (size : ℕ) (edge : ℕ → ℕ → Bool) (through : ℕ → Bool) (from : ℕ) where
  -- what is marked after a row was marked before, or is in the row
  row_cases : (c : ℕ) (was : List Bool) (old : List ℕ) (marks : List Bool) (stack : List ℕ) → Marking size (edge c) was old marks stack
      → (k : ℕ) → k < size → get_or marks k false ≡ true → (get_or was k false ≡ true) ⊎ (edge c k ≡ true)
  row_cases c was old marks stack m k l h = elim (or_cases (get_or was k false) (edge c k) (sym (m.marked k l) ∙ h)) [
    | inl e ↦ inl e
    | inr e ↦ inr e
  ]

  row_kept : (c : ℕ) (was : List Bool) (old : List ℕ) (marks : List Bool) (stack : List ℕ) → Marking size (edge c) was old marks stack
      → (k : ℕ) → k < size → get_or was k false ≡ true → get_or marks k false ≡ true
  row_kept c was old marks stack m k l h = m.marked k l ∙ or_left (get_or was k false) (edge c k) h

  row_marked : (c : ℕ) (was : List Bool) (old : List ℕ) (marks : List Bool) (stack : List ℕ) → Marking size (edge c) was old marks stack
      → (k : ℕ) → k < size → edge c k ≡ true → get_or marks k false ≡ true
  row_marked c was old marks stack m k l h = m.marked k l ∙ or_right (get_or was k false) (edge c k) h

  -- the start is expanded
  pub IsPartialSearch-start : (was marks : List Bool) (stack : List ℕ) → ((k : ℕ) → k < size → get_or was k false ≡ false)
      → Marking size (edge from) was [] marks stack → IsPartialSearch size edge through from marks stack
  IsPartialSearch-start was marks stack none m = record {
    len = m.len;
    sound = λ k l h. elim (row_cases from was [] marks stack m k l h) [
      | inl e ↦ absurd (both_ways (get_or was k false) (none k l) e)
      | inr e ↦ walk_below-from_edge edge through size from k e
    ];
    first = λ k l h. row_marked from was [] marks stack m k l h;
    closed = λ c l h t. inl (m.added c l (none c l) h);
    waiting = λ c k. elim (m.only c k) [ inl e ↦ absurd (nothing c e) | inr e ↦ (e.0, row_marked from was [] marks stack m c e.0 e.1) ];
  }
    where
      nothing : (c : ℕ) → Contains [] c → ⊥
      nothing c k = omega (arith, k.1)

  -- the vertex on top of the stack is not to be expanded: it is the start, or no walk passes through it
  pub IsPartialSearch-skip : (marks : List Bool) (stack : List ℕ) (c : ℕ) → IsPartialSearch size edge through from marks (stack ++ c ∷ [])
      → (not (eqb c from) && through c) ≡ false → IsPartialSearch size edge through from marks stack
  IsPartialSearch-skip marks stack c r stop = record {
    len = r.len;
    sound = r.sound;
    first = r.first;
    closed = λ d l h t. elim (r.closed d l h t) [
      | inl k ↦ elim (Contains-push_cases stack c d k) [
        | inl e ↦ inl e
        | inr e ↦ elim (and_cases (not (eqb c from)) (through c) stop) [
          | inl n ↦ (let start : d ≡ from = sym e ∙ eqb-true c from (not-false (eqb c from) n) in
              inr (λ k l s. r.first k l (subst (λ d. edge d k ≡ true) start s)))
          | inr n ↦ absurd (both_ways (through c) n (subst (λ d. through d ≡ true) (sym e) t))
        ]
      ]
      | inr f ↦ inr f
    ];
    waiting = λ d k. r.waiting d (Contains-append_left stack (c ∷ []) d k);
  }

  -- the vertex on top of the stack is expanded
  pub IsPartialSearch-expand : (was : List Bool) (old : List ℕ) (c : ℕ) (marks : List Bool) (stack : List ℕ)
      → IsPartialSearch size edge through from was (old ++ c ∷ []) → (not (eqb c from) && through c) ≡ true → Marking size (edge c) was old marks stack
      → IsPartialSearch size edge through from marks stack
  IsPartialSearch-expand was old c marks stack r go m =
      let passed = (and_parts (not (eqb c from)) (through c) go).1 in
      let here = r.waiting c (Contains-push old c) in record {
        len = m.len;
        sound = λ k l h. elim (row_cases c was old marks stack m k l h) [
          | inl e ↦ r.sound k l e
          | inr e ↦ walk_below-trans edge through size from c k here.0 passed (r.sound c here.0 here.1) (walk_below-from_edge edge through size c k e)
        ];
        first = λ k l h. row_kept c was old marks stack m k l (r.first k l h);
        closed = λ d l h t. elim (cases_Bool (get_or was d false)) [
          | inl e ↦ elim (r.closed d l e t) [
            | inl k ↦ elim (Contains-push_cases old c d k) [
              | inl q ↦ inl (m.kept d q)
              | inr q ↦ inr (λ k l s. row_marked c was old marks stack m k l (subst (λ d. edge d k ≡ true) (sym q) s))
            ]
            | inr f ↦ inr (λ k l s. row_kept c was old marks stack m k l (f k l s))
          ]
          | inr e ↦ inl (m.added d l e h)
        ];
        waiting = λ d k. elim (m.only d k) [
          | inl e ↦ (let w = r.waiting d (Contains-append_left old (c ∷ []) d e) in (w.0, row_kept c was old marks stack m d w.0 w.1))
          | inr e ↦ (e.0, row_marked c was old marks stack m d e.0 e.1)
        ];
      }

  -- once the stack is empty, the end of each walk is marked
  marked-from_IsWalk : (marks : List Bool) → IsPartialSearch size edge through from marks [] → (a : ℕ) (cs : List ℕ) (b : ℕ)
      → ((k : ℕ) → k < size → edge a k ≡ true → get_or marks k false ≡ true) → b < size → IsWalk edge through size a cs b → get_or marks b false ≡ true
  marked-from_IsWalk marks r a [] b ends l w = ends b l w
  marked-from_IsWalk marks r a (c ∷ cs) b ends l w =
      marked-from_IsWalk marks r c cs b (elim (r.closed c w.1 (ends c w.1 w.0) w.2) [ inl k ↦ absurd (omega (arith, k.1)) | inr f ↦ f ]) l w.3

  pub IsPartialSearch-done : (marks : List Bool) → IsPartialSearch size edge through from marks []
      → (b : ℕ) → b < size → get_or marks b false ≡ walk_below edge through size from b
  IsPartialSearch-done marks r b l = elim (cases_Bool (walk_below edge through size from b)) [
    | inl e ↦ (let w = IsReachable-from_walk_below edge through size from b e in marked-from_IsWalk marks r from w.0 b r.first l w.1 ∙ sym e)
    | inr e ↦ elim (cases_Bool (get_or marks b false)) [ inl h ↦ absurd (both_ways (walk_below edge through size from b) e (r.sound b l h)) | inr h ↦ h ∙ sym e ]
  ]

  -- so a vertex is marked exactly where it can be reached
  pub IsPartialSearch-reachable : (marks : List Bool) → IsPartialSearch size edge through from marks []
      → (b : ℕ) → b < size → (get_or marks b false ≡ true) ↔ IsReachable edge through size from b
  IsPartialSearch-reachable marks r b l = (
    λ h. IsReachable-from_walk_below edge through size from b (r.sound b l h),
    λ w. marked-from_IsWalk marks r from w.0 b r.first l w.1,
  )
