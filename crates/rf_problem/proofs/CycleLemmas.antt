-- What is left once all is taken away again and again that has no edge into the rest.
use Rattle.std.proofs.Common.{◌≡◌, ◌∙◌, ℕ, ◌+◌, ◌≤◌, ◌<◌, Bool, true, false, ◌&&◌, [], ◌∷◌, not, refl, sym, ap, inl, inr, arith}
use Rattle.std.specs.Prelude.{◌==◌}
use Rattle.std.specs.FinSet.{FinSet, contains}
use Rattle.std.specs.Ordering.{nat_cmp}
use Rattle.std.proofs.lemmas.Bool.{and_parts, and_from, and_right, both_ways, cases_Bool, cases_eq, eq-eqb, ne_eqb, not_from_false}
use Rattle.rf_finite.specs.Range.{count_below}
use Rattle.rf_finite.specs.Walks.{HasNoCycle, IsReachable, walk_below}
use Rattle.rf_finite.proofs.Range.{count_below-le_bound}
use Rattle.rf_finite.proofs.Walks.{IsReachable-from_edge, IsReachable-trans, count_below-reachable_falls}
use Rattle.rf_problem.specs.Cycles.{AreOffCycles, IsWithin, LeadsInto}

module _ (edge : ℕ → ℕ → Bool) (n : ℕ) where
  abbrev anywhere : ℕ → Bool
  anywhere _ = true

  -- no way leads back to a number that has no edge into the rest, where none leads back to what is taken away
  off_cycle-from_ends :
      (rest : FinSet nat_cmp) (z : ℕ) → z < n → AreOffCycles edge n rest → (LeadsInto edge z rest → ⊥) → IsReachable edge anywhere n z z → ⊥
  off_cycle-from_ends rest z l off none ([], w) = elim (cases_Bool (contains rest z)) [
    | inl has ↦ none (z, w, has)
    | inr gone ↦ off z l gone ([], w)
  ]
  off_cycle-from_ends rest z l off none (c ∷ cs, w) = elim (cases_Bool (contains rest c)) [
    | inl has ↦ none (c, w.0, has)
    | inr gone ↦ off c w.1 gone (IsReachable-trans edge anywhere n c z c l refl (cs, w.3) (IsReachable-from_edge edge anywhere n z c w.0))
  ]

  -- what one round over the numbers below i keeps
  pub record IsPeeled (left rest : FinSet nat_cmp) (i : ℕ) : Type 0 where
    pub kept : (x : ℕ) → contains rest x ≡ true → contains left x ≡ true
    pub led : (x : ℕ) → x < i → contains rest x ≡ true → LeadsInto edge x left
    pub off : AreOffCycles edge n left → AreOffCycles edge n rest

  -- a number with an edge into the rest stays
  pub IsPeeled-stay : (left rest : FinSet nat_cmp) (i j : ℕ) → IsPeeled left rest i → LeadsInto edge i rest → j ≡ i + 1 → IsPeeled left rest j
  IsPeeled-stay left rest i j is leads next = record {
    kept = is.kept;
    led = λ x l has. elim (cases_eq x i) [
      | inl same ↦ rw same (leads.0, leads.1, is.kept leads.0 leads.2)
      | inr other ↦ is.led x (omega arith) has
    ];
    off = is.off;
  }

  -- a number without one is taken away
  pub IsPeeled-go :
      (left rest now : FinSet nat_cmp) (i j : ℕ) → IsPeeled left rest i → i < n → (LeadsInto edge i rest → ⊥) →
      ((x : ℕ) → contains now x ≡ (contains rest x && not (x == i))) → j ≡ i + 1 → IsPeeled left now j
  IsPeeled-go left rest now i j is l none members next =
      let still : (x : ℕ) → contains now x ≡ true → (contains rest x ≡ true) × (not (x == i) ≡ true) =
      λ x has. and_parts (contains rest x) (not (x == i)) (sym (members x) ∙ has) in
      record {
        kept = λ x has. is.kept x (still x has).0;
        led = λ x less has. elim (cases_eq x i) [
          | inl same ↦ absurd (both_ways (contains now i) (members i ∙ stays_out i) (rw same at has))
          | inr other ↦ is.led x (omega arith) (still x has).0
        ];
        off = λ off x less gone. elim (cases_eq x i) [
          | inl same ↦ rw same (off_cycle-from_ends rest i l (is.off off) none)
          | inr other ↦ is.off off x less (elim (cases_Bool (contains rest x)) [
            | inl has ↦ absurd (both_ways (contains now x) gone
                (members x ∙ and_from (contains rest x) (not (x == i)) has (not_from_false (x == i) (ne_eqb x i other))))
            | inr e ↦ e
          ])
        ];
      }
    where
      stays_out : (k : ℕ) → (contains rest k && not (k == k)) ≡ false
      stays_out k = and_right (contains rest k) (not (k == k)) (ap not (eq-eqb k k refl))

  -- how many numbers can be reached from a number
  abbrev pub reach : ℕ → ℕ
  reach x = count_below n (walk_below edge anywhere n x)

  -- after so many rounds a number from which few can be reached isn't left, unless there are cycles
  abbrev pub HasFar : FinSet nat_cmp → ℕ → Type 0
  HasFar left k = HasNoCycle edge n → (x : ℕ) → contains left x ≡ true → k ≤ reach x

  pub HasFar-more :
      (left rest : FinSet nat_cmp) (k : ℕ) → HasFar left k → IsWithin left n → ((x : ℕ) → contains rest x ≡ true → contains left x ≡ true) →
      ((x : ℕ) → contains rest x ≡ true → LeadsInto edge x left) → HasFar rest (k + 1)
  HasFar-more left rest k far within kept led no_cycle x has =
      let leads = led x has in
      let before = far no_cycle leads.0 leads.2 in
      let falls = count_below-reachable_falls edge n no_cycle x leads.0 (within x (kept x has)) (within leads.0 leads.2) leads.1 in
      omega arith

  -- after more rounds than there are numbers none is left, unless there are cycles
  pub none_left : (left : FinSet nat_cmp) (k : ℕ) → n < k → HasFar left k → HasNoCycle edge n → (x : ℕ) → contains left x ≡ false
  none_left left k past far no_cycle x = elim (cases_Bool (contains left x)) [
    | inl has ↦ (let many = far no_cycle x has in
        let few = count_below-le_bound n (walk_below edge anywhere n x) in absurd (omega arith))
    | inr e ↦ e
  ]

  pub no_cycle-from_none : (left : FinSet nat_cmp) → AreOffCycles edge n left → ((x : ℕ) → contains left x ≡ false) → HasNoCycle edge n
  no_cycle-from_none left off none x l = off x l (none x)
