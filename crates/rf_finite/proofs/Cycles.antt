-- When a vertex lies on a cycle, by the vertices that edges lead to from it.
use Rattle.std.proofs.Common.{◌≡◌, ℕ, zero, suc, ◌≤◌, ◌<◌, Bool, true, false, List, [], ◌∷◌, refl, sym, ◌∙◌, subst, inl, inr, arith}
use Rattle.std.proofs.lemmas.Bool.{cases_Bool, both_ways, false_from_ne_true}
use Rattle.rf_finite.specs.Range.{count_below}
use Rattle.rf_finite.specs.Walks.{IsWalk, walk_below}
use Rattle.rf_finite.proofs.Walks.{IsWalk-last, IsReachable-from_walk_below, walk_below-from_IsWalk, walk_below-from_edge, walk_below-trans, count_below-reachable_falls_at}

module _ (edge : ℕ → ℕ → Bool) (n : ℕ) where
  abbrev anywhere : ℕ → Bool
  anywhere _ = true

  -- whether a walk from x leads back to it
  abbrev on_cycle : ℕ → Bool
  on_cycle x = walk_below edge anywhere n x x

  -- a cycle through z goes on over a vertex that an edge leads to from z, and that lies on it as well
  pub off_cycle-from_ends : (z : ℕ) → z < n → ((k : ℕ) → k < n → edge z k ≡ true → on_cycle k ≡ false) → on_cycle z ≡ false
  off_cycle-from_ends z lz off = false_from_ne_true (on_cycle z) (λ h. let w = IsReachable-from_walk_below edge anywhere n z z h in go w.0 w.1 h)
    where
      go : (cs : List ℕ) → IsWalk edge anywhere n z cs z → on_cycle z ≡ true → ⊥
      go [] w h = both_ways (on_cycle z) (off z lz w) h
      go (c ∷ cs) w h = both_ways (on_cycle c) (off c w.1 w.0)
          (walk_below-trans edge anywhere n c z c lz refl (walk_below-from_IsWalk edge anywhere n c cs z w.3) (walk_below-from_edge edge anywhere n z c w.0))

  -- where one edge at most leads to each vertex, an edge leads from x to k, and k lies on a cycle, so does x
  on_cycle-from_end : ((x y z : ℕ) → edge x z ≡ true → edge y z ≡ true → x ≡ y) → (x k : ℕ) → x < n → k < n → edge x k ≡ true → on_cycle k ≡ true → on_cycle x ≡ true
  on_cycle-from_end one x k lx lk e h =
      let w = IsReachable-from_walk_below edge anywhere n k k h in
      let r = IsWalk-last edge anywhere n k w.0 k w.1 in
      let here : r.0 ≡ x = one r.0 x k r.1 e in
      elim r.2 [
        | inl same ↦ subst (λ y. on_cycle y ≡ true) (sym same ∙ here) h
        | inr t ↦ walk_below-trans edge anywhere n x k x lk refl (walk_below-from_edge edge anywhere n x k e)
            (subst (λ y. walk_below edge anywhere n k y ≡ true) here (walk_below-from_IsWalk edge anywhere n k t.2.0 r.0 t.2.1))
      ]

  -- where one edge at most leads to each vertex, and from each vertex of a kind one leads to another of this kind, they lie on cycles
  pub on_cycle-from_ends : ((x y z : ℕ) → edge x z ≡ true → edge y z ≡ true → x ≡ y) → (Kind : ℕ → Type 0)
      → ((x : ℕ) → x < n → Kind x → (k : ℕ) × (k < n) × Kind k × (edge x k ≡ true))
      → (x : ℕ) → x < n → Kind x → on_cycle x ≡ true
  on_cycle-from_ends one Kind next x lx h = go (count_below n (walk_below edge anywhere n x)) x lx h (omega arith)
    where
      go : (m : ℕ) (x : ℕ) → x < n → Kind x → count_below n (walk_below edge anywhere n x) ≤ m → on_cycle x ≡ true
      go zero x lx h few = let r = next x lx h in on_cycle-from_end one x r.0 lx r.1 r.3 (elim (cases_Bool (on_cycle r.0)) [
        | inl e ↦ e
        | inr e ↦ (let falls = count_below-reachable_falls_at edge n x r.0 lx r.1 r.3 (λ w. both_ways (on_cycle r.0) e (walk_below-from_IsWalk edge anywhere n r.0 w.0 r.0 w.1)) in absurd (omega arith))
      ])
      go (suc m) x lx h few = let r = next x lx h in on_cycle-from_end one x r.0 lx r.1 r.3 (elim (cases_Bool (on_cycle r.0)) [
        | inl e ↦ e
        | inr e ↦ (let falls = count_below-reachable_falls_at edge n x r.0 lx r.1 r.3 (λ w. both_ways (on_cycle r.0) e (walk_below-from_IsWalk edge anywhere n r.0 w.0 r.0 w.1)) in go m r.0 r.1 r.2 (omega arith))
      ])
