-- Walks from an element within whose reach nothing changed.
use Rattle.std.proofs.Common.{◌≡◌, ℕ, ◌<◌, Bool, true, List, [], ◌∷◌, ◌⊎◌, refl, sym, ◌∙◌, subst, inl, inr}
use Rattle.rf_finite.specs.Walks.{walk_below, IsWalk}
use Rattle.rf_finite.proofs.Walks.{walk_below-from_edge, walk_below-trans, walk_below-from_IsWalk, IsReachable-from_walk_below}
use Rattle.rf_problem.proofs.BelowLemmas.{same_tests}

module _ (edge edge' : ℕ → ℕ → Bool) (through through' : ℕ → Bool) (n : ℕ) where
  -- the steps from the element itself and from each that walks lead to are as they were, and so is whether walks go
  -- on through it
  abbrev pub IsUntouched : ℕ → Type 0
  IsUntouched z = (u : ℕ) → u < n → (u ≡ z) ⊎ (walk_below edge through n z u ≡ true)
      → ((y : ℕ) → y < n → edge u y ≡ edge' u y) × (through u ≡ through' u)

  untouched_next : (z c : ℕ) → c < n → edge z c ≡ true → through c ≡ true → IsUntouched z → IsUntouched c
  untouched_next z c l e t h u lu w = elim w [
    | inl same ↦ h u lu (inr (subst (λ m. walk_below edge through n z m ≡ true) (sym same)
        (walk_below-from_edge edge through n z c e)))
    | inr k ↦ h u lu (inr (walk_below-trans edge through n z c u l t (walk_below-from_edge edge through n z c e) k))
  ]

  forth : (z : ℕ) (cs : List ℕ) (b : ℕ) → z < n → b < n → IsUntouched z → IsWalk edge through n z cs b
      → IsWalk edge' through' n z cs b
  forth z [] b lz lb h w = sym ((h z lz (inl refl)).0 b lb) ∙ w
  forth z (c ∷ cs) b lz lb h w =
      let there = (h c w.1 (inr (walk_below-from_edge edge through n z c w.0))).1 in (
        sym ((h z lz (inl refl)).0 c w.1) ∙ w.0,
        w.1,
        sym there ∙ w.2,
        forth c cs b w.1 lb
            (untouched_next z c w.1 w.0 w.2 h) w.3,
      )

  back : (z : ℕ) (cs : List ℕ) (b : ℕ) → z < n → b < n → IsUntouched z → IsWalk edge' through' n z cs b
      → IsWalk edge through n z cs b
  back z [] b lz lb h w = (h z lz (inl refl)).0 b lb ∙ w
  back z (c ∷ cs) b lz lb h w =
      let e = (h z lz (inl refl)).0 c w.1 ∙ w.0 in
      let t = (h c w.1 (inr (walk_below-from_edge edge through n z c e))).1 ∙ w.2 in
      (e, w.1, t, back c cs b w.1 lb (untouched_next z c w.1 e t h) w.3)

  -- then walks lead to the same elements
  pub walks-same : (x y : ℕ) → x < n → y < n → IsUntouched x
      → walk_below edge through n x y ≡ walk_below edge' through' n x y
  walks-same x y lx ly h = same_tests (walk_below edge through n x y) (walk_below edge' through' n x y)
      (λ e.
      (let w = IsReachable-from_walk_below edge through n x y e in walk_below-from_IsWalk edge' through' n x w.0 y (forth x w.0 y lx ly h w.1)))
      (λ e.
      (let w = IsReachable-from_walk_below edge' through' n x y e in walk_below-from_IsWalk edge through n x w.0 y (back x w.0 y lx ly h w.1)))
