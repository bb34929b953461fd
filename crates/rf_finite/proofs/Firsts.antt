-- Lemmas on the first of what passes.
use Rattle.std.proofs.Common.{◌≡◌, Bool, true, ◌||◌, Option, Some, None, ◌⊎◌, refl, sym, ap, ◌∙◌, inl, inr, Less, Equal, Greater}
use Rattle.std.specs.Cmp.{IsTotalOrder}
use Rattle.std.specs.FinMap.{IsAntisymmetric}
use Rattle.std.specs.Ordering.{ordering_reverse}
use Rattle.std.specs.declared.cmp.Ordering.{Ordering}
use Rattle.std.proofs.lemmas.Bool.{or_cases, or_left, or_right}
use Rattle.rf_finite.specs.Firsts.{IsFirstOf, earlier}
use Rattle.rf_finite.proofs.Range.{None-ne_Some}

module _ {X : Type 0} (cmp : X → X → Ordering) where
  -- what passes the same has the same first
  pub IsFirstOf-same : (P Q : X → Type 0) (o : Option X) → ((x : X) → P x → Q x) → ((x : X) → Q x → P x) → IsFirstOf cmp P o → IsFirstOf cmp Q o
  IsFirstOf-same P Q None to from h = λ x q. h x (from x q)
  IsFirstOf-same P Q (Some x) to from h = record { passes = to x h.passes; first = λ y less q. h.first y less (from y q) }

  -- there is no first where nothing passes
  pub none-from_IsFirstOf : (P : X → Type 0) (o : Option X) → IsFirstOf cmp P o → ((x : X) → P x → ⊥) → o ≡ None
  none-from_IsFirstOf P None h empty = refl
  none-from_IsFirstOf P (Some x) h empty = absurd (empty x h.passes)

  pub nothing-from_IsFirstOf : (P : X → Type 0) (o : Option X) → IsFirstOf cmp P o → o ≡ None → (x : X) → P x → ⊥
  nothing-from_IsFirstOf P None h e = h
  nothing-from_IsFirstOf P (Some x) h e = absurd (None-ne_Some (sym e))

  -- two that are the first are the same, where the order tells all apart
  pub IsFirstOf-unique : (P : X → Type 0) (a b : Option X) → IsTotalOrder cmp → IsAntisymmetric cmp → IsFirstOf cmp P a → IsFirstOf cmp P b → a ≡ b
  IsFirstOf-unique P None b order apart ha hb = sym (none-from_IsFirstOf P b hb ha)
  IsFirstOf-unique P (Some x) None order apart ha hb = absurd (hb x ha.passes)
  IsFirstOf-unique P (Some x) (Some y) order apart ha hb = go (cmp x y) refl
    where
      go : (o : Ordering) → cmp x y ≡ o → Some x ≡ Some y
      go Less e = absurd (hb.first x e ha.passes)
      go Equal e = ap Some (apart x y e)
      go Greater e = absurd (ha.first y (order.antisymm y x ∙ ap ordering_reverse e) hb.passes)

  -- the first of either is the earlier of the firsts
  pub IsFirstOf-either : (P Q : X → Type 0) (a b : Option X) → IsTotalOrder cmp → IsFirstOf cmp P a → IsFirstOf cmp Q b → IsFirstOf cmp (λ x. P x ⊎ Q x) (earlier cmp a b)
  IsFirstOf-either P Q None None order ha hb = λ x s. elim s [ inl p ↦ ha x p | inr q ↦ hb x q ]
  IsFirstOf-either P Q None (Some y) order ha hb = record {
    passes = inr hb.passes;
    first = λ z less s. elim s [ inl p ↦ ha z p | inr q ↦ hb.first z less q ];
  }
  IsFirstOf-either P Q (Some x) None order ha hb = record {
    passes = inl ha.passes;
    first = λ z less s. elim s [ inl p ↦ ha.first z less p | inr q ↦ hb z q ];
  }
  IsFirstOf-either P Q (Some x) (Some y) order ha hb = go (cmp y x) refl
    where
      go : (o : Ordering) → cmp y x ≡ o → IsFirstOf cmp (λ x. P x ⊎ Q x) (earlier cmp (Some x) (Some y))
      go Less e = rw e record {
        passes = inr hb.passes;
        first = λ z less s. elim s [ inl p ↦ ha.first z (order.trans z y x less e) p | inr q ↦ hb.first z less q ];
      }
      go Equal e = rw e record {
        passes = inl ha.passes;
        first = λ z less s. elim s [
          | inl p ↦ ha.first z less p
          | inr q ↦ hb.first z (order.antisymm z y ∙ (ap ordering_reverse (order.congr y x z e) ∙ (sym (order.antisymm z x) ∙ less))) q
        ];
      }
      go Greater e = rw e record {
        passes = inl ha.passes;
        first = λ z less s. elim s [ inl p ↦ ha.first z less p | inr q ↦ hb.first z (order.trans z x y less (order.antisymm x y ∙ ap ordering_reverse e)) q ];
      }

  -- what passes one of two tests
  pub IsFirstOf-or : (p q : X → Bool) (a b : Option X) → IsTotalOrder cmp → IsFirstOf cmp (λ x. p x ≡ true) a → IsFirstOf cmp (λ x. q x ≡ true) b
      → IsFirstOf cmp (λ x. (p x || q x) ≡ true) (earlier cmp a b)
  IsFirstOf-or p q a b order ha hb =
      IsFirstOf-same (λ x. (p x ≡ true) ⊎ (q x ≡ true)) (λ x. (p x || q x) ≡ true) (earlier cmp a b)
      (λ x s. elim s [ inl h ↦ or_left (p x) (q x) h | inr h ↦ or_right (p x) (q x) h ])
      (λ x h. or_cases (p x) (q x) h)
      (IsFirstOf-either (λ x. p x ≡ true) (λ x. q x ≡ true) a b order ha hb)
