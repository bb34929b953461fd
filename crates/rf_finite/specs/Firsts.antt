-- The first of what passes, in an order that a comparison gives.
use Rattle.std.specs.Prelude.{◌≡◌, ◌↔◌, Bool, true, false, if◌then◌else◌, ◌||◌, Option, None, Some}
use Rattle.std.specs.Cmp.{IsTotalOrder}
use Rattle.std.specs.FinMap.{IsAntisymmetric}
use Rattle.std.specs.Ordering.{is_lt}
use Rattle.std.specs.declared.cmp.Ordering.{Ordering}
use Rattle.std.specs.declared.cmp.Ordering.TheVariants.{Less}

-- x passes, and nothing that comes before it does
pub record IsFirst {X : Type 0} (cmp : X → X → Ordering) (P : X → Type 0) (x : X) : Type 0 where
  pub passes : P x
  pub first : (y : X) → cmp y x ≡ Less → P y → ⊥

-- it is the first that passes, or nothing passes
abbrev pub IsFirstOf : {X : Type 0} → (X → X → Ordering) → (X → Type 0) → Option X → Type 0
IsFirstOf {X} cmp P None = (x : X) → P x → ⊥
IsFirstOf cmp P (Some x) = IsFirst cmp P x

-- of two that may be there the one that comes first
abbrev pub earlier : {X : Type 0} → (X → X → Ordering) → Option X → Option X → Option X
earlier cmp None b = b
earlier cmp (Some x) None = Some x
earlier cmp (Some x) (Some y) = if is_lt (cmp y x) then Some y else Some x

-- two that are the first are the same
abbrev pub FirstIsUnique : Type 0 → Type 0
FirstIsUnique X =
    (cmp : X → X → Ordering) (p : X → Bool) (a b : Option X) → IsTotalOrder cmp → IsAntisymmetric cmp
    → IsFirstOf cmp (λ x. p x ≡ true) a → IsFirstOf cmp (λ x. p x ≡ true) b → a ≡ b

-- there is none exactly where nothing passes
abbrev pub FirstIsNoneWhereNonePasses : Type 0 → Type 0
FirstIsNoneWhereNonePasses X =
    (cmp : X → X → Ordering) (p : X → Bool) (o : Option X) → IsFirstOf cmp (λ x. p x ≡ true) o
    → (o ≡ None) ↔ ((x : X) → p x ≡ false)

-- the first that passes one of two tests is the earlier of their firsts
abbrev pub FirstOfEitherIsEarlier : Type 0 → Type 0
FirstOfEitherIsEarlier X =
    (cmp : X → X → Ordering) (p q : X → Bool) (a b : Option X) → IsTotalOrder cmp
    → IsFirstOf cmp (λ x. p x ≡ true) a → IsFirstOf cmp (λ x. q x ≡ true) b
    → IsFirstOf cmp (λ x. (p x || q x) ≡ true) (earlier cmp a b)
