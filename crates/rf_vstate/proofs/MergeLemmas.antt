-- A truth that is merged into what was added.
use Rattle.std.proofs.Common.{◌≡◌, ◌∙◌, ℕ, Bool, true, false, if◌then◌else◌, refl, sym, ap}
use Rattle.rf_values.specs.Truth.{merge}
use Rattle.rf_values.specs.declared.truth.Truth.{Truth}
use Rattle.rf_state.specs.State.{State, is_at, merged_at}
use Rattle.rf_state.proofs.Keys.{same_key}
use Rattle.rf_vstate.specs.Rows.{with_fact}

here : (t : Bool) (after before : Truth) (v : Truth) → (t ≡ true → after ≡ merge before v) → (if t then after else before) ≡ (if t then merge before v else before)
here true after before v is = is refl
here false after before v is = refl

pub merged-is : (s : State) (r a b : ℕ) (v after : Truth) → after ≡ merge (s.added r a b) v → with_fact s r a b after ≡ merged_at s r a b v
merged-is s r a b v after is = λ i. record {
  objects = s.objects;
  added = λ q x y. here (is_at r a b q x y) after (s.added q x y) v (λ t. is ∙ ap (λ before. merge before v) (sym (same_key s.added r a b q x y t))) i;
}
