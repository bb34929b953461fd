-- Maps by a reference and two objects, with one key more.
use Rattle.std.proofs.Common.{◌≡◌, ◌∙◌, ℕ, Bool, true, false, ◌&&◌, if◌then◌else◌, cond, eqb, Option, Some, unwrap_or, refl, sym, ap, ap₂}
use Rattle.std.specs.BTreeMap.{get}
use Rattle.std.specs.Cmp.{both_tied, nat_eq_equiv, unsigned_ties}
use Rattle.std.specs.Ordering.{is_eq}
use Rattle.std.proofs.Math.Bool.{and_assoc}
use Rattle.std.proofs.lemmas.Bool.{and_parts, eqb-true}
use Rattle.rf_values.specs.Truth.{merge}
use Rattle.rf_values.specs.declared.truth.Truth.{Truth}
use Rattle.rf_values.specs.declared.truth.Truth.TheVariants.{Unknown}
use Rattle.rf_state.specs.Added.{Added, Key, added_at, key_cmp}
use Rattle.rf_state.specs.State.{is_at}

-- keys are tied where they are the same
pub is_at-tied : (r a b q x y : ℕ) → is_eq (key_cmp (r, a, b) (q, x, y)) ≡ is_at r a b q x y
is_at-tied r a b q x y =
    sym (both_tied _ _ _ _ (both_tied _ _ _ _ (unsigned_ties r q) (unsigned_ties a x)) (unsigned_ties b y))
    ∙ and_assoc (eqb r q) (eqb a x) (eqb b y)
    ∙ ap₂ (λ s t. s && t) (nat_eq_equiv.symm r q) (ap₂ (λ s t. s && t) (nat_eq_equiv.symm a x) (nat_eq_equiv.symm b y))

-- one key is given a value
abbrev pub IsPut : Added → ℕ → ℕ → ℕ → Option Truth → Added → Type 0
IsPut old r a b v new = (k : Key) → get key_cmp new k ≡ cond (is_eq (key_cmp (r, a, b) k)) v (get key_cmp old k)

pub get-put : (old new : Added) (r a b q x y : ℕ) (v : Option Truth) → IsPut old r a b v new
    → get key_cmp new (q, x, y) ≡ (if is_at r a b q x y then v else get key_cmp old (q, x, y))
get-put old new r a b q x y v put = put (q, x, y) ∙ ap (λ (t : Bool). cond t v (get key_cmp old (q, x, y))) (is_at-tied r a b q x y)

-- where two keys are the same, a map has the same at both
pub same_key : {X : Type 0} (f : ℕ → ℕ → ℕ → X) (r a b q x y : ℕ) → is_at r a b q x y ≡ true → f q x y ≡ f r a b
same_key f r a b q x y e =
    let parts = and_parts (eqb q r) (eqb x a && eqb y b) e in
    let ends = and_parts (eqb x a) (eqb y b) parts.1 in
    λ i. f (eqb-true q r parts.0 i) (eqb-true x a ends.0 i) (eqb-true y b ends.1 i)

-- what is added once a truth was merged in
pub added_at-merged : (old new : Added) (r a b : ℕ) (v after : Truth) → after ≡ merge (added_at old r a b) v → IsPut old r a b (Some after) new
    → (q x y : ℕ) → added_at new q x y ≡ (if is_at r a b q x y then merge (added_at old q x y) v else added_at old q x y)
added_at-merged old new r a b v after is put q x y =
    ap (λ (o : Option Truth). unwrap_or o Unknown) (get-put old new r a b q x y (Some after) put)
    ∙ here (is_at r a b q x y) (λ e. is ∙ ap (λ t. merge t v) (sym (same_key (added_at old) r a b q x y e)))
  where
    here : (t : Bool) → (t ≡ true → after ≡ merge (added_at old q x y) v)
        → unwrap_or (if t then Some after else get key_cmp old (q, x, y)) Unknown ≡ (if t then merge (added_at old q x y) v else added_at old q x y)
    here true h = h refl
    here false h = refl
