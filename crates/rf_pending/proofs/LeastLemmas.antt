-- The least rule of one kind, by its place in the order of rules.
use Rattle.std.proofs.Common.{◌≡◌, ℕ, zero, suc, ◌<◌, Bool, true, false, ◌&&◌, nat_lt, Option, Some, None, List, [], ◌∷◌, ◌++◌, length, refl, sym, ap, ap₂, ◌∙◌, subst, inl, inr}
use Rattle.std.specs.Bool.{then_some}
use Rattle.std.specs.Option.{option_map, option_or}
use Rattle.std.proofs.lemmas.Bool.{and_parts, cases_Bool, ltb-true}
use Rattle.rf_finite.specs.Range.{first_below}
use Rattle.rf_finite.proofs.Range.{first_below-map}
use Rattle.rf_finite.proofs.KeyedFirsts.{HasPrefix, IsKeyedFirst, IsKeyedFirst-below, IsKeyedFirst-one, IsThis, SomeBelow}
use Rattle.rf_problem.specs.declared.problem.Problem.{Problem}
use Rattle.rf_state.specs.State.{State, fact, object_of}
use Rattle.rf_state.specs.declared.object.Object.{Object}
use Rattle.rf_values.specs.declared.truth.Truth.{Truth}
use Rattle.rf_rules.specs.Effects.{is_ready}
use Rattle.rf_rules.specs.Rules.{fires, fits, instance_of, is_edge, is_object, is_scoped, least_object, place}
use Rattle.rf_rules.specs.declared.rule.Rule.{Rule}
use Rattle.rf_pending.specs.Rows.{firing, least_of_edges, least_of_objects, least_of_row}
use Rattle.rf_pending.specs.Touching.{IsSameRow, stands}
use Rattle.rf_pending.specs.declared.standing.Standing.{Standing}
use Rattle.rf_pending.proofs.RowLemmas.{first_below-same}

-- what is found at a number of a row, put together with the row
map-then_some : {A B : Type 0} (v : A → B) (test : Bool) (x : A) → option_map v (then_some test x) ≡ then_some test (v x)
map-then_some v true x = refl
map-then_some v false x = refl

pub map-first : {A B : Type 0} (n : ℕ) (v : A → B) (f : ℕ → Option A) (g : ℕ → Option B) → ((k : ℕ) → option_map v (f k) ≡ g k)
    → option_map v (first_below n f) ≡ first_below n g
map-first {A} {B} n v f g h = sym (first_below-map v n f) ∙ first_below-same n (λ k. option_map v (f k)) g (λ k l. h k)

module _ (p : Problem) (s : State) where
  pub least_of_row-is : (rule_at : ℕ → Rule) → least_of_row p s rule_at ≡ first_below (length s.objects) (λ b. firing p s (rule_at b))
  least_of_row-is rule_at = map-first (length s.objects) rule_at (λ b. then_some (fires p s (rule_at b)) b) (λ b. firing p s (rule_at b))
      (λ b. map-then_some rule_at (fires p s (rule_at b)) b)

  -- a rule of one number more than the row that fires
  abbrev pub IsAtObject : (ℕ → Rule) → Rule → Type 0
  IsAtObject rule_at = SomeBelow (length s.objects) (λ b. IsThis (rule_at b) (fires p s (rule_at b)))

  pub objects-first : (prefix : List ℕ) (rule_at : ℕ → Rule) → ((b : ℕ) → place (rule_at b) ≡ prefix ++ b ∷ [])
      → IsKeyedFirst place (HasPrefix prefix) (IsAtObject rule_at) (least_of_objects p s rule_at)
  objects-first prefix rule_at at = IsKeyedFirst-below place prefix (length s.objects) (λ b. firing p s (rule_at b)) (λ b. IsThis (rule_at b) (fires p s (rule_at b)))
      (λ b l. IsKeyedFirst-one place (rule_at b) (fires p s (rule_at b)) (prefix ++ b ∷ []) (at b))

  pub row-first : (prefix : List ℕ) (rule_at : ℕ → Rule) → ((b : ℕ) → place (rule_at b) ≡ prefix ++ b ∷ [])
      → IsKeyedFirst place (HasPrefix prefix) (IsAtObject rule_at) (least_of_row p s rule_at)
  row-first prefix rule_at at =
      subst (IsKeyedFirst place (HasPrefix prefix) (IsAtObject rule_at)) (sym (least_of_row-is rule_at)) (objects-first prefix rule_at at)

  -- rules that have a row for each reference and object
  abbrev pub IsAtEdge : (ℕ → ℕ → Rule → Type 0) → Rule → Type 0
  IsAtEdge InRow = SomeBelow (length p.references) (λ r. SomeBelow (length s.objects) (InRow r))

  pub edges-first : (kind : ℕ) (found : ℕ → ℕ → Option Rule) (InRow : ℕ → ℕ → Rule → Type 0)
      → ((r a : ℕ) → IsKeyedFirst place (HasPrefix (kind ∷ r ∷ a ∷ [])) (InRow r a) (found r a))
      → IsKeyedFirst place (HasPrefix (kind ∷ [])) (IsAtEdge InRow) (least_of_edges p s found)
  edges-first kind found InRow each =
      IsKeyedFirst-below place (kind ∷ []) (length p.references) (λ r. first_below (length s.objects) (found r)) (λ r. SomeBelow (length s.objects) (InRow r))
      (λ r l. IsKeyedFirst-below place (kind ∷ r ∷ []) (length s.objects) (found r) (InRow r) (λ a k. each r a))

  -- the numbers of a rule that fires are there
  pub object-there : (o : ℕ) (ready : Bool) → (is_object s o && ready) ≡ true → o < length s.objects
  object-there o ready h = ltb-true o (length s.objects) (and_parts (is_object s o) ready h).0

  pub edge-there : (r a b : ℕ) (ready : Bool) → (is_edge p s r a b && ready) ≡ true → (r < length p.references) × (a < length s.objects) × (b < length s.objects)
  edge-there r a b ready h =
      let edge = and_parts (nat_lt r (length p.references)) (is_object s a && is_object s b) (and_parts (is_edge p s r a b) ready h).0 in
      let ends = and_parts (is_object s a) (is_object s b) edge.1 in
      (ltb-true r (length p.references) edge.0, ltb-true a (length s.objects) ends.0, ltb-true b (length s.objects) ends.1)

  pub row-there : (r a : ℕ) (ready : Bool) → ((nat_lt r (length p.references) && is_object s a) && ready) ≡ true → (r < length p.references) × (a < length s.objects)
  row-there r a ready h =
      let row = and_parts (nat_lt r (length p.references)) (is_object s a) (and_parts (nat_lt r (length p.references) && is_object s a) ready h).0 in
      (ltb-true r (length p.references) row.0, ltb-true a (length s.objects) row.1)

  pub scope-there : (z o : ℕ) (ready : Bool) → (is_scoped p s z o && ready) ≡ true → (z < length p.scopes) × (o < length s.objects)
  scope-there z o ready h =
      let row = and_parts (nat_lt z (length p.scopes)) (is_object s o) (and_parts (is_scoped p s z o) ready h).0 in
      (ltb-true z (length p.scopes) row.0, ltb-true o (length s.objects) row.1)

-- a row in which each rule fires as before has the same least one
pub row-same : (p : Problem) (s t : State) (rule_at : ℕ → Rule) → length t.objects ≡ length s.objects
    → ((b : ℕ) → fires p t (rule_at b) ≡ fires p s (rule_at b)) → least_of_row p t rule_at ≡ least_of_row p s rule_at
row-same p s t rule_at many same =
    ap (option_map rule_at)
    (ap (λ n. first_below n (λ b. then_some (fires p t (rule_at b)) b)) many
    ∙ first_below-same (length s.objects) (λ b. then_some (fires p t (rule_at b)) b) (λ b. then_some (fires p s (rule_at b)) b)
    (λ b l. ap (λ i. then_some i b) (same b)))

-- what is asked of a row and of what stands there alone is answered as before, where nothing is asked of an object that doesn't count
pub local : (p : Problem) (s t : State) (standing : Standing) (r a : ℕ) → IsSameRow p standing r a s t
    → (asked : ℕ → Truth → Truth → Object → Object → Bool)
    → ((n : ℕ) (known added : Truth) (from to other : Object) → stands standing known ≡ false → asked n known added from to ≡ asked n known added from other)
    → (b : ℕ) → asked (length t.objects) (fact p t r a b) (t.added r a b) (object_of t a) (object_of t b)
    ≡ asked (length s.objects) (fact p s r a b) (s.added r a b) (object_of s a) (object_of s b)
local p s t standing r a h asked off b =
    let n = length s.objects in
    let known = fact p s r a b in
    ap (λ m. asked m (fact p t r a b) (t.added r a b) (object_of t a) (object_of t b)) h.many
    ∙ (ap (λ v. asked n v (t.added r a b) (object_of t a) (object_of t b)) (h.facts b)
    ∙ (ap (λ v. asked n known v (object_of t a) (object_of t b)) (h.added b)
    ∙ (ap (λ x. asked n known (s.added r a b) x (object_of t b)) h.from
    ∙ elim (cases_Bool (stands standing known)) [
      | inl e ↦ ap (λ x. asked n known (s.added r a b) (object_of s a) x) (h.ends b e)
      | inr e ↦ off n known (s.added r a b) (object_of s a) (object_of t b) (object_of s b) e
    ])))
