-- The added facts of a state with a fresh object, entry by entry.
use Rattle.std.proofs.Common.{◌≡◌, ◌∙◌, ℕ, ◌<◌, Bool, true, false, ◌&&◌, ◌||◌, if◌then◌else◌, Option, Some, None, List, [], ◌∷◌, ◌++◌, unwrap_or, refl, sym, ap, subst, ◌⊎◌, inl, inr, arith, true≢false}
use Rattle.std.specs.BTreeMap.{get}
use Rattle.std.specs.Cmp.{IsTotalOrder}
use Rattle.std.specs.List.{Contains}
use Rattle.std.specs.Ordering.{is_eq}
use Rattle.std.specs.Prelude.{◌==◌, All, IfSome}
use Rattle.std.proofs.lemmas.Bool.{and_from, cases_Bool, eq-eqb, eqb-true, ne_eqb}
use Rattle.std.proofs.lemmas.Cmp.{nat_cmp_total, on_total, then_total}
use Rattle.std.proofs.lemmas.List.{append_assoc, append-nil}
use Rattle.std.proofs.lemmas.List.Elements.{All-contains, Contains-append_right, Contains-push_cases}
use Rattle.std.proofs.lemmas.Map.Lookups.{CmpEqualImpliesEq}
use Rattle.std.proofs.lemmas.Map.Views.{IfSome-get}
use Rattle.rf_finite.proofs.Range.{None-ne_Some}
use Rattle.rf_values.specs.declared.truth.Truth.{Truth}
use Rattle.rf_values.specs.declared.truth.Truth.TheVariants.{Unknown}
use Rattle.rf_state.specs.Copies.{AreCopies, ArePut, IsRowPut}
use Rattle.rf_state.specs.Added.{Added, Key, added_at, key_cmp}
use Rattle.rf_state.specs.State.{copied_from, is_at}
use Rattle.rf_state.proofs.Keys.{IsPut, get-put, is_at-tied, same_key}

-- which objects the facts of b go to: b itself, and the fresh object n, where it stands for b
module _ (o n b y : ℕ) (apart : b ≡ n → ⊥) where
  to_two : b ≡ o → (copied_from o n y == b) ≡ (y == n || y == b)
  to_two same = elim (cases_Bool (y == n)) [
    | inl e ↦ ap (λ t. (if t then o else y) == b) e ∙ eq-eqb o b (sym same) ∙ sym (ap (λ t. t || y == b) e)
    | inr e ↦ ap (λ t. (if t then o else y) == b) e ∙ sym (ap (λ t. t || y == b) e)
  ]

  to_one : (b ≡ o → ⊥) → (copied_from o n y == b) ≡ (y == b)
  to_one other = elim (cases_Bool (y == n)) [
    | inl e ↦ ap (λ t. (if t then o else y) == b) e ∙ ne_eqb o b (λ f. other (sym f)) ∙ sym (ne_eqb y b (λ f. apart (sym f ∙ eqb-true y n e)))
    | inr e ↦ ap (λ t. (if t then o else y) == b) e
  ]

-- what passes one of two tests of the second end, or of the first
either_to : (s t u v : Bool) (w z : Option Truth) → (if s && (t && u) then w else if s && (t && v) then w else z) ≡ (if s && (t && (u || v)) then w else z)
either_to false t u v w z = refl
either_to true false u v w z = refl
either_to true true true v w z = refl
either_to true true false v w z = refl

either_from : (s t u v : Bool) (w z : Option Truth) → (if s && (u && t) then w else if s && (v && t) then w else z) ≡ (if s && ((u || v) && t) then w else z)
either_from false t u v w z = refl
either_from true t false v w z = refl
either_from true true true v w z = refl
either_from true false true true w z = refl
either_from true false true false w z = refl

module _ (old mid new : Added) (r a b o n : ℕ) (t : Truth) where
  pub IsRowPut-two : b ≡ o → (b ≡ n → ⊥) → IsPut old r a b (Some t) mid → IsPut mid r a n (Some t) new → IsRowPut old (r, a, b) t o n new
  IsRowPut-two same apart first second q x y =
      get-put mid new r a n q x y (Some t) second
      ∙ ap (λ w. if is_at r a n q x y then Some t else w) (get-put old mid r a b q x y (Some t) first)
      ∙ either_to (q == r) (x == a) (y == n) (y == b) (Some t) (get key_cmp old (q, x, y))
      ∙ ap (λ z. if q == r && (x == a && z) then Some t else get key_cmp old (q, x, y)) (sym (to_two o n b y apart same))

  pub IsRowPut-one : (b ≡ o → ⊥) → (b ≡ n → ⊥) → IsPut old r a b (Some t) mid → IsRowPut old (r, a, b) t o n mid
  IsRowPut-one other apart first q x y =
      get-put old mid r a b q x y (Some t) first
      ∙ ap (λ z. if q == r && (x == a && z) then Some t else get key_cmp old (q, x, y)) (sym (to_one o n b y apart other))

  pub ArePut-two : a ≡ o → (a ≡ n → ⊥) → IsRowPut old (r, a, b) t o n mid → IsRowPut mid (r, n, b) t o n new → ArePut old (r, a, b) t o n new
  ArePut-two same apart first second q x y =
      second q x y
      ∙ ap (λ w. if is_at r n b q x (copied_from o n y) then Some t else w) (first q x y)
      ∙ either_from (q == r) (copied_from o n y == b) (x == n) (x == a) (Some t) (get key_cmp old (q, x, y))
      ∙ ap (λ z. if q == r && (z && copied_from o n y == b) then Some t else get key_cmp old (q, x, y)) (sym (to_two o n a x apart same))

  pub ArePut-one : (a ≡ o → ⊥) → (a ≡ n → ⊥) → IsRowPut old (r, a, b) t o n mid → ArePut old (r, a, b) t o n mid
  ArePut-one other apart first q x y =
      first q x y
      ∙ ap (λ z. if q == r && (z && copied_from o n y == b) then Some t else get key_cmp old (q, x, y)) (sym (to_one o n a x apart other))

abbrev pub Entry : Type 0
Entry = Key × Truth

-- the new map has copies of these entries, and of nothing else
pub record AreCopied (old new : Added) (o n : ℕ) (es : List Entry) : Type 0 where
  pub sound : (q x y : ℕ) (t : Truth) → get key_cmp new (q, x, y) ≡ Some t → get key_cmp old (q, copied_from o n x, copied_from o n y) ≡ Some t
  pub complete : (e : Entry) → Contains es e → (x y : ℕ) → copied_from o n x ≡ e.0.1 → copied_from o n y ≡ e.0.2 → get key_cmp new (e.0.0, x, y) ≡ Some e.1

-- some entries are copied, and the rest is left
pub record IsCopying (old new : Added) (o n : ℕ) (rest : List Entry) : Type 0 where
  pub done : List Entry
  pub parts : done ++ rest ≡ old.entries
  pub copied : AreCopied old new o n done

-- none stands for the fresh object
copied_from-other : (o n x a : ℕ) → o < n → copied_from o n x ≡ a → a ≡ n → ⊥
copied_from-other o n x a below is same = elim (cases_Bool (x == n)) [
  | inl e ↦ (let h : o ≡ a = ap (λ t. if t then o else x) (sym e) ∙ is in absurd (omega arith))
  | inr e ↦ (let h : x ≡ a = ap (λ t. if t then o else x) (sym e) ∙ is in absurd (true≢false (sym (eq-eqb x n (h ∙ same)) ∙ e)))
]

-- a key is this one where its parts are
is_at-same : (r a b q x y : ℕ) → q ≡ r → x ≡ a → y ≡ b → is_at r a b q x y ≡ true
is_at-same r a b q x y e f g = and_from (q == r) (x == a && y == b) (eq-eqb q r e) (and_from (x == a) (y == b) (eq-eqb x a f) (eq-eqb y b g))

Some-same : (s t : Truth) → Some s ≡ Some t → s ≡ t
Some-same s t e = ap (λ o. unwrap_or o Unknown) e

module _ (old mid new : Added) (o n : ℕ) (es : List Entry) (e : Entry) where
  -- one entry more
  pub AreCopied-more : get key_cmp old e.0 ≡ Some e.1 → ArePut mid e.0 e.1 o n new → AreCopied old mid o n es → AreCopied old new o n (es ++ e ∷ [])
  AreCopied-more found put held = record { sound = sound; complete = complete }
    where
      at : ℕ → ℕ → ℕ → Bool
      at q x y = is_at e.0.0 e.0.1 e.0.2 q (copied_from o n x) (copied_from o n y)

      here : (q x y : ℕ) → at q x y ≡ true → get key_cmp old (q, copied_from o n x, copied_from o n y) ≡ Some e.1
      here q x y same = same_key (λ r a b. get key_cmp old (r, a, b)) e.0.0 e.0.1 e.0.2 q (copied_from o n x) (copied_from o n y) same ∙ found

      put-at : (q x y : ℕ) → at q x y ≡ true → get key_cmp new (q, x, y) ≡ Some e.1
      put-at q x y same = put q x y ∙ ap (λ t. if t then Some e.1 else get key_cmp mid (q, x, y)) same

      put-off : (q x y : ℕ) → at q x y ≡ false → get key_cmp new (q, x, y) ≡ get key_cmp mid (q, x, y)
      put-off q x y off = put q x y ∙ ap (λ t. if t then Some e.1 else get key_cmp mid (q, x, y)) off

      sound : (q x y : ℕ) (t : Truth) → get key_cmp new (q, x, y) ≡ Some t → get key_cmp old (q, copied_from o n x, copied_from o n y) ≡ Some t
      sound q x y t is = elim (cases_Bool (at q x y)) [
        | inl same ↦ here q x y same ∙ sym (put-at q x y same) ∙ is
        | inr off ↦ held.sound q x y t (sym (put-off q x y off) ∙ is)
      ]

      before : (f : Entry) → Contains es f → (x y : ℕ) → copied_from o n x ≡ f.0.1 → copied_from o n y ≡ f.0.2 → get key_cmp new (f.0.0, x, y) ≡ Some f.1
      before f there x y from to =
          let was = held.complete f there x y from to in
          elim (cases_Bool (at f.0.0 x y)) [
            | inl same ↦ put-at f.0.0 x y same ∙ sym (here f.0.0 x y same) ∙ held.sound f.0.0 x y f.1 was
            | inr off ↦ put-off f.0.0 x y off ∙ was
          ]

      complete : (f : Entry) → Contains (es ++ e ∷ []) f → (x y : ℕ) → copied_from o n x ≡ f.0.1 → copied_from o n y ≡ f.0.2 → get key_cmp new (f.0.0, x, y) ≡ Some f.1
      complete f there x y from to = elim (Contains-push_cases es e f there) [
        | inl was ↦ before f was x y from to
        | inr is ↦ put-at f.0.0 x y
            (is_at-same e.0.0 e.0.1 e.0.2 f.0.0 (copied_from o n x) (copied_from o n y) (ap (λ (g : Entry). g.0.0) (sym is))
            (from ∙ ap (λ (g : Entry). g.0.1) (sym is)) (to ∙ ap (λ (g : Entry). g.0.2) (sym is)))
            ∙ ap (λ (g : Entry). Some g.1) is
      ]

  -- one that names the fresh object isn't copied
  pub AreCopied-skip : o < n → (e.0.1 ≡ n) ⊎ (e.0.2 ≡ n) → AreCopied old mid o n es → AreCopied old mid o n (es ++ e ∷ [])
  AreCopied-skip below names held = record { sound = held.sound; complete = complete }
    where
      complete : (f : Entry) → Contains (es ++ e ∷ []) f → (x y : ℕ) → copied_from o n x ≡ f.0.1 → copied_from o n y ≡ f.0.2 → get key_cmp mid (f.0.0, x, y) ≡ Some f.1
      complete f there x y from to = elim (Contains-push_cases es e f there) [
        | inl was ↦ held.complete f was x y from to
        | inr is ↦ elim names [
          | inl h ↦ absurd (copied_from-other o n x f.0.1 below from (ap (λ (g : Entry). g.0.1) (sym is) ∙ h))
          | inr h ↦ absurd (copied_from-other o n y f.0.2 below to (ap (λ (g : Entry). g.0.2) (sym is) ∙ h))
        ]
      ]

-- none at first
pub IsCopying-none : (old new : Added) (o n : ℕ) (rest : List Entry) → rest ≡ old.entries → new.entries ≡ [] → IsCopying old new o n rest
IsCopying-none old new o n rest all empty = record {
  done = [];
  parts = all;
  copied = record {
    sound = λ q x y t is. absurd (None-not (q, x, y) t is);
    complete = λ e there. absurd (omega (arith, there.1));
  };
}
  where
    None-not : (k : Key) (t : Truth) → get key_cmp new k ≡ Some t → ⊥
    None-not k t is = None-ne_Some (sym (rw empty refl) ∙ is)

-- a map has the value of each of its entries
found : (old : Added) (done rest left : List Entry) (e : Entry) → rest ≡ e ∷ left → done ++ rest ≡ old.entries
    → All (λ f. get key_cmp old f.0 ≡ Some f.1) old.entries → get key_cmp old e.0 ≡ Some e.1
found old done rest left e first parts all =
    let here : Contains (e ∷ left) e = (0, omega arith, refl) in
    let there : Contains rest e = subst (λ es. Contains es e) (sym first) here in
    All-contains (λ f. get key_cmp old f.0 ≡ Some f.1) old.entries e all (subst (λ es. Contains es e) parts (Contains-append_right done rest e there))

-- one more at each turn, copied or not
pub IsCopying-more : (old mid new : Added) (o n : ℕ) (rest left : List Entry) (e : Entry) → rest ≡ e ∷ left
    → All (λ f. get key_cmp old f.0 ≡ Some f.1) old.entries → ArePut mid e.0 e.1 o n new → IsCopying old mid o n rest → IsCopying old new o n left
IsCopying-more old mid new o n rest left e first all put held = record {
  done = held.done ++ e ∷ [];
  parts = append_assoc held.done (e ∷ []) left ∙ ap (λ l. held.done ++ l) (sym first) ∙ held.parts;
  copied = AreCopied-more old mid new o n held.done e (found old held.done rest left e first held.parts all) put held.copied;
}

pub IsCopying-skip : (old mid : Added) (o n : ℕ) (rest left : List Entry) (e : Entry) → rest ≡ e ∷ left → o < n → (e.0.1 ≡ n) ⊎ (e.0.2 ≡ n)
    → IsCopying old mid o n rest → IsCopying old mid o n left
IsCopying-skip old mid o n rest left e first below names held = record {
  done = held.done ++ e ∷ [];
  parts = append_assoc held.done (e ∷ []) left ∙ ap (λ l. held.done ++ l) (sym first) ∙ held.parts;
  copied = AreCopied-skip old mid mid o n held.done e below names held.copied;
}

-- keys are ordered, and two that are equal in the order are the same
key_cmp-total : IsTotalOrder key_cmp
key_cmp-total = then_total (then_total (on_total (λ k. k.0) nat_cmp_total) (on_total (λ k. k.1) nat_cmp_total)) (on_total (λ k. k.2) nat_cmp_total)

key_cmp-exact : CmpEqualImpliesEq key_cmp
key_cmp-exact k l e = sym (same_key (λ r a b. (r, a, b)) k.0 k.1 k.2 l.0 l.1 l.2 (sym (is_at-tied k.0 k.1 k.2 l.0 l.1 l.2) ∙ ap is_eq e))

-- all in the end
pub AreCopies-all : (old new : Added) (o n : ℕ) (rest : List Entry) → rest ≡ [] → IsCopying old new o n rest → AreCopies old o n new
AreCopies-all old new o n rest none held r x y = go (get key_cmp new (r, x, y)) (get key_cmp old (r, copied_from o n x, copied_from o n y)) refl refl
  where
    whole : held.done ≡ old.entries
    whole = sym (append-nil held.done) ∙ ap (λ (l : List Entry). held.done ++ l) (sym none) ∙ held.parts

    go : (a b : Option Truth) → get key_cmp new (r, x, y) ≡ a → get key_cmp old (r, copied_from o n x, copied_from o n y) ≡ b → added_at new r x y ≡ added_at old r (copied_from o n x) (copied_from o n y)
    go (Some t) b is was = ap (λ o. unwrap_or o Unknown) (is ∙ sym (held.copied.sound r x y t is))
    go None None is was = ap (λ o. unwrap_or o Unknown) (is ∙ sym was)
    go None (Some t) is was =
        let key : Key = (r, copied_from o n x, copied_from o n y) in
        let there : Contains old.entries (key, t) = subst (λ a. IfSome a (λ v. Contains old.entries (key, v))) was (IfSome-get key_cmp-total key_cmp-exact old key) in
        absurd (None-ne_Some (sym is ∙ held.copied.complete (key, t) (subst (λ es. Contains es (key, t)) (sym whole) there) x y refl refl))
