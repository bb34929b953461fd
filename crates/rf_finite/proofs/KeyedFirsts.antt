-- The first of values that are ordered by keys, number by number, found by searches through numbers one in another.
use Rattle.std.proofs.Common.{◌≡◌, ◌↔◌, ◌⊎◌, ℕ, zero, suc, ◌≤◌, ◌<◌, Bool, true, false, Option, Some, None, List, [], ◌∷◌, ◌++◌, nat_cmp, Less, Greater, refl, sym, ap, ◌∙◌, subst, inl, inr, arith, true≢false, append_assoc, append-nil, lt-ltb}
use Rattle.std.specs.Bool.{then_some}
use Rattle.std.specs.Option.{option_or}
use Rattle.std.specs.Cmp.Lexicographic.{slice_cmp}
use Rattle.std.specs.Ordering.{on, ordering_reverse, ordering_then}
use Rattle.std.proofs.lemmas.Bool.{cases_order}
use Rattle.std.proofs.lemmas.Cmp.{nat_cmp_total, nat_list_cmp_total, tied_itself}
use Rattle.std.proofs.lemmas.List.Elements.{All-cons, All-head, All-nil, All-tail}
use Rattle.std.proofs.lemmas.Option.{same_Some}
use Rattle.rf_finite.specs.Firsts.{IsFirstOf}
use Rattle.rf_finite.specs.Range.{first_below}
use Rattle.rf_finite.specs.Tuples.{IsTuple, first_tuple}
use Rattle.rf_finite.proofs.Range.{IsFirstValue-from_first_below, None-ne_Some, each-from_first_below}

-- a key that goes on with a smaller number comes before
slice_cmp-less : (prefix : List ℕ) (j k : ℕ) (a b : List ℕ) → j < k → slice_cmp nat_cmp (prefix ++ j ∷ a) (prefix ++ k ∷ b) ≡ Less
slice_cmp-less [] j k a b l = (let less : nat_cmp j k ≡ Less = rw (lt-ltb j k l) refl in ap (λ o. ordering_then o (slice_cmp nat_cmp a b)) less)
slice_cmp-less (x ∷ prefix) j k a b l =
    ap (λ o. ordering_then o (slice_cmp nat_cmp (prefix ++ j ∷ a) (prefix ++ k ∷ b))) (tied_itself nat_cmp_total x) ∙ slice_cmp-less prefix j k a b l

-- of two keys not each comes before the other
slice_cmp-not_both : (a b : List ℕ) → slice_cmp nat_cmp a b ≡ Less → slice_cmp nat_cmp b a ≡ Less → ⊥
slice_cmp-not_both a b first second =
    let turned : slice_cmp nat_cmp a b ≡ ordering_reverse (slice_cmp nat_cmp b a) = nat_list_cmp_total.antisymm a b in
    let greater : ordering_reverse (slice_cmp nat_cmp b a) ≡ Greater = ap ordering_reverse second in
    let same : Less ≡ Greater = sym first ∙ (turned ∙ greater) in cc

-- a key that begins so
abbrev pub HasPrefix : List ℕ → List ℕ → Type 0
HasPrefix prefix key = (rest : List ℕ) × (key ≡ prefix ++ rest)

-- a key that begins so and goes on with a number from m on
abbrev pub From : List ℕ → ℕ → List ℕ → Type 0
From prefix m key = (k : ℕ) × (m ≤ k) × HasPrefix (prefix ++ k ∷ []) key

HasPrefix-cons : (prefix : List ℕ) (k : ℕ) (key : List ℕ) → HasPrefix (prefix ++ k ∷ []) key → (rest : List ℕ) × (key ≡ prefix ++ k ∷ rest)
HasPrefix-cons prefix k key b = (b.0, b.1 ∙ append_assoc prefix (k ∷ []) b.0)

less-from_prefix : (prefix : List ℕ) (j k : ℕ) (a b : List ℕ) → j < k → HasPrefix (prefix ++ j ∷ []) a → HasPrefix (prefix ++ k ∷ []) b → slice_cmp nat_cmp a b ≡ Less
less-from_prefix prefix j k a b l first second =
    let c = HasPrefix-cons prefix j a first in
    let d = HasPrefix-cons prefix k b second in
    rw (c.1, d.1) (slice_cmp-less prefix j k c.0 d.0 l)

-- of the values of P, whose keys are such, o is the first
pub record IsKeyedFirst {X : Type 0} (key : X → List ℕ) (Key : List ℕ → Type 0) (P : X → Type 0) (o : Option X) : Type 0 where
  pub keyed : (x : X) → P x → Key (key x)
  pub none : o ≡ None → (x : X) → P x → ⊥
  pub some : (x : X) → o ≡ Some x → P x
  pub least : (x : X) → o ≡ Some x → (y : X) → P y → (y ≡ x) ⊎ (slice_cmp nat_cmp (key x) (key y) ≡ Less)

-- this value, where the test passes
abbrev pub IsThis : {X : Type 0} → X → Bool → X → Type 0
IsThis this test x = (x ≡ this) × (test ≡ true)

-- the values of some number below n
abbrev pub SomeBelow : {X : Type 0} → ℕ → (ℕ → X → Type 0) → X → Type 0
SomeBelow n P x = (k : ℕ) × (k < n) × P k x

-- the values at some tuple that goes on from t by k numbers below n
pub record SomeTuple {X : Type 0} (n k : ℕ) (t : List ℕ) (P : List ℕ → X → Type 0) (x : X) : Type 0 where
  pub rest : List ℕ
  pub tuple : IsTuple n k rest
  pub there : P (t ++ rest) x

module _ {X : Type 0} (key : X → List ℕ) where
  -- the same values have the same first one
  pub IsKeyedFirst-same : (Key : List ℕ → Type 0) (P Q : X → Type 0) (o : Option X) → IsKeyedFirst key Key P o
      → ((x : X) → P x → Q x) → ((x : X) → Q x → P x) → IsKeyedFirst key Key Q o
  IsKeyedFirst-same Key P Q o f to from = record {
    keyed = λ x q. f.keyed x (from x q);
    none = λ e x q. f.none e x (from x q);
    some = λ x e. to x (f.some x e);
    least = λ x e y q. f.least x e y (from y q);
  }

  -- there is no first of no values
  pub IsKeyedFirst-none : (Key : List ℕ → Type 0) (P : X → Type 0) (o : Option X) → IsKeyedFirst key Key P o → ((x : X) → P x → ⊥) → o ≡ None
  IsKeyedFirst-none Key P None f empty = refl
  IsKeyedFirst-none Key P (Some x) f empty = absurd (empty x (f.some x refl))

  -- it is the first in the order of the keys, and no other is
  pub IsFirstOf-from_IsKeyedFirst : (Key : List ℕ → Type 0) (P : X → Type 0) (o : Option X) → IsKeyedFirst key Key P o → IsFirstOf (on key (slice_cmp nat_cmp)) P o
  IsFirstOf-from_IsKeyedFirst Key P None f = f.none refl
  IsFirstOf-from_IsKeyedFirst Key P (Some x) f = record {
    passes = f.some x refl;
    first = λ y less p. elim (f.least x refl y p) [
      | inl same ↦ (let itself = subst (λ z. slice_cmp nat_cmp (key z) (key x) ≡ Less) same less in slice_cmp-not_both (key x) (key x) itself itself)
      | inr more ↦ slice_cmp-not_both (key x) (key y) more less
    ];
  }

  same-from_IsKeyedFirst : (Key : List ℕ → Type 0) (P : X → Type 0) (o q : Option X) → IsKeyedFirst key Key P o → IsFirstOf (on key (slice_cmp nat_cmp)) P q → o ≡ q
  same-from_IsKeyedFirst Key P o None f h = IsKeyedFirst-none Key P o f h
  same-from_IsKeyedFirst Key P None (Some y) f h = absurd (f.none refl y h.passes)
  same-from_IsKeyedFirst Key P (Some x) (Some y) f h = elim (f.least x refl y h.passes) [
    | inl same ↦ ap (λ z. Some z) (sym same)
    | inr less ↦ absurd (h.first x less (f.some x refl))
  ]

  -- so what is found is the first, exactly
  pub found_is_first : (Key : List ℕ → Type 0) (P : X → Type 0) (o : Option X) → IsKeyedFirst key Key P o → (q : Option X) → (o ≡ q) ↔ IsFirstOf (on key (slice_cmp nat_cmp)) P q
  found_is_first Key P o f q = (
    λ e. subst (IsFirstOf (on key (slice_cmp nat_cmp)) P) e (IsFirstOf-from_IsKeyedFirst Key P o f),
    same-from_IsKeyedFirst Key P o q f,
  )

  -- one value, where the test passes
  pub IsKeyedFirst-one : (this : X) (test : Bool) (prefix : List ℕ) → key this ≡ prefix → IsKeyedFirst key (HasPrefix prefix) (IsThis this test) (then_some test this)
  IsKeyedFirst-one this true prefix e = record {
    keyed = λ x s. ([], ap key s.0 ∙ (e ∙ sym (append-nil prefix)));
    none = λ n x s. None-ne_Some (sym n);
    some = λ x s. (sym (same_Some this x s), refl);
    least = λ x s y t. inl (t.0 ∙ same_Some this x s);
  }
  IsKeyedFirst-one this false prefix e = record {
    keyed = λ x s. absurd (true≢false (sym s.1));
    none = λ n x s. true≢false (sym s.1);
    some = λ x s. absurd (None-ne_Some s);
    least = λ x s y t. absurd (None-ne_Some s);
  }

  -- the first at the first number that has one
  pub IsKeyedFirst-below : (prefix : List ℕ) (n : ℕ) (f : ℕ → Option X) (P : ℕ → X → Type 0)
      → ((k : ℕ) → k < n → IsKeyedFirst key (HasPrefix (prefix ++ k ∷ [])) (P k) (f k)) → IsKeyedFirst key (HasPrefix prefix) (SomeBelow n P) (first_below n f)
  IsKeyedFirst-below prefix n f P each = record {
    keyed = λ x s. (let at = HasPrefix-cons prefix s.0 (key x) ((each s.0 s.1).keyed x s.2) in (s.0 ∷ at.0, at.1));
    none = λ e x s. (each s.0 s.1).none (each-from_first_below n f e s.0 s.1) x s.2;
    some = λ x e. (let r = IsFirstValue-from_first_below n f x e in (r.0, r.1, (each r.0 r.1).some x r.2));
    least = λ x e y s. (let r = IsFirstValue-from_first_below n f x e in
        elim (cases_order s.0 r.0) [
          | inl same ↦ (each r.0 r.1).least x r.2 y (subst (λ k. P k y) same s.2)
          | inr apart ↦ elim apart [
            | inl before ↦ absurd ((each s.0 s.1).none (r.3 s.0 before) y s.2)
            | inr after ↦ inr (less-from_prefix prefix r.0 s.0 (key x) (key y) after ((each r.0 r.1).keyed x ((each r.0 r.1).some x r.2)) ((each s.0 s.1).keyed y s.2))
          ]
        ]);
  }

  -- the first of those at one number, else of those at greater ones
  pub IsKeyedFirst-or : (prefix : List ℕ) (m : ℕ) (P Q : X → Type 0) (a b : Option X) → IsKeyedFirst key (HasPrefix (prefix ++ m ∷ [])) P a
      → IsKeyedFirst key (From prefix (suc m)) Q b → IsKeyedFirst key (From prefix m) (λ x. P x ⊎ Q x) (option_or a b)
  IsKeyedFirst-or prefix m P Q None b first rest = record {
    keyed = λ x s. elim s [ inl s ↦ (m, omega arith, first.keyed x s) | inr s ↦ (let at = rest.keyed x s in let l = at.1 in (at.0, omega arith, at.2)) ];
    none = λ e x s. elim s [ inl s ↦ first.none refl x s | inr s ↦ rest.none e x s ];
    some = λ x e. inr (rest.some x e);
    least = λ x e y s. elim s [ inl s ↦ absurd (first.none refl y s) | inr s ↦ rest.least x e y s ];
  }
  IsKeyedFirst-or prefix m P Q (Some u) b first rest = record {
    keyed = λ x s. elim s [ inl s ↦ (m, omega arith, first.keyed x s) | inr s ↦ (let at = rest.keyed x s in let l = at.1 in (at.0, omega arith, at.2)) ];
    none = λ e x s. None-ne_Some (sym e);
    some = λ x e. inl (first.some x e);
    least = λ x e y s. elim s [
      | inl s ↦ first.least x e y s
      | inr s ↦ (let at = rest.keyed y s in let l = at.1 in inr (less-from_prefix prefix m at.0 (key x) (key y) (omega arith) (first.keyed x (first.some x e)) at.2))
    ];
  }

  -- the last of such a row
  pub IsKeyedFirst-last : (prefix : List ℕ) (m : ℕ) (P : X → Type 0) (o : Option X) → IsKeyedFirst key (HasPrefix (prefix ++ m ∷ [])) P o → IsKeyedFirst key (From prefix m) P o
  IsKeyedFirst-last prefix m P o f = record {
    keyed = λ x s. (m, omega arith, f.keyed x s);
    none = f.none;
    some = f.some;
    least = f.least;
  }

  -- and the row is at the key where it begins
  pub IsKeyedFirst-row : (prefix : List ℕ) (m : ℕ) (P : X → Type 0) (o : Option X) → IsKeyedFirst key (From prefix m) P o → IsKeyedFirst key (HasPrefix prefix) P o
  IsKeyedFirst-row prefix m P o f = record {
    keyed = λ x s. (let at = f.keyed x s in let rest = HasPrefix-cons prefix at.0 (key x) at.2 in (at.0 ∷ rest.0, rest.1));
    none = f.none;
    some = f.some;
    least = f.least;
  }

  -- the first at the first tuple that has one
  pub IsKeyedFirst-tuple : (prefix : List ℕ) (n : ℕ) (f : List ℕ → Option X) (P : List ℕ → X → Type 0)
      → ((t : List ℕ) → IsKeyedFirst key (HasPrefix (prefix ++ t)) (P t) (f t))
      → (k : ℕ) (t : List ℕ) → IsKeyedFirst key (HasPrefix (prefix ++ t)) (SomeTuple n k t P) (first_tuple n k t f)
  IsKeyedFirst-tuple prefix n f P each zero t = IsKeyedFirst-same (HasPrefix (prefix ++ t)) (P t) (SomeTuple n zero t P) (f t) (each t)
      (λ x s. record { rest = []; tuple = record { many = refl; below = All-nil (λ y. y < n) }; there = subst (λ u. P u x) (sym (append-nil t)) s })
      (λ x s. alone x s.rest s.tuple s.there)
    where
      alone : (x : X) (rest : List ℕ) → IsTuple n zero rest → P (t ++ rest) x → P t x
      alone x [] h s = subst (λ u. P u x) (append-nil t) s
      alone x (y ∷ rest) h s = absurd (let e = h.many in omega arith)
  IsKeyedFirst-tuple prefix n f P each (suc k) t =
      IsKeyedFirst-same (HasPrefix (prefix ++ t)) (SomeBelow n (λ y. SomeTuple n k (t ++ y ∷ []) P)) (SomeTuple n (suc k) t P) (first_tuple n (suc k) t f)
      (IsKeyedFirst-below (prefix ++ t) n (λ y. first_tuple n k (t ++ y ∷ []) f) (λ y. SomeTuple n k (t ++ y ∷ []) P)
      (λ y l. subst (λ at. IsKeyedFirst key (HasPrefix at) (SomeTuple n k (t ++ y ∷ []) P) (first_tuple n k (t ++ y ∷ []) f)) (sym (append_assoc prefix t (y ∷ [])))
      (IsKeyedFirst-tuple prefix n f P each k (t ++ y ∷ []))))
      (λ x s. let h = s.2.tuple in record {
        rest = s.0 ∷ s.2.rest;
        tuple = record { many = ap (λ m. suc m) h.many; below = All-cons (λ y. y < n) s.0 s.2.rest s.1 h.below };
        there = subst (λ u. P u x) (append_assoc t (s.0 ∷ []) s.2.rest) s.2.there;
      })
      (λ x s. split x s.rest s.tuple s.there)
    where
      split : (x : X) (rest : List ℕ) → IsTuple n (suc k) rest → P (t ++ rest) x → SomeBelow n (λ y. SomeTuple n k (t ++ y ∷ []) P) x
      split x [] h s = absurd (let e = h.many in omega arith)
      split x (y ∷ rest) h s = (
        y,
        All-head (λ z. z < n) y rest h.below,
        record {
          rest = rest;
          tuple = record { many = (let e = h.many in omega arith); below = All-tail (λ z. z < n) y rest h.below };
          there = subst (λ u. P u x) (sym (append_assoc t (y ∷ []) rest)) s;
        },
      )
