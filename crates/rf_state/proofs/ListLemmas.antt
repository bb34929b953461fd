-- Lists of objects with one more, and clones of them.
use Rattle.std.proofs.Common.{◌≡◌, ◌∙◌, ℕ, Bool, true, false, ◌&&◌, ◌||◌, ◌==◌, ◌<◌, cond, eqb, get_or, Option, None, Some, [], ◌∷◌, ◌++◌, Result, Ok, Err, refl, sym, ap, inl, inr}
use Rattle.std.specs.BTreeMap.{get, IsClone}
use Rattle.std.specs.Cmp.{both_tied, unsigned_ties}
use Rattle.std.specs.List.{list_any}
use Rattle.std.specs.Option.{option_cmp, option_eq, IsSomeAnd, MatchOption}
use Rattle.std.specs.Ordering.{is_eq, nat_cmp}
use Rattle.std.specs.Prelude.{All, nat_eq, OnErr, Vec}
use Rattle.std.specs.declared.alloc.Global.{Global}
use Rattle.std.proofs.lemmas.Bool.{and_parts, cases_Bool, eq-eqb, eqb-true}
use Rattle.std.proofs.lemmas.List.Folds.{list_any-append, list_any_at}
use Rattle.std.proofs.lemmas.Map.Entries.{lookup_clone}
use Rattle.rf_state.specs.Lists.{AreBelow, AreSameLists, End, IsListedToo, Lists, end_cmp, is_end, is_listed, items_of, listed_at}

pub on_err-always : {T E P : Type 0} (r : Result T E) → P → OnErr r P
on_err-always (Ok x) p = tt
on_err-always (Err e) p = p

-- ends are tied where they are the same
option-tied : (x y : Option ℕ) → option_eq nat_eq x y ≡ is_eq (option_cmp nat_cmp x y)
option-tied None None = refl
option-tied None (Some y) = refl
option-tied (Some x) None = refl
option-tied (Some x) (Some y) = unsigned_ties x y

is_end-tied : (a b : End) → is_end a b ≡ is_eq (end_cmp a b)
is_end-tied a b = both_tied _ _ _ _ (unsigned_ties a.0 b.0) (option-tied a.1 b.1)

pub option-same : (x y : Option ℕ) → option_eq nat_eq x y ≡ true → x ≡ y
option-same None None e = refl
option-same None (Some y) e = cc
option-same (Some x) None e = cc
option-same (Some x) (Some y) e = ap Some (eqb-true x y e)

pub end-same : (a b : End) → is_end a b ≡ true → a ≡ b
end-same a b e =
    let parts = and_parts (eqb a.0 b.0) (option_eq nat_eq a.1 b.1) e in
    let first = eqb-true a.0 b.0 parts.0 in
    let second = option-same a.1 b.1 parts.1 in
    λ i. (first i, second i)

or_false : (c : Bool) → (c || false) ≡ c
or_false true = refl
or_false false = refl

-- where an end's list is one with an object more
module _ (old new : Lists) (a : End) (b : ℕ) (v : Vec ℕ Global) (put : (q : End) → get end_cmp new q ≡ cond (is_eq (end_cmp a q)) (Some v) (get end_cmp old q)) where
  listed-here : (q : End) → is_end a q ≡ true → listed_at new q ≡ v.items
  listed-here q e = ap items_of (put q ∙ ap (λ (t : Bool). cond t (Some v) (get end_cmp old q)) (sym (is_end-tied a q) ∙ e))

  listed-elsewhere : (q : End) → is_end a q ≡ false → listed_at new q ≡ listed_at old q
  listed-elsewhere q e = ap items_of (put q ∙ ap (λ (t : Bool). cond t (Some v) (get end_cmp old q)) (sym (is_end-tied a q) ∙ e))

  pub IsListedToo-from_put : v.items ≡ listed_at old a ++ b ∷ [] → IsListedToo old a b new
  IsListedToo-from_put items r x c = elim (cases_Bool (is_end a (r, x))) [
    | inl e ↦ (let here = listed-here (r, x) e in let same = end-same a (r, x) e in
        ap (list_any (λ y. y == c)) (here ∙ items ∙ ap (λ (q : End). listed_at old q ++ b ∷ []) same)
        ∙ list_any-append (λ y. y == c) (listed_at old (r, x)) (b ∷ [])
        ∙ ap (λ (t : Bool). is_listed old r x c || t) (or_false (b == c))
        ∙ sym (ap (λ (t : Bool). is_listed old r x c || (t && b == c)) e))
    | inr e ↦ ap (list_any (λ y. y == c)) (listed-elsewhere (r, x) e)
        ∙ sym (or_false (is_listed old r x c))
        ∙ sym (ap (λ (t : Bool). is_listed old r x c || (t && b == c)) e)
  ]

  pub AreSameLists-from_put : v.items ≡ listed_at old a → AreSameLists old new
  AreSameLists-from_put items r x c = elim (cases_Bool (is_end a (r, x))) [
    | inl e ↦ ap (list_any (λ y. y == c)) (listed-here (r, x) e ∙ items ∙ ap (listed_at old) (end-same a (r, x) e))
    | inr e ↦ ap (list_any (λ y. y == c)) (listed-elsewhere (r, x) e)
  ]

-- clones list the same objects
module _ (C : End → End → Type 0) (D : Vec ℕ Global → Vec ℕ Global → Type 0) (keys : (x y : End) → C x y → y ≡ x)
    (values : (v w : Vec ℕ Global) → D v w → w.items ≡ v.items) where
  items-same : (a b : Option (Vec ℕ Global)) → MatchOption a (b ≡ None) (λ v. IsSomeAnd b (D v)) → items_of b ≡ items_of a
  items-same None b h = ap items_of h
  items-same (Some v) None h = absurd h
  items-same (Some v) (Some w) h = values v w h

  pub AreSameLists-from_clone : (old new : Lists) → IsClone C D old new → AreSameLists old new
  AreSameLists-from_clone old new clone r x c = ap (list_any (λ y. y == c))
      (items-same (get end_cmp old (r, x)) (get end_cmp new (r, x))
      (lookup_clone C D (λ k. is_eq (end_cmp (r, x) k)) (λ k l h. ap (λ (e : End). is_eq (end_cmp (r, x) e)) (keys k l h)) old.entries new.entries clone))

-- all that is listed is below n
pub All-listed : (n : ℕ) (lists : Lists) (r : ℕ) (x : Option ℕ) → AreBelow n lists → All (λ b. b < n) (listed_at lists (r, x))
All-listed n lists r x below k d l =
    let b = get_or (listed_at lists (r, x)) k d in
    below r x b (list_any_at (λ y. y == b) (listed_at lists (r, x)) k d l (eq-eqb b b refl))
