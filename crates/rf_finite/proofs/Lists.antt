-- Lemmas on tests over lists.
use Rattle.std.proofs.Common.{◌≡◌, ℕ, suc, ◌+◌, ◌≤◌, ◌<◌, Bool, true, false, ◌||◌, List, [], ◌∷◌, Contains, length, get_or, take, drop, refl, sym, ap, ◌∙◌, inl, inr, arith, true≢false, add-one, drop-cons}
use Rattle.std.proofs.lemmas.Bool.{and_parts, or_cases, or_left, or_right, cases_Bool, both_ways}
use Rattle.std.proofs.lemmas.List.{length-take-le}
use Rattle.std.proofs.lemmas.List.Folds.{Any-from_list_any, list_any-from_Any, list_any_more}
use Rattle.std.proofs.lemmas.List.Sums.{count_by-le-length}
use Rattle.std.specs.List.{list_any, list_all}
use Rattle.std.specs.Prelude.{count_by, filter}

module _ {X : Type 0} where
  -- where an element passes, one that does can be named
  pub one-from_list_any : (p : X → Bool) (xs : List X) → list_any p xs ≡ true → (x : X) × Contains xs x × (p x ≡ true)
  one-from_list_any p xs h = let r = Any-from_list_any p xs h in (r.1, (r.0, r.2, r.3), r.4)

  -- and where one that passes can be named, some does
  pub list_any-from_one : (p : X → Bool) (xs : List X) (x : X) → Contains xs x → p x ≡ true → list_any p xs ≡ true
  list_any-from_one p xs x c h = list_any-from_Any p xs (c.0, x, c.1, c.2, h)

  -- where all pass one test and some passes another, one passes both
  pub both-from_all_any : (p q : X → Bool) (xs : List X) → list_all p xs ≡ true → list_any q xs ≡ true → (x : X) × (p x ≡ true) × (q x ≡ true)
  both-from_all_any p q [] all any = absurd (true≢false (sym any))
  both-from_all_any p q (x ∷ xs) all any =
      let parts = and_parts (p x) (list_all p xs) all in
      elim (or_cases (q x) (list_any q xs) any) [
        | inl e ↦ (x, parts.0, e)
        | inr e ↦ both-from_all_any p q xs parts.1 e
      ]

  -- where more elements pass, some element passes as well
  pub list_any-more_pass : (p q : X → Bool) (xs : List X) → ((x : X) → p x ≡ true → q x ≡ true) → list_any p xs ≡ true → list_any q xs ≡ true
  list_any-more_pass p q [] h any = any
  list_any-more_pass p q (x ∷ xs) h any = elim (or_cases (p x) (list_any p xs) any) [
    | inl e ↦ or_left (q x) (list_any q xs) (h x e)
    | inr e ↦ or_right (q x) (list_any q xs) (list_any-more_pass p q xs h e)
  ]

  -- a filter that keeps each element that passes keeps whether one does
  pub list_any-filter : (p q : X → Bool) (xs : List X) → ((x : X) → q x ≡ true → p x ≡ true) → list_any q xs ≡ true → list_any q (filter p xs) ≡ true
  list_any-filter p q [] h any = any
  list_any-filter p q (x ∷ xs) h any = elim (cases_Bool (p x)) [
    | inl e ↦ rw e (elim (or_cases (q x) (list_any q xs) any) [
      | inl here ↦ or_left (q x) (list_any q (filter p xs)) here
      | inr rest ↦ or_right (q x) (list_any q (filter p xs)) (list_any-filter p q xs h rest)
    ])
    | inr e ↦ rw e (elim (or_cases (q x) (list_any q xs) any) [
      | inl here ↦ absurd (both_ways (p x) e (h x here))
      | inr rest ↦ list_any-filter p q xs h rest
    ])
  ]

  -- a loop that keeps whether some element passed tries one element more
  pub list_any-more : (p : X → Bool) (xs : List X) (i : ℕ) (d : X) (found now : Bool) → i < length xs → found ≡ list_any p (take i xs)
      → (found ≡ true → now ≡ true) → (found ≡ false → now ≡ p (get_or xs i d)) → now ≡ list_any p (take (i + 1) xs)
  list_any-more p xs i d true now l e there here = rw (list_any_more p xs i d l, ← e) (there refl)
  list_any-more p xs i d false now l e there here = rw (list_any_more p xs i d l, ← e) (here refl)

  -- a loop over what is left of a list ends at an element that passes
  pub list_any-here : (p : X → Bool) (xs : List X) (i : ℕ) (x : X) → i < length xs → list_any p (drop i xs) ≡ list_any p xs → x ≡ get_or xs i x → p x ≡ true
      → true ≡ list_any p xs
  list_any-here p xs i x l e at h =
      sym (sym e ∙ (ap (list_any p) (drop-cons xs i x l) ∙ or_left (p (get_or xs i x)) (list_any p (drop (suc i) xs)) (ap p (sym at) ∙ h)))

  -- and goes on after one that fails
  pub list_any-next : (p : X → Bool) (xs : List X) (i : ℕ) (x : X) → i < length xs → list_any p (drop i xs) ≡ list_any p xs → x ≡ get_or xs i x → p x ≡ false
      → list_any p (drop (i + 1) xs) ≡ list_any p xs
  list_any-next p xs i x l e at h =
      rw add-one (sym (sym e ∙ (ap (list_any p) (drop-cons xs i x l) ∙ without_first (p (get_or xs i x)) (list_any p (drop (suc i) xs)) (ap p (sym at) ∙ h))))
    where
      without_first : (a b : Bool) → a ≡ false → (a || b) ≡ b
      without_first true b q = absurd (true≢false q)
      without_first false b q = refl

-- at most as many elements pass as were looked at
pub count_by-take_le : {X : Type 0} (p : X → Bool) (xs : List X) (i : ℕ) → i ≤ length xs → count_by p (take i xs) ≤ i
count_by-take_le p xs i l = let few = count_by-le-length p (take i xs) in let short = length-take-le i xs l in omega arith
