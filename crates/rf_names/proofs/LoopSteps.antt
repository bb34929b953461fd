-- Steps of loops that gather: what the first i items gave, and what one more gives.
use Rattle.std.proofs.Common.{◌≡◌, ◌∙◌, ℕ, ◌+◌, ◌<◌, Bool, true, false, List, [], ◌∷◌, ◌++◌, length, take, get_or, map, filter, sym, ap, arith, append-nil, append_assoc}
use Rattle.std.specs.List.{flat_map}
use Rattle.std.proofs.lemmas.Grind.{common_steps}
use Rattle.std.proofs.lemmas.List.{map-append, take_more}
use denote.Ref.{Bor}
use Rattle.std.proofs.lemmas.List.Concat.{flat_map-append}
use Rattle.std.proofs.lemmas.List.Elements.{filter-append}

taken_more : {X : Type 0} (xs : List X) (i : ℕ) (d x : X) → i < length xs → x ≡ get_or xs i d → take (i + 1) xs ≡ take i xs ++ x ∷ []
taken_more xs i d x within is = take_more xs i d within ∙ ap (λ y. take i xs ++ y ∷ []) (sym is)

pub flat_map_snoc : {X Y : Type 0} (f : X → List Y) (xs : List X) (x : X) → flat_map f (xs ++ x ∷ []) ≡ flat_map f xs ++ f x
flat_map_snoc f xs x = flat_map-append f xs (x ∷ []) ∙ ap (λ ys. flat_map f xs ++ ys) (append-nil (f x))

-- lists, joined
pub flat_more :
    {X Y : Type 0} (f : X → List Y) (before out more : List Y) (xs : List X) (i : ℕ) (x : X) → i < length xs → x ≡ get_or xs i x →
    out ≡ before ++ flat_map f (take i xs) → more ≡ out ++ f x → more ≡ before ++ flat_map f (take (i + 1) xs)
flat_more f before out more xs i x within is so_far pushed =
    pushed ∙ ap (λ o. o ++ f x) so_far ∙ append_assoc before (flat_map f (take i xs)) (f x)
    ∙ ap (λ ys. before ++ ys) (sym (ap (flat_map f) (taken_more xs i x x within is) ∙ flat_map_snoc f (take i xs) x))

kept-append : {Y : Type 0} (p : Y → Bool) (ys : List Y) (y : Y) → p y ≡ true → filter p (ys ++ y ∷ []) ≡ filter p ys ++ y ∷ []
kept-append p ys y passes = grind (arith, common_steps, filter-append)

left-append : {Y : Type 0} (p : Y → Bool) (ys : List Y) (y : Y) → p y ≡ false → filter p (ys ++ y ∷ []) ≡ filter p ys
left-append p ys y fails = grind (arith, common_steps, filter-append)

-- the items that pass, one of which is next
pub kept_more :
    {Y : Type 0} (p : Y → Bool) (before out more ys : List Y) (i : ℕ) (d y : Y) → i < length ys → y ≡ get_or ys i d →
    out ≡ before ++ filter p (take i ys) → p y ≡ true → more ≡ out ++ y ∷ [] → more ≡ before ++ filter p (take (i + 1) ys)
kept_more p before out more ys i d y within is so_far passes pushed =
    pushed ∙ ap (λ o. o ++ y ∷ []) so_far ∙ append_assoc before (filter p (take i ys)) (y ∷ [])
    ∙ ap (λ zs. before ++ zs) (sym (ap (filter p) (taken_more ys i d y within is) ∙ kept-append p (take i ys) y passes))

-- the next item doesn't pass
pub left_more :
    {Y : Type 0} (p : Y → Bool) (before out ys : List Y) (i : ℕ) (d y : Y) → i < length ys → y ≡ get_or ys i d →
    out ≡ before ++ filter p (take i ys) → p y ≡ false → out ≡ before ++ filter p (take (i + 1) ys)
left_more p before out ys i d y within is so_far fails =
    so_far ∙ ap (λ zs. before ++ zs) (sym (ap (filter p) (taken_more ys i d y within is) ∙ left-append p (take i ys) y fails))

-- the same of items that are lent
pub kept_lent :
    {Y : Type 0} (p : Y → Bool) (before : List Y) (out more lent : List (Bor Y)) (i : ℕ) (y : Bor Y) → i < length lent → y ≡ get_or lent i y →
    map (λ x. x.now) out ≡ before ++ filter p (map (λ x. x.now) (take i lent)) → p y.now ≡ true → more ≡ out ++ y ∷ [] →
    map (λ x. x.now) more ≡ before ++ filter p (map (λ x. x.now) (take (i + 1) lent))
kept_lent {Y} p before out more lent i y within is so_far passes pushed =
    let now : Bor Y → Y = λ x. x.now in
    ap (map now) pushed ∙ map-append now out (y ∷ []) ∙ ap (λ o. o ++ y.now ∷ []) so_far ∙ append_assoc before (filter p (map now (take i lent))) (y.now ∷ [])
    ∙ ap (λ zs. before ++ zs)
    (sym (ap (λ zs. filter p (map now zs)) (taken_more lent i y y within is) ∙ ap (filter p) (map-append now (take i lent) (y ∷ [])) ∙ kept-append p (map now (take i lent)) y.now passes))

pub left_lent :
    {Y : Type 0} (p : Y → Bool) (before : List Y) (out lent : List (Bor Y)) (i : ℕ) (y : Bor Y) → i < length lent → y ≡ get_or lent i y →
    map (λ x. x.now) out ≡ before ++ filter p (map (λ x. x.now) (take i lent)) → p y.now ≡ false →
    map (λ x. x.now) out ≡ before ++ filter p (map (λ x. x.now) (take (i + 1) lent))
left_lent {Y} p before out lent i y within is so_far fails =
    let now : Bor Y → Y = λ x. x.now in
    so_far
    ∙ ap (λ zs. before ++ zs)
    (sym (ap (λ zs. filter p (map now zs)) (taken_more lent i y y within is) ∙ ap (filter p) (map-append now (take i lent) (y ∷ [])) ∙ left-append p (map now (take i lent)) y.now fails))
