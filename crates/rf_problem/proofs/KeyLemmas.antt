-- Keys of the table of what is heard.
use Rattle.std.proofs.Common.{rules, ◌≡◌, ◌∙◌, ℕ, zero, suc, ◌≤◌, Bool, true, ◌&&◌, Option, Some, None, List, [], ◌∷◌, length, map, refl, sym, ap, ap₂, arith, true≢false}
use Rattle.std.specs.Prelude.{nat_eq, slice_get}
use Rattle.std.specs.Cmp.{both_tied, unsigned_ties}
use Rattle.std.specs.Cmp.Lexicographic.{lists_ties}
use Rattle.std.specs.Option.{option_eq}
use Rattle.std.specs.Ordering.{is_eq, nat_cmp}
use Rattle.std.proofs.lemmas.Bool.{and_parts, eqb-true}
use lib.Pointwise.{pointwise}
use Rattle.rf_problem.specs.Parts.{same_symbol, symbol_cmp}
use Rattle.rf_problem.specs.Spoken.{same_args}
use Rattle.rf_problem.specs.Keys.{is_key, key_cmp, key_of, object_of, place_cmp, place_of, same_place}
use Rattle.rf_problem.specs.declared.key.Place.{Place}
use Rattle.rf_problem.specs.declared.key.Place.TheVariants.{Absent, Star, Object}
use Rattle.rf_problem.specs.declared.symbol.Symbol.{Symbol}
use Rattle.rf_problem.specs.declared.symbol.Symbol.TheVariants.{Class, Reference, Predicate as Defined, Exists, Equals}
use Rattle.rf_problem.specs.declared.key.Key.{Key}

-- symbols are tied where they are the same
pub symbol-tied : (a b : Symbol) → same_symbol a b ≡ is_eq (symbol_cmp a b)
symbol-tied (Class a) (Class b) = unsigned_ties a b
symbol-tied (Class a) (Reference b) = refl
symbol-tied (Class a) (Defined b) = refl
symbol-tied (Class a) Exists = refl
symbol-tied (Class a) Equals = refl
symbol-tied (Reference a) (Class b) = refl
symbol-tied (Reference a) (Reference b) = unsigned_ties a b
symbol-tied (Reference a) (Defined b) = refl
symbol-tied (Reference a) Exists = refl
symbol-tied (Reference a) Equals = refl
symbol-tied (Defined a) (Class b) = refl
symbol-tied (Defined a) (Reference b) = refl
symbol-tied (Defined a) (Defined b) = unsigned_ties a b
symbol-tied (Defined a) Exists = refl
symbol-tied (Defined a) Equals = refl
symbol-tied Exists (Class b) = refl
symbol-tied Exists (Reference b) = refl
symbol-tied Exists (Defined b) = refl
symbol-tied Exists Exists = refl
symbol-tied Exists Equals = refl
symbol-tied Equals (Class b) = refl
symbol-tied Equals (Reference b) = refl
symbol-tied Equals (Defined b) = refl
symbol-tied Equals Exists = refl
symbol-tied Equals Equals = refl

place-tied : (a b : Place) → same_place a b ≡ is_eq (place_cmp a b)
place-tied Absent Absent = refl
place-tied Absent Star = refl
place-tied Absent Object = refl
place-tied Star Absent = refl
place-tied Star Star = refl
place-tied Star Object = refl
place-tied Object Absent = refl
place-tied Object Star = refl
place-tied Object Object = refl

-- keys are tied where they are the same
pub is_key-tied : (k q : Key) → is_key k q ≡ is_eq (key_cmp k q)
is_key-tied k q = both_tied (pointwise nat_eq k.objects q.objects) (same_symbol k.symbol q.symbol && pointwise same_place k.places q.places) _ _
    (lists_ties nat_cmp unsigned_ties k.objects q.objects)
    (both_tied (same_symbol k.symbol q.symbol) (pointwise same_place k.places q.places) _ _ (symbol-tied k.symbol q.symbol)
    (lists_ties place_cmp place-tied k.places q.places))

abbrev same_slot : Option (Option ℕ) → Option (Option ℕ) → Bool
same_slot = option_eq (option_eq nat_eq)

-- what stands at two places is the same where its kind and its object are
slot-parts : (a b : Option (Option ℕ)) → (same_place (place_of a) (place_of b) && nat_eq (object_of a) (object_of b)) ≡ same_slot a b
slot-parts None None = refl
slot-parts None (Some None) = refl
slot-parts None (Some (Some b)) = refl
slot-parts (Some None) None = refl
slot-parts (Some None) (Some None) = refl
slot-parts (Some None) (Some (Some b)) = refl
slot-parts (Some (Some a)) None = refl
slot-parts (Some (Some a)) (Some None) = refl
slot-parts (Some (Some a)) (Some (Some b)) = refl

slots-parts : (xs ys : List (Option (Option ℕ))) →
    (pointwise nat_eq (map object_of xs) (map object_of ys) && pointwise same_place (map place_of xs) (map place_of ys)) ≡ pointwise same_slot xs ys
slots-parts [] [] = refl
slots-parts [] (y ∷ ys) = refl
slots-parts (x ∷ xs) [] = refl
slots-parts (x ∷ xs) (y ∷ ys) =
    crossed (nat_eq (object_of x) (object_of y)) (pointwise nat_eq (map object_of xs) (map object_of ys))
    (same_place (place_of x) (place_of y)) (pointwise same_place (map place_of xs) (map place_of ys))
    ∙ ap₂ (λ (b c : Bool). b && c) (slot-parts x y) (slots-parts xs ys)
  where
    crossed : (a b c d : Bool) → ((a && b) && (c && d)) ≡ ((c && a) && (b && d))
    crossed a b c d = search rules

-- what stands at each of so many places
abbrev slots : ℕ → List (Option ℕ) → List (Option (Option ℕ))
slots zero xs = []
slots (suc n) [] = None ∷ slots n []
slots (suc n) (x ∷ xs) = Some x ∷ slots n xs

no_slots : (n : ℕ) → pointwise same_slot (slots n []) (slots n []) ≡ true
no_slots zero = refl
no_slots (suc n) = no_slots n

-- so many places tell lists of that length at most
same_slots : (n : ℕ) (xs ys : List (Option ℕ)) → length xs ≤ n → length ys ≤ n → pointwise same_slot (slots n xs) (slots n ys) ≡ same_args xs ys
same_slots zero [] [] l m = refl
same_slots zero (x ∷ xs) ys l m = absurd (omega arith)
same_slots zero [] (y ∷ ys) l m = absurd (omega arith)
same_slots (suc n) [] [] l m = no_slots n
same_slots (suc n) [] (y ∷ ys) l m = refl
same_slots (suc n) (x ∷ xs) [] l m = refl
same_slots (suc n) (x ∷ xs) (y ∷ ys) l m = ap (λ b. option_eq nat_eq x y && b) (same_slots n xs ys (omega arith) (omega arith))

-- what stands at each of four places
abbrev first_four : List (Option ℕ) → List (Option (Option ℕ))
first_four xs = slice_get xs 0 ∷ slice_get xs 1 ∷ slice_get xs 2 ∷ slice_get xs 3 ∷ []

slots-four : (xs : List (Option ℕ)) → first_four xs ≡ slots 4 xs
slots-four [] = refl
slots-four (a ∷ []) = refl
slots-four (a ∷ b ∷ []) = refl
slots-four (a ∷ b ∷ c ∷ []) = refl
slots-four (a ∷ b ∷ c ∷ d ∷ xs) = refl

-- keys are the same where symbols and arguments are
pub is_key-of : (s t : Symbol) (xs ys : List (Option ℕ)) → length xs ≤ 4 → length ys ≤ 4 →
    is_key (key_of s xs) (key_of t ys) ≡ (same_symbol s t && same_args xs ys)
is_key-of s t xs ys l m =
    swapped (pointwise nat_eq (map object_of (first_four xs)) (map object_of (first_four ys))) (same_symbol s t)
    (pointwise same_place (map place_of (first_four xs)) (map place_of (first_four ys)))
    ∙ ap (λ b. same_symbol s t && b)
    (slots-parts (first_four xs) (first_four ys) ∙ ap₂ (pointwise same_slot) (slots-four xs) (slots-four ys) ∙ same_slots 4 xs ys l m)
  where
    swapped : (a b c : Bool) → (a && (b && c)) ≡ (b && (a && c))
    swapped a b c = search rules

-- what is told to be the same is
pub same_symbol-same : (a b : Symbol) → same_symbol a b ≡ true → a ≡ b
same_symbol-same (Class a) (Class b) e = ap Class (eqb-true a b e)
same_symbol-same (Class a) (Reference b) e = absurd (true≢false (sym e))
same_symbol-same (Class a) (Defined b) e = absurd (true≢false (sym e))
same_symbol-same (Class a) Exists e = absurd (true≢false (sym e))
same_symbol-same (Class a) Equals e = absurd (true≢false (sym e))
same_symbol-same (Reference a) (Class b) e = absurd (true≢false (sym e))
same_symbol-same (Reference a) (Reference b) e = ap Reference (eqb-true a b e)
same_symbol-same (Reference a) (Defined b) e = absurd (true≢false (sym e))
same_symbol-same (Reference a) Exists e = absurd (true≢false (sym e))
same_symbol-same (Reference a) Equals e = absurd (true≢false (sym e))
same_symbol-same (Defined a) (Class b) e = absurd (true≢false (sym e))
same_symbol-same (Defined a) (Reference b) e = absurd (true≢false (sym e))
same_symbol-same (Defined a) (Defined b) e = ap Defined (eqb-true a b e)
same_symbol-same (Defined a) Exists e = absurd (true≢false (sym e))
same_symbol-same (Defined a) Equals e = absurd (true≢false (sym e))
same_symbol-same Exists (Class b) e = absurd (true≢false (sym e))
same_symbol-same Exists (Reference b) e = absurd (true≢false (sym e))
same_symbol-same Exists (Defined b) e = absurd (true≢false (sym e))
same_symbol-same Exists Exists e = refl
same_symbol-same Exists Equals e = absurd (true≢false (sym e))
same_symbol-same Equals (Class b) e = absurd (true≢false (sym e))
same_symbol-same Equals (Reference b) e = absurd (true≢false (sym e))
same_symbol-same Equals (Defined b) e = absurd (true≢false (sym e))
same_symbol-same Equals Exists e = absurd (true≢false (sym e))
same_symbol-same Equals Equals e = refl

same_arg-same : (a b : Option ℕ) → option_eq nat_eq a b ≡ true → a ≡ b
same_arg-same None None e = refl
same_arg-same None (Some b) e = absurd (true≢false (sym e))
same_arg-same (Some a) None e = absurd (true≢false (sym e))
same_arg-same (Some a) (Some b) e = ap Some (eqb-true a b e)

pub same_args-same : (xs ys : List (Option ℕ)) → same_args xs ys ≡ true → xs ≡ ys
same_args-same [] [] e = refl
same_args-same [] (y ∷ ys) e = absurd (true≢false (sym e))
same_args-same (x ∷ xs) [] e = absurd (true≢false (sym e))
same_args-same (x ∷ xs) (y ∷ ys) e =
    let parts = and_parts (option_eq nat_eq x y) (same_args xs ys) e in
    ap₂ (λ (z : Option ℕ) (zs : List (Option ℕ)). z ∷ zs) (same_arg-same x y parts.0) (same_args-same xs ys parts.1)
