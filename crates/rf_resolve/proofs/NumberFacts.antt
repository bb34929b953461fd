-- The numbers that names stand for are there.
use Rattle.std.proofs.Common.{◌≡◌, ℕ, suc, ◌+◌, ◌≤◌, ◌<◌, Bool, true, false, List, [], ◌∷◌, length, All, Option, Some, None, is_none, position, refl, sym, ap, inl, inr, arith, true≢false}
use Rattle.std.specs.Prelude.{◌==◌, ◌&&◌}
use Rattle.std.proofs.lemmas.Bool.{cases_Bool, eqb-true}
use Rattle.std.proofs.lemmas.List.Elements.{All-cons, All-nil}
use Rattle.std.proofs.lemmas.List.Quantifiers.{position-Some}
use Rattle.rf_names.specs.LookUp.{class_named, extends_somehow, inherited_members, members_of_some, numbers_where, own_members, own_or_inherited, the_number}
use Rattle.rf_names.specs.Texts.{reads}
use Rattle.rf_names.specs.Declarations.{Declared}
use Rattle.rf_structure_rules.specs.StructureOffsets.{is_same_number}

-- a number that isn't missing
pub some_number : (o : Option ℕ) → is_none o ≡ false → o ≡ Some (the_number o)
some_number None e = absurd (true≢false e)
some_number (Some n) e = refl

-- the position of an element lies in the list, and the element passes
pub position_below : {X : Type 0} (p : X → Bool) (xs : List X) (i : ℕ) → position p xs ≡ Some i → i < length xs
position_below p [] i e = let never : ⊥ = cc in absurd never
position_below p (x ∷ xs) i e = (position-Some p (x ∷ xs) i x e).0

pub position_none_below : {X : Type 0} (p : X → Bool) (xs : List X) → is_none (position p xs) ≡ false →
    the_number (position p xs) < length xs
position_none_below p xs e = position_below p xs (the_number (position p xs)) (some_number (position p xs) e)

pub class_below : (d : Declared) (text : List ℕ) → is_none (class_named d text) ≡ false →
    the_number (class_named d text) < length d.classes
class_below d text e = position_none_below (λ c. reads text c.name) d.classes e

-- the numbers of the elements that pass lie in the list
numbers_from : {X : Type 0} (p : X → Bool) (n m : ℕ) (xs : List X) → n + length xs ≤ m →
    All (λ k. k < m) (numbers_where n p xs)
numbers_from p n m [] l = All-nil (λ k. k < m)
numbers_from p n m (x ∷ xs) l = elim (cases_Bool (p x)) [
  | inl e ↦ rw e (All-cons (λ k. k < m) n (numbers_where (suc n) p xs) (omega arith) (numbers_from p (suc n) m xs (omega arith)))
  | inr e ↦ rw e (numbers_from p (suc n) m xs (omega arith))
]

pub numbers_where_below : {X : Type 0} (p : X → Bool) (xs : List X) → All (λ k. k < length xs) (numbers_where 0 p xs)
numbers_where_below p xs = numbers_from p 0 (length xs) xs (omega arith)

-- two numbers that are the same
pub same_numbers : (a b : Option ℕ) → is_same_number a b ≡ true → (a ≡ b) × (a ≡ Some (the_number a))
same_numbers None None e = absurd (true≢false (sym e))
same_numbers None (Some b) e = absurd (true≢false (sym e))
same_numbers (Some a) None e = absurd (true≢false (sym e))
same_numbers (Some a) (Some b) e = (ap Some (eqb-true a b e), refl)

-- the references that a member's name stands for are there
own_or_inherited_below : (m : ℕ) (own inherited : List ℕ) → All (λ k. k < m) own → All (λ k. k < m) inherited →
    All (λ k. k < m) (own_or_inherited own inherited)
own_or_inherited_below m [] inherited one other = other
own_or_inherited_below m (r ∷ rs) inherited one other = one

pub members_below : (d : Declared) (c : Option ℕ) (text : List ℕ) →
    All (λ k. k < length d.references) (members_of_some d c text)
members_below d None text = All-nil (λ k. k < length d.references)
members_below d (Some c) text = own_or_inherited_below (length d.references) (own_members d c text) (inherited_members d c text)
    (numbers_where_below (λ r. (r.source == c) && reads text r.feature.name) d.references)
    (numbers_where_below (λ r. extends_somehow d c r.source && reads text r.feature.name) d.references)
