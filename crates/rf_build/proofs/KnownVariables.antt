-- Variables that are known and variables that are new.
use Rattle.std.proofs.Common.{◌≡◌, ◌<◌, ◌+◌, ℕ, Bool, true, false, List, [], ◌∷◌, ◌++◌, length, map, Option, None, Some, refl, ap, inl, inr}
use Rattle.std.specs.Prelude.{if◌then◌else◌, nat_lt, not, position}
use Rattle.std.specs.List.{list_any, position_or_len}
use Rattle.std.proofs.lemmas.Bool.{and_parts, both_ways, cases_Bool, lt-ltb}
use Rattle.std.proofs.lemmas.Grind.{common_steps}
use Rattle.std.proofs.lemmas.List.{length-map}
use Rattle.std.proofs.lemmas.List.Folds.{list_any_at}
use Rattle.std.proofs.lemmas.List.Quantifiers.{position-Some}
use Rattle.rf_syntax.specs.declared.name.Name.{Name}
use Rattle.rf_names.specs.Bodies.{is_variable_of, variable_number, with_variable}
use Rattle.rf_names.specs.Texts.{is_blank, reads}
use Rattle.rf_names.proofs.VariableLemmas.{position_or_len-within, variable_number-below}

position_or_len-map : {X Y : Type 0} (p : Y → Bool) (f : X → Y) (xs : List X) →
    position_or_len p (map f xs) ≡ position_or_len (λ x. p (f x)) xs
position_or_len-map p f [] = refl
position_or_len-map p f (x ∷ xs) =
    let rest = position_or_len-map p f xs in
    elim (cases_Bool (p (f x))) [ inl e ↦ rw e refl | inr e ↦ rw e (ap (λ n. 1 + n) rest) ]

-- the first position is that of the item that the found one was made of
pub position_of_made : {X Y : Type 0} (p : Y → Bool) (f : X → Y) (xs : List X) →
    position p (map f xs) ≡ position (λ x. p (f x)) xs
position_of_made p f xs =
    let place = position_or_len-map p f xs in
    let long = length-map xs f in
    rw (place, long) refl

-- no first position, so no item passes
any-none : {X : Type 0} (p : X → Bool) (xs : List X) → position p xs ≡ None → list_any p xs ≡ false
any-none p xs e = elim (cases_Bool (list_any p xs)) [
  | inl some ↦ (let within : nat_lt (position_or_len p xs) (length xs) ≡ true =
      lt-ltb (position_or_len p xs) (length xs) (position_or_len-within p xs some) in
      let there : Some (position_or_len p xs) ≡ None = rw within at e in
      let never : ⊥ = cc in absurd never)
  | inr none ↦ none
]

pub any-some : {X : Type 0} (p : X → Bool) (xs : List X) (n : ℕ) → position p xs ≡ Some n →
    list_any p xs ≡ true
any-some p [] n e = let never : ⊥ = cc in absurd never
any-some p (x ∷ xs) n e =
    let found = position-Some p (x ∷ xs) n x e in list_any_at p (x ∷ xs) n x found.0 found.1

position-none : {X : Type 0} (p : X → Bool) (xs : List X) → list_any p xs ≡ false → position p xs
    ≡ None
position-none p xs none = elim (cases_Bool (nat_lt (position_or_len p xs) (length xs))) [
  | inl within ↦ (let there : position p xs ≡ Some (position_or_len p xs) = rw within refl in
      absurd (both_ways (list_any p xs) none (any-some p xs (position_or_len p xs) there)))
  | inr past ↦ rw past refl
]

-- the number of the known variable that a name stands for
abbrev pub known_position : List Name → Name → Option ℕ
known_position known name = if is_variable_of known name then position (reads name.text) known
    else None

pub plain_position : (known : List Name) (name : Name) → is_blank name ≡ false →
    position (reads name.text) known ≡ known_position known name
plain_position known name plain = elim (cases_Bool (list_any (reads name.text) known)) [
  | inl some ↦ rw (plain, some) refl
  | inr none ↦ rw (plain, none) (position-none (reads name.text) known none)
]

pub blank_position : (known : List Name) (name : Name) → is_blank name ≡ true →
    None ≡ known_position known name
blank_position known name blank = rw blank refl

pub ruleset found_steps = (common_steps, plain_position, blank_position)

-- a name without such a number is a new variable
is_new : (known : List Name) (name : Name) → known_position known name ≡ None →
    is_variable_of known name ≡ false
is_new known name e = elim (cases_Bool (is_variable_of known name)) [
  | inl old ↦ (let parts = and_parts (not (is_blank name)) (list_any (reads name.text) known) old in
      let gone : position (reads name.text) known ≡ None = rw old at e in
      absurd (both_ways (list_any (reads name.text) known) (any-none (reads name.text) known gone)
      parts.1))
  | inr new ↦ new
]

pub new_number : (known : List Name) (name : Name) → known_position known name ≡ None →
    variable_number known name ≡ length known
new_number known name e = let new = is_new known name e in rw new refl

pub new_joins : (known : List Name) (name : Name) → known_position known name ≡ None →
    with_variable known name ≡ known ++ name ∷ []
new_joins known name e = let new = is_new known name e in rw new refl

pub number_is_below : (known : List Name) (name : Name) →
    variable_number known name < length (with_variable known name)
number_is_below known name = variable_number-below known name

pub ruleset number_steps = (common_steps, new_number, new_joins, number_is_below)
