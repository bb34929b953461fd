-- The variables of a clause and their numbers.
use Rattle.std.proofs.Common.{◌≡◌, ◌≤◌, ◌<◌, Bool, true, false, not, List, [], ◌∷◌, ◌++◌, length, refl, sym, inl, inr, arith, true≢false}
use Rattle.std.specs.Prelude.{nat_lt, position}
use Rattle.std.specs.List.{list_any, position_or_len}
use Rattle.std.specs.Option.{is_none}
use Rattle.std.proofs.lemmas.Bool.{and_parts, both_ways, cases_Bool, lt-ltb, ltb-true, or_cases}
use Rattle.std.proofs.lemmas.List.{length-append}
use Rattle.rf_syntax.specs.declared.name.Name.{Name}
use Rattle.rf_names.specs.Bodies.{is_variable_of, variable_number, with_variable, with_variables}
use Rattle.rf_names.specs.LookUp.{the_number}
use Rattle.rf_names.specs.Texts.{is_blank, reads}

-- where some item passes, the first such position is in the list
pub position_or_len-within : {X : Type 0} (p : X → Bool) (xs : List X) → list_any p xs ≡ true → position_or_len p xs < length xs
position_or_len-within p [] h = absurd (true≢false (sym h))
position_or_len-within p (x ∷ xs) h = elim (cases_Bool (p x)) [
  | inl e ↦ rw e (omega arith)
  | inr e ↦ elim (or_cases (p x) (list_any p xs) h) [
    | inl here ↦ absurd (both_ways (p x) e here)
    | inr later ↦ (let rest = position_or_len-within p xs later in rw e (omega arith))
  ]
]

pub position-there : {X : Type 0} (p : X → Bool) (xs : List X) → list_any p xs ≡ true → the_number (position p xs) < length xs
position-there p xs h =
    let less = position_or_len-within p xs h in
    let within : nat_lt (position_or_len p xs) (length xs) ≡ true = lt-ltb (position_or_len p xs) (length xs) less in
    rw within less

-- a position that is there is in the list
pub position-some : {X : Type 0} (p : X → Bool) (xs : List X) → is_none (position p xs) ≡ false → the_number (position p xs) < length xs
position-some p xs h = elim (cases_Bool (nat_lt (position_or_len p xs) (length xs))) [
  | inl within ↦ rw within (ltb-true (position_or_len p xs) (length xs) within)
  | inr past ↦ absurd (true≢false (rw past at h))
]

-- the variables grow
pub with_variable-longer : (known : List Name) (name : Name) → length known ≤ length (with_variable known name)
with_variable-longer known name = elim (cases_Bool (is_variable_of known name)) [
  | inl e ↦ rw e (omega arith)
  | inr e ↦ rw e (let long = length-append known (name ∷ []) in omega arith)
]

pub with_variables-longer : (known names : List Name) → length known ≤ length (with_variables known names)
with_variables-longer known [] = omega arith
with_variables-longer known (n ∷ ns) =
    let one = with_variable-longer known n in let more = with_variables-longer (with_variable known n) ns in omega arith

pub with_variables-append : (known xs ys : List Name) → with_variables known (xs ++ ys) ≡ with_variables (with_variables known xs) ys
with_variables-append known [] ys = refl
with_variables-append known (x ∷ xs) ys = with_variables-append (with_variable known x) xs ys

-- a name's number is that of a variable after it
pub variable_number-below : (known : List Name) (name : Name) → variable_number known name < length (with_variable known name)
variable_number-below known name = elim (cases_Bool (is_variable_of known name)) [
  | inl e ↦ rw e (position-there (reads name.text) known (and_parts (not (is_blank name)) (list_any (reads name.text) known) e).1)
  | inr e ↦ rw e (let long = length-append known (name ∷ []) in omega arith)
]
