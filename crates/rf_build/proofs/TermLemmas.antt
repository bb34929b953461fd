-- The terms of arguments and the variables after them, one argument more at a time.
use Rattle.std.proofs.Common.{◌≡◌, ◌<◌, ◌≤◌, ◌+◌, ◌∙◌, ℕ, suc, Bool, not, List, [], ◌∷◌, ◌++◌, filter, length, take, drop, get_or, arith, refl, sym, ap, inl, inr}
use Rattle.std.proofs.lemmas.Bool.{cases_Bool}
use Rattle.std.proofs.lemmas.Grind.{common_steps}
use Rattle.std.proofs.lemmas.List.{take-append-drop, take_more}
use Rattle.std.proofs.lemmas.List.Elements.{filter-append}
use Rattle.rf_syntax.specs.declared.name.Name.{Name}
use Rattle.rf_syntax.specs.declared.predicate.Param.{Param}
use Rattle.rf_names.specs.Bodies.{term_of, terms_of, with_argument, with_variables}
use Rattle.rf_names.specs.Declarations.{Declared, is_atom_argument}
use Rattle.rf_build.specs.Arguments.{with_arguments}
use Rattle.rf_names.proofs.VariableLemmas.{with_variable-longer, with_variables-append, with_variables-longer}

module _ (d : Declared) (params : List Param) where
  abbrev is_atom : Name → Bool
  is_atom n = is_atom_argument d.atoms params n

  -- the variables after a first argument and the others
  pub with_arguments-step : (known : List Name) (n : Name) (ns : List Name) →
      with_arguments d params known (n ∷ ns) ≡ with_arguments d params (with_argument d params known n) ns
  with_arguments-step known n ns = elim (cases_Bool (is_atom n)) [
    | inl e ↦ rw e refl
    | inr e ↦ rw e refl
  ]

  pub with_arguments-append : (known xs ys : List Name) →
      with_arguments d params known (xs ++ ys) ≡ with_arguments d params (with_arguments d params known xs) ys
  with_arguments-append known xs ys =
      ap (with_variables known) (filter-append (λ n. not (is_atom n)) xs ys)
      ∙ with_variables-append known (filter (λ n. not (is_atom n)) xs) (filter (λ n. not (is_atom n)) ys)

  pub with_argument-longer : (known : List Name) (n : Name) → length known ≤ length (with_argument d params known n)
  with_argument-longer known n = elim (cases_Bool (is_atom n)) [
    | inl e ↦ rw e (omega arith)
    | inr e ↦ rw e (with_variable-longer known n)
  ]

  pub with_arguments-longer : (known ns : List Name) → length known ≤ length (with_arguments d params known ns)
  with_arguments-longer known ns = with_variables-longer known (filter (λ n. not (is_atom n)) ns)

  terms_of-append : (known xs ys : List Name) →
      terms_of d params known (xs ++ ys) ≡ terms_of d params known xs ++ terms_of d params (with_arguments d params known xs) ys
  terms_of-append known [] ys = refl
  terms_of-append known (x ∷ xs) ys =
      let after : List Name = with_argument d params known x in
      ap (λ ts. term_of d params known x ∷ ts)
      (terms_of-append after xs ys
      ∙ ap (λ vs. terms_of d params after xs ++ terms_of d params vs ys) (sym (with_arguments-step known x xs)))

  -- there is a term for each argument
  pub length-terms_of : (known ns : List Name) → length (terms_of d params known ns) ≡ length ns
  length-terms_of known [] = refl
  length-terms_of known (n ∷ ns) = ap suc (length-terms_of (with_argument d params known n) ns)

-- one argument more
pub with_arguments_more :
    (d : Declared) (params : List Param) (known names : List Name) (i : ℕ) (name : Name) → i < length names → name ≡ get_or names i name →
    with_arguments d params known (take (i + 1) names) ≡ with_argument d params (with_arguments d params known (take i names)) name
with_arguments_more d params known names i name below is =
    let before : List Name = with_arguments d params known (take i names) in
    ap (with_arguments d params known) (take_more names i name below)
    ∙ with_arguments-append d params known (take i names) (get_or names i name ∷ [])
    ∙ with_arguments-step d params before (get_or names i name) []
    ∙ ap (with_argument d params before) (sym is)

pub terms_more :
    (d : Declared) (params : List Param) (known names : List Name) (i : ℕ) (name : Name) → i < length names → name ≡ get_or names i name →
    terms_of d params known (take (i + 1) names)
    ≡ terms_of d params known (take i names) ++ term_of d params (with_arguments d params known (take i names)) name ∷ []
terms_more d params known names i name below is =
    ap (terms_of d params known) (take_more names i name below)
    ∙ terms_of-append d params known (take i names) (get_or names i name ∷ [])
    ∙ ap (λ n. terms_of d params known (take i names) ++ term_of d params (with_arguments d params known (take i names)) n ∷ []) (sym is)

-- there are no more variables after some of the arguments than after all
with_arguments_part : (d : Declared) (params : List Param) (known names : List Name) (i : ℕ) →
    length (with_arguments d params known (take i names)) ≤ length (with_arguments d params known names)
with_arguments_part d params known names i =
    let before : List Name = with_arguments d params known (take i names) in
    let more = with_arguments-longer d params before (drop i names) in
    let all : with_arguments d params known names ≡ with_arguments d params before (drop i names) =
    ap (with_arguments d params known) (sym (take-append-drop i names))
    ∙ with_arguments-append d params known (take i names) (drop i names) in
    rw all more

pub with_arguments_few :
    (d : Declared) (params : List Param) (known names : List Name) (i : ℕ) (name : Name) (limit : ℕ) → i < length names →
    name ≡ get_or names i name → length (with_arguments d params known names) ≤ limit →
    length (with_argument d params (with_arguments d params known (take i names)) name) ≤ limit
with_arguments_few d params known names i name limit below is few =
    let part = with_arguments_part d params known names (i + 1) in
    let more = ap length (with_arguments_more d params known names i name below is) in
    omega arith

-- what a loop over arguments needs
pub ruleset term_steps = (common_steps, with_arguments_more, terms_more, with_arguments_few)

-- two arguments
pub two_arguments : (d : Declared) (params : List Param) (known : List Name) (a b : Name) →
    with_arguments d params known (a ∷ b ∷ []) ≡ with_argument d params (with_argument d params known a) b
two_arguments d params known a b =
    with_arguments-step d params known a (b ∷ []) ∙ with_arguments-step d params (with_argument d params known a) b []

-- the first leaves room
pub one_is_few : (d : Declared) (params : List Param) (known : List Name) (a b : Name) (limit : ℕ) →
    length (with_arguments d params known (a ∷ b ∷ [])) ≤ limit → length (with_argument d params known a) ≤ limit
one_is_few d params known a b limit few =
    let both = ap length (two_arguments d params known a b) in
    let long = with_argument-longer d params (with_argument d params known a) b in
    omega arith

pub ruleset side_steps = (common_steps, two_arguments, one_is_few)
