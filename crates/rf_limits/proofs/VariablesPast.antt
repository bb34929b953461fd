-- Variables in lists of names, and the first of them past a limit.
use Rattle.std.proofs.Common.{◌≡◌, ◌<◌, ◌≤◌, ◌+◌, ◌∙◌, ◌||◌, ℕ, zero, suc, Bool, true, false, List, [], ◌∷◌, ◌++◌, length, map, drop, get_or, arith, refl, sym, ap, length-append}
use Rattle.std.specs.List.{list_any}
use Rattle.std.proofs.lemmas.List.Folds.{list_any_at}
use Rattle.std.specs.Prelude.{if◌then◌else◌}
use Rattle.std.proofs.lemmas.List.{drop_all, drop_more, length-map}
use Rattle.rf_syntax.specs.declared.name.Name.{Name}
use Rattle.rf_syntax.specs.declared.predicate.Param.{Param}
use Rattle.rf_names.specs.Bodies.{is_variable_of, with_variable, with_variables}
use Rattle.rf_names.specs.Declarations.{param_names}
use Rattle.rf_limits.specs.Limits.{first_past}
use denote.Ref.{Bor}

abbrev pub past : ℕ → List Name → List ℕ
past limit names = first_past limit (λ name. name) names

past_front : (limit : ℕ) (xs ys : List Name) → limit < length xs → past limit (xs ++ ys) ≡ past limit xs
past_front zero [] ys below = absurd (omega arith)
past_front zero (x ∷ xs) ys below = refl
past_front (suc n) [] ys below = absurd (omega arith)
past_front (suc n) (x ∷ xs) ys below = past_front n xs ys (omega arith)

past_one : (limit : ℕ) (known : List Name) (name : Name) (b : Bool) → limit < length known → past limit (if b then known else known ++ name ∷ []) ≡ past limit known
past_one limit known name true below = refl
past_one limit known name false below = past_front limit known (name ∷ []) below

still_longer : (limit : ℕ) (known : List Name) (name : Name) (b : Bool) → limit < length known → limit < length (if b then known else known ++ name ∷ [])
still_longer limit known name true below = below
still_longer limit known name false below = omega (arith, length-append known (name ∷ []))

-- more names don't change the first variable past a limit that is passed
pub passed : (limit : ℕ) (known names : List Name) → limit < length known → past limit (with_variables known names) ≡ past limit known
passed limit known [] below = refl
passed limit known (n ∷ ns) below =
    passed limit (with_variable known n) ns (still_longer limit known n (is_variable_of known n) below)
    ∙ past_one limit known n (is_variable_of known n) below

past_map : (limit : ℕ) (params : List Param) → past limit (param_names params) ≡ first_past limit (λ p. p.name) params
past_map zero [] = refl
past_map zero (p ∷ ps) = refl
past_map (suc n) [] = refl
past_map (suc n) (p ∷ ps) = past_map n ps

pub passed_by_params : (limit : ℕ) (params : List Param) (names : List Name) → limit < length params → past limit (with_variables (param_names params) names) ≡ first_past limit (λ p. p.name) params
passed_by_params limit params names below =
    passed limit (param_names params) names (let e = length-map params (λ (p : Param). p.name) in omega arith)
    ∙ past_map limit params

-- a loop's step over names, and its end
pub variables_more :
    (known more : List Name) (xs : List (Bor Name)) (i : ℕ) (x : Bor Name) (all : List Name) → i < length xs → x ≡ get_or xs i x → more ≡ with_variable known x.now →
    with_variables known (map (λ (n : Bor Name). n.now) (drop i xs)) ≡ all → with_variables more (map (λ (n : Bor Name). n.now) (drop (i + 1) xs)) ≡ all
variables_more known more xs i x all below is added before =
    ap (λ ns. with_variables ns (map (λ (n : Bor Name). n.now) (drop (i + 1) xs))) added
    ∙ ap (λ (y : Bor Name). with_variables (with_variable known y.now) (map (λ (n : Bor Name). n.now) (drop (i + 1) xs))) is
    ∙ sym (ap (λ ys. with_variables known (map (λ (n : Bor Name). n.now) ys)) (drop_more xs i x below))
    ∙ before

pub variables_all : (known : List Name) (xs : List (Bor Name)) (i : ℕ) (all : List Name) → length xs ≤ i → with_variables known (map (λ (n : Bor Name). n.now) (drop i xs)) ≡ all → known ≡ all
variables_all known xs i all past_end before = sym (ap (λ ys. with_variables known (map (λ (n : Bor Name). n.now) ys)) (drop_all i xs past_end)) ∙ before

any_lent : (p : Name → Bool) (xs : List (Bor Name)) → list_any p (map (λ (n : Bor Name). n.now) xs) ≡ list_any (λ (n : Bor Name). p n.now) xs
any_lent p [] = refl
any_lent p (x ∷ xs) = ap (λ b. p x.now || b) (any_lent p xs)

pub any_lent_at : (p : Name → Bool) (xs : List (Bor Name)) (i : ℕ) (x : Bor Name) → i < length xs → x ≡ get_or xs i x → p x.now ≡ true → list_any p (map (λ (n : Bor Name). n.now) xs) ≡ true
any_lent_at p xs i x below is holds =
    any_lent p xs ∙ list_any_at (λ (n : Bor Name). p n.now) xs i x below (ap (λ (n : Bor Name). p n.now) (sym is) ∙ holds)
