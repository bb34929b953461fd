-- The reader's arguments as they are built, and how it finds them.
use Rattle.std.proofs.Common.{◌≡◌, ℕ, ◌<◌, Bool, true, false, not, ◌&&◌, ◌||◌, List, [], ◌∷◌, ◌++◌, map, Some, codes, refl, sym, ◌∙◌, ap, is_some, find, take, get_or, length, ◌+◌}
use Rattle.std.proofs.lemmas.List.{map-append, map_more}
use Rattle.std.specs.Borrow.{Bor}
use Rattle.std.specs.Str.{bytes_eq}
use Rattle.clap.specs.Walk.{Rule, arg_by_id, arg_by_long, has_long}
use Rattle.clap.specs.Simple.{Shape, built, filled, filled_from, with_index, with_rule}
use Rattle.rf_words.specs.Arguments.{Text, is_among}
use Rattle.rf_words.specs.Reader.{are_names, is_name, texts}
use Rattle.rf_words.specs.Reader.{option_rule, plain_rule, reader}
use Rattle.rf_words.proofs.Rows.{is_text}

abbrev pub plain_filled : Rule
plain_filled = with_index 1 (filled plain_rule)

abbrev pub option_filled : Text → Rule
option_filled name = filled (option_rule name)

abbrev pub rules : List Text → List Rule
rules names = plain_filled ∷ map option_filled names

abbrev pub shape : List Text → Shape
shape names = record (reader names).top {
  rules = rules names;
  disable_help_subcommand = true;
  is_built = true;
}

pub filled_options : (i : ℕ) (names : List Text) → filled_from i (map option_rule names) ≡ map option_filled names
filled_options i [] = refl
filled_options i (name ∷ names) = ap (λ rs. option_filled name ∷ rs) (filled_options i names)

pub built_is : (names : List Text) → built (reader names) ≡ record { top = shape names; subs = [] }
built_is names =
    ap (λ rs. record { top = record (shape names) { rules = plain_filled ∷ rs }; subs = [] }) (filled_options 2 names)

-- both parts of a test that passes
pub both : (a b : Bool) → (a && b) ≡ true → (a ≡ true) × (b ≡ true)
both true true e = (refl, refl)
both true false e = cc
both false b e = cc

name_here : (names : List Text) (name : Text) → is_among names name ≡ true → are_names names ≡ true → is_name name ≡ true
name_here [] name among names_fit = cc
name_here (n ∷ names) name among names_fit =
    let parts = both (is_name n) (are_names names) names_fit in
    go (bytes_eq n name) refl among parts.0 (λ later. name_here names name later parts.1)
  where
    go : (b : Bool) → bytes_eq n name ≡ b → (b || is_among names name) ≡ true → is_name n ≡ true → (is_among names name ≡ true → is_name name ≡ true) → is_name name ≡ true
    go true e among fits more = ap is_name (sym (is_text n name e)) ∙ fits
    go false e among fits more = more among

not_true : (b : Bool) → not b ≡ true → b ≡ false
not_true true e = cc
not_true false e = refl

-- an option's name isn't that of the plain words, and isn't empty
pub differs_here : (names : List Text) (name : Text) → is_among names name ≡ true → are_names names ≡ true → bytes_eq (codes "plain") name ≡ false
differs_here names name among names_fit = not_true _ (both _ _ (name_here names name among names_fit)).1

pub empty_apart : (names : List Text) → are_names names ≡ true → is_among names [] ≡ true → ⊥
empty_apart names names_fit among =
    let fits : is_name [] ≡ true = name_here names [] among names_fit in
    let e : false ≡ true = fits in
    cc

long_here : (names : List Text) (name : Text) → is_among names name ≡ true
    → find (λ a. not (is_some a.index) && has_long a name) (map option_filled names) ≡ Some (option_filled name)
long_here [] name among = cc
long_here (n ∷ names) name among = go (bytes_eq n name) refl among (long_here names name)
  where
    go : (b : Bool) → bytes_eq n name ≡ b → (b || is_among names name) ≡ true
        → (is_among names name ≡ true → find (λ a. not (is_some a.index) && has_long a name) (map option_filled names) ≡ Some (option_filled name))
        → find (λ a. not (is_some a.index) && has_long a name) (map option_filled (n ∷ names)) ≡ Some (option_filled name)
    go true e among more = rw e (ap (λ t. Some (option_filled t)) (is_text n name e))
    go false e among more = rw e (more among)

pub by_long : (names : List Text) (name : Text) → is_among names name ≡ true → arg_by_long (rules names) name ≡ Some (option_filled name)
by_long names name among = long_here names name among

id_here : (names : List Text) (name : Text) → is_among names name ≡ true
    → find (λ a. bytes_eq a.id name) (map option_filled names) ≡ Some (option_filled name)
id_here [] name among = cc
id_here (n ∷ names) name among = go (bytes_eq n name) refl among (id_here names name)
  where
    go : (b : Bool) → bytes_eq n name ≡ b → (b || is_among names name) ≡ true
        → (is_among names name ≡ true → find (λ a. bytes_eq a.id name) (map option_filled names) ≡ Some (option_filled name))
        → find (λ a. bytes_eq a.id name) (map option_filled (n ∷ names)) ≡ Some (option_filled name)
    go true e among more = rw e (ap (λ t. Some (option_filled t)) (is_text n name e))
    go false e among more = rw e (more among)

pub by_id : (names : List Text) (name : Text) → is_among names name ≡ true → are_names names ≡ true → arg_by_id (rules names) name ≡ Some (option_filled name)
by_id names name among names_fit = rw (differs_here names name among names_fit) (id_here names name among)

-- one option more
pub reader_more : (names : List Text) (name : Text) → with_rule (reader names) (option_rule name) ≡ reader (names ++ name ∷ [])
reader_more names name =
    ap (λ rs. record { top = record (reader names).top { rules = plain_rule ∷ rs }; subs = [] }) (sym (map-append option_rule names (name ∷ [])))

pub reader_next :
    (names : List (Bor Text)) (i : ℕ) (d : Bor Text) → i < length names →
    with_rule (reader (texts (take i names))) (option_rule (get_or names i d).now) ≡ reader (texts (take (i + 1) names))
reader_next names i d lt = reader_more (texts (take i names)) (get_or names i d).now ∙ sym (ap reader (map_more (λ s. s.now) names i d lt))
