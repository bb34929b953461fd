-- A parse of checked words by a reader: when it fails, and what it holds.
use Rattle.std.proofs.Common.{◌≡◌, ℕ, Bool, true, false, not, ◌&&◌, ◌+◌, arith, cond, List, [], ◌∷◌, map, fold, Option, Some, None, codes, refl, sym, subst, ◌∙◌, ap, ap₂, is_some, Result, Ok, Err, IfOk, MatchResult, ◌⊎◌, inl, inr, count_by}
use Rattle.std.proofs.Math.Bool.{or-true}
use Rattle.std.specs.List.{list_all, list_any}
use Rattle.clap.specs.Matches.{found_of}
use Rattle.clap.specs.Values.{kind_of}
use Rattle.clap.specs.declared.error.Error.{Error}
use Rattle.clap.specs.declared.error.kind.ErrorKind.{ErrorKind}
use Rattle.clap.specs.declared.error.kind.ErrorKind.TheVariants as kind
use Rattle.clap.specs.declared.parser.matches.ArgMatches.{ArgMatches}
use Rattle.clap.specs.Kinds.{FailsBy, IsAmong, Kinds, or_else}
use Rattle.clap.specs.Walk.{Row, Rule, has_row, idle, nothing_held, settled, is_early_multiple, rows_after, rows_of, with_default}
use Rattle.clap.specs.Simple.{App, HasMatchesOf, built, entered, is_ready, is_simple, matches_of, is_in_order, is_buildable, is_ready_leaf, names_of}
use Rattle.clap.specs.Faults.{built_fault, defaults_fault, default_fault, entered_fault, fault_of, is_free_app, is_simple_and_free, check_fault, level_fault, settle_fault, walk_fault}
use Rattle.clap.specs.Takes.{is_given}
use Rattle.rf_words.specs.Arguments.{Arguments, Text, said}
use Rattle.rf_words.specs.Reader.{are_names, is_word}
use Rattle.rf_words.specs.Reader.{Holds, option_rule, reader, values_at}
use Rattle.rf_words.proofs.Readers.{both, built_is, option_filled, plain_filled, rules, shape}
use Rattle.rf_words.proofs.Turns.{standing}
use Rattle.rf_words.proofs.Walks.{Comes, ending, fault_from, rows_from, walks}

-- ---- the reader is simple

simple_options : (names : List Text) → list_all (λ (a : Rule). a.is_simple) (map option_rule names) ≡ true
simple_options [] = refl
simple_options (name ∷ names) = simple_options names

simple_filled : (names : List Text) → list_all (λ (a : Rule). a.is_simple) (map option_filled names) ≡ true
simple_filled [] = refl
simple_filled (name ∷ names) = simple_filled names

free_filled : (names : List Text) → list_all (λ (a : Rule). a.is_free) (map option_filled names) ≡ true
free_filled [] = refl
free_filled (name ∷ names) = free_filled names

-- the options have no places
one_place : (n : ℕ) (names : List Text) → fold (λ k (a : Rule). k + cond (is_some a.index) 1 0) n (map option_filled names) ≡ n
one_place n [] = refl
one_place n (name ∷ names) =
    let same : n + 0 ≡ n = omega arith in
    ap (λ k. fold (λ k (a : Rule). k + cond (is_some a.index) 1 0) k (map option_filled names)) same ∙ one_place n names

late_options : (n : ℕ) (names : List Text) → list_any (is_early_multiple n) (map option_filled names) ≡ false
late_options n [] = refl
late_options n (name ∷ names) = late_options n names

in_order : (names : List Text) → is_in_order (rules names) ≡ true
in_order names =
    let places : count_by (λ (a : Rule). is_some a.index) (rules names) ≡ 1 = one_place 1 names in
    ap (λ n. not (list_any (is_early_multiple n) (rules names))) places ∙ ap not (late_options 1 names)

abbrev is_free_and_ready : List Text → App → Bool
is_free_and_ready names b = (is_buildable (reader names) && (is_ready b.top && list_all is_ready_leaf b.subs)) && is_free_app b

pub simple_reader : (names : List Text) → is_simple_and_free (reader names) ≡ true
simple_reader names =
    let options = simple_options names in
    let filled = simple_filled names in
    let free = free_filled names in
    let order = in_order names in
    let whole : is_free_and_ready names (record { top = shape names; subs = [] }) ≡ true = rw (options, filled, order, free) refl in
    ap (is_free_and_ready names) (built_is names) ∙ whole

-- ---- the end of a parse

no_entry : (a : App) (stop : _) → a.subs ≡ [] → entered a stop ≡ None
no_entry a None e = refl
no_entry a (Some p) e = rw e refl

or_else-nil : (k : Kinds) → or_else k [] ≡ k
or_else-nil [] = refl
or_else-nil (k ∷ ks) = refl

kept_default : (rows : List Row) (name : Text) → with_default rows (option_filled name) ≡ rows
kept_default rows name = go (has_row name rows)
  where
    go : (b : Bool) → cond b rows rows ≡ rows
    go true = refl
    go false = refl

pub kept_options : (rows : List Row) (names : List Text) → fold with_default rows (map option_filled names) ≡ rows
kept_options rows [] = refl
kept_options rows (name ∷ names) = ap (λ r. fold with_default r (map option_filled names)) (kept_default rows name) ∙ kept_options rows names

kept_plain : (rows : List Row) → with_default rows plain_filled ≡ rows
kept_plain rows = go (has_row (codes "plain") rows)
  where
    go : (b : Bool) → cond b rows rows ≡ rows
    go true = refl
    go false = refl

no_entry_fault : (names : List Text) (stop : _) → entered_fault (record { top = shape names; subs = [] }) stop ≡ []
no_entry_fault names None = refl
no_entry_fault names (Some p) = refl

no_defaults : (rows : List Row) (names : List Text) → defaults_fault rows (map option_filled names) ≡ []
unfolding defaults_fault
no_defaults rows [] = refl
no_defaults rows (name ∷ names) =
    let none : default_fault rows (option_filled name) ≡ [] = rw (or-true (has_row name rows)) refl in
    ap (λ k. or_else k (defaults_fault (with_default rows (option_filled name)) (map option_filled names))) none
    ∙ no_defaults (with_default rows (option_filled name)) names

no_default : (rows : List Row) (names : List Text) → defaults_fault rows (rules names) ≡ []
unfolding defaults_fault
no_default rows names =
    let none : default_fault rows plain_filled ≡ [] = rw (or-true (has_row (codes "plain") rows)) refl in
    ap (λ k. or_else k (defaults_fault (with_default rows plain_filled) (map option_filled names))) none
    ∙ no_defaults (with_default rows plain_filled) names

none_required : (rows : List Row) (names : List Text) → list_any (λ (a : Rule). a.required && not (is_given a.id rows)) (map option_filled names) ≡ false
none_required rows [] = refl
none_required rows (name ∷ names) = none_required rows names

no_check : (rows : List Row) (names : List Text) → check_fault (shape names) rows false ≡ []
no_check rows names =
    let none = none_required rows names in
    rw none refl

pub fault_is : (names words : List Text) → fault_of (reader names) words ≡ fault_from names (standing None [] idle) words
fault_is names words =
    let b : App = record { top = shape names; subs = [] } in
    let end = ending names (standing None [] idle) words in
    let rows = (settled (rules names) end.held).rows in
    let last = settle_fault (rules names) false end.held in
    let front = walk_fault (shape names) [] (standing None [] idle) words in
    ap (λ c. built_fault c nothing_held words) (built_is names)
    ∙ ap₂ (λ has below. level_fault (shape names) [] nothing_held words (is_some has) below) (no_entry b end.stopped refl) (no_entry_fault names end.stopped)
    ∙ ap (λ k. or_else front (or_else last k)) (ap₂ or_else (no_default rows names) (no_check (rows_after (rules names) [] words) names))
    ∙ ap (or_else front) (or_else-nil last)

pub rows_are : (names words : List Text) → matches_of (reader names) words ≡ rows_from names (standing None [] idle) words
rows_are names words =
    let rows = rows_from names (standing None [] idle) words in
    ap (λ c. rows_after c.top.rules (names_of c) words) (built_is names)
    ∙ ap (λ r. fold with_default r (map option_filled names)) (kept_plain rows) ∙ kept_options rows names

-- ---- what a parse answers

holds : (names : List Text) (words : List Text) (rows : List Row) (o : Option Arguments) → fault_of (reader names) words ≡ [] → rows ≡ matches_of (reader names) words
    → Comes names (standing None [] idle) words [] o → Holds names rows o
holds names words rows None fine are comes = comes (sym (fault_is names words) ∙ fine)
holds names words rows (Some a) fine are comes =
    let same = are ∙ rows_are names words in
    record {
      plain = ap (values_at (codes "plain")) same ∙ comes.plain;
      values = λ name among. ap (values_at name) same ∙ comes.values name among;
    }

refused : (names : List Text) (words : List Text) (k : ErrorKind) (o : Option Arguments) → IsAmong k (fault_of (reader names) words)
    → Comes names (standing None [] idle) words [] o → o ≡ None
refused names words k None among comes = refl
refused names words k (Some a) among comes = absurd (subst (IsAmong k) (fault_is names words ∙ comes.fault) among)

pub answered :
    (names words : List Text) (result : Result ArgMatches Error) → are_names names ≡ true → list_all (is_word names) words ≡ true →
    IfOk result (HasMatchesOf (reader names) words) → (is_simple_and_free (reader names) ≡ true → FailsBy (fault_of (reader names) words) result) →
    MatchResult result (λ m. Holds names (rows_of (found_of m)) (said names words)) (λ e. (kind_of e ≡ kind.OutOfMemory) ⊎ (said names words ≡ None))
answered names words (Ok m) fit checked has fails =
    let simple = both (is_simple (reader names)) (is_free_app (built (reader names))) (simple_reader names) in
    holds names words (rows_of (found_of m)) (said names words) (fails (simple_reader names)) (has simple.0).0
    ((walks names words fit checked).idle None [] idle [] tt refl refl)
answered names words (Err e) fit checked has fails = elim (fails (simple_reader names)) [
  | inl memory ↦ inl memory
  | inr among ↦ inr (refused names words (kind_of e) (said names words) among ((walks names words fit checked).idle None [] idle [] tt refl refl))
]
