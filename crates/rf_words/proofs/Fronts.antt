-- What a search for a byte cuts off.
use Rattle.std.proofs.Common.{◌≡◌, ◌<◌, ℕ, Bool, true, false, cond, List, [], ◌∷◌, length, take, Option, Some, None, refl, sym, ◌∙◌, ap, nat_lt, inl, inr, lt-ltb, take_all, is_some, map, option_map, unwrap_or, find, ◌||◌, ◌&&◌, if◌then◌else◌, get_or}
use Rattle.std.specs.Borrow.{Bor}
use Rattle.std.specs.Option.{option_map_or}
use Rattle.std.specs.Str.{bytes_eq}
use Rattle.clap.specs.Matches.{matched_of, raw_values}
use Rattle.clap.specs.Walk.{Row, rows_of}
use Rattle.clap.proofs.WalkLemmas.{raw_values-rows}
use Rattle.clap.specs.declared.parser.matches.Found.{Found}
use Rattle.rf_words.specs.Reader.{values_at}
use Rattle.rf_words.specs.Arguments.{Text, is_plain, said, said_from, said_by, option_in, with_plain, with_value, is_among, name_of_option, option_of, value_of_option}
use Rattle.rf_words.specs.Reader.{texts, is_word}
use Rattle.std.specs.List.{list_all, before_first, position, position_or_len}
use Rattle.std.proofs.lemmas.Bool.{cases_lt}
use Rattle.std.proofs.lemmas.List.Folds.{list_all_at}

pub cut_front : (p : ℕ → Bool) (xs : List ℕ) (end : ℕ) → Some end ≡ position p xs → take end xs ≡ before_first p xs
cut_front p xs end at = go (nat_lt (position_or_len p xs) (length xs)) refl at
  where
    go : (b : Bool) → nat_lt (position_or_len p xs) (length xs) ≡ b → Some end ≡ cond b (Some (position_or_len p xs)) None → take end xs ≡ before_first p xs
    go true e is = let same : end ≡ position_or_len p xs = cc in ap (λ n. take n xs) same
    go false e is = cc

pub uncut_front : (p : ℕ → Bool) (xs : List ℕ) → None ≡ position p xs → xs ≡ before_first p xs
uncut_front p xs at = go (nat_lt (position_or_len p xs) (length xs)) refl at
  where
    go : (b : Bool) → nat_lt (position_or_len p xs) (length xs) ≡ b → None ≡ cond b (Some (position_or_len p xs)) None → xs ≡ before_first p xs
    go true e is = cc
    go false e is = elim (cases_lt (position_or_len p xs) (length xs)) [
      | inl below ↦ let yes_below : nat_lt (position_or_len p xs) (length xs) ≡ true = lt-ltb _ _ below in cc
      | inr past ↦ sym (take_all (position_or_len p xs) xs past)
    ]

-- whether a text is an option of these names
pub known_option : (names : List Text) (text : Text) → is_some (option_of names text) ≡ is_among names (name_of_option text)
known_option names text = go (is_among names (name_of_option text))
  where
    go : (b : Bool) → is_some {T = Text × Option Text} (cond b (Some (name_of_option text, value_of_option text)) None) ≡ b
    go true = refl
    go false = refl

unmapped : {X Y : Type 0} (f : X → Y) (o : Option X) (d : Y) → option_map_or f o d ≡ unwrap_or (option_map f o) d
unmapped f None d = refl
unmapped f (Some x) d = refl

-- the values that the matches hand out are those of the rows
pub values_raw :
    (f : Found) (id : Text) (o : Option (Bor (List (Bor Text)))) → option_map (λ s. map (λ v. v.now) s.now) o ≡ option_map raw_values (matched_of f id) →
    option_map_or (λ vs. texts vs.now) o [] ≡ values_at id (rows_of f)
values_raw f id o same =
    unmapped (λ vs. texts vs.now) o [] ∙ ap (λ p. unwrap_or p []) (same ∙ raw_values-rows f id)
    ∙ sym (unmapped (λ (r : Row). r.values) (find (λ r. bytes_eq r.id id) (rows_of f)) [])

-- where a word is no word of a command, the words say nothing
pub said_checked : (names : List Text) (waiting : Option Text) (words : List Text) → list_all (is_word names) words ≡ false → said_from names waiting words ≡ None
said_checked names None [] stray = cc
said_checked names (Some w) [] stray = refl
said_checked names None (word ∷ rest) stray = go (is_plain word) (option_in names word) stray (λ w. said_checked names w rest)
  where
    go : (p : Bool) (o : Option (Text × Option Text)) → ((p || is_some o) && list_all (is_word names) rest) ≡ false
        → ((w : Option Text) → list_all (is_word names) rest ≡ false → said_from names w rest ≡ None)
        → (if p then option_map (with_plain word) (said_from names None rest) else said_by o (λ w. said_from names w rest)) ≡ None
    go true o stray more = ap (option_map (with_plain word)) (more None stray)
    go false None stray more = refl
    go false (Some (name, None)) stray more = more (Some name) stray
    go false (Some (name, Some value)) stray more = ap (option_map (with_value name value)) (more None stray)
said_checked names (Some w) (word ∷ rest) stray = go (is_plain word) (is_some (option_in names word)) stray (said_checked names None rest)
  where
    go : (p q : Bool) → ((p || q) && list_all (is_word names) rest) ≡ false → (list_all (is_word names) rest ≡ false → said_from names None rest ≡ None)
        → (if p then option_map (with_value w word) (said_from names None rest) else None) ≡ None
    go true q stray more = ap (option_map (with_value w word)) (more stray)
    go false q stray more = refl

-- the same, at a word that is none
pub said_stray : (names words : List Text) (i : ℕ) (d : Text) → i < length words → is_word names (get_or words i d) ≡ false → said names words ≡ None
said_stray names words i d lt stray = said_checked names None words (list_all_at (is_word names) words i d lt stray)
