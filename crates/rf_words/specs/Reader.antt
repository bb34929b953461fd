-- The reader of words, and what it holds of them.
use Rattle.std.specs.Prelude.{◌≡◌, Bool, true, false, not, ◌&&◌, ◌||◌, is_some, List, [], ◌∷◌, map, Option, Some, find, codes, IsSomeAnd}
use Rattle.std.specs.Borrow.{Bor}
use Rattle.std.specs.List.{list_all}
use Rattle.std.specs.Option.{option_map_or}
use Rattle.std.specs.Str.{bytes_eq}
use Rattle.clap.specs.Walk.{Row, Rule}
use Rattle.clap.specs.Simple.{App, new_rule, new_shape}
use Rattle.clap.specs.declared.builder.action.ArgAction.TheVariants.{Append}
use Rattle.rf_words.specs.Arguments.{Arguments, Text, is_among, is_plain, option_in, values_of}

-- the texts that references lead to
abbrev pub texts : List (Bor Text) → List Text
texts = map (λ s. s.now)

-- the word is a plain one or one of these options
abbrev pub is_word : List Text → Text → Bool
is_word names word = is_plain word || is_some (option_in names word)

-- an option's name isn't empty, and isn't the one by which the reader keeps the plain words
abbrev pub is_empty : Text → Bool
is_empty [] = true
is_empty (b ∷ bs) = false

abbrev pub is_name : Text → Bool
is_name name = not (is_empty name) && not (bytes_eq (codes "plain") name)

abbrev pub are_names : List Text → Bool
are_names names = list_all is_name names

abbrev pub plain_rule : Rule
plain_rule = record (new_rule (codes "plain")) { action = Some Append }

abbrev pub option_rule : Text → Rule
option_rule name = record (new_rule name) { long = Some name; action = Some Append }

-- a reader of plain words and of options of these names
abbrev pub reader : List Text → App
reader names = record {
  top = record (new_shape (codes "refine")) {
    no_binary_name = true;
    disable_help_flag = true;
    rules = plain_rule ∷ map option_rule names;
  };
  subs = [];
}

-- the values by an id
abbrev pub values_at : Text → List Row → List Text
values_at id rows = option_map_or (λ r. r.values) (find (λ r. bytes_eq r.id id) rows) []

-- the rows have what these arguments say
pub record HasArguments (names : List Text) (rows : List Row) (a : Arguments) : Type 0 where
  pub plain : values_at (codes "plain") rows ≡ a.plain
  pub values : (name : Text) → is_among names name ≡ true → values_at name rows ≡ values_of name a.values

-- the rows have what is said
abbrev pub Holds : List Text → List Row → Option Arguments → Type 0
Holds names rows said = IsSomeAnd said (HasArguments names rows)
