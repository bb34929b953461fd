-- What the words after a command's name say.
use Rattle.std.specs.Prelude.{ℕ, Bool, false, not, ◌&&◌, ◌==◌, List, [], ◌∷◌, map, Option, None, Some, option_map, option_and_then, if◌then◌else◌}
use Rattle.std.specs.List.{list_any, filter, before_first, after_first}
use Rattle.std.specs.Str.{bytes_eq}

abbrev pub Text : Type 0
Text = List ℕ

-- the words that are no options, in their order, and the options in theirs, each with its value
pub record Arguments : Type 0 where
  pub plain : List Text
  pub values : List (Text × Text)

abbrev pub nothing : Arguments
nothing = record { plain = []; values = [] }

abbrev pub with_plain : Text → Arguments → Arguments
with_plain word a = record a { plain = word ∷ a.plain }

abbrev pub with_value : Text → Text → Arguments → Arguments
with_value name value a = record a { values = (name, value) ∷ a.values }

-- a word that may name a file, or be the value of an option: it isn't empty and doesn't begin with
-- a dash (45)
abbrev pub is_plain : Text → Bool
is_plain [] = false
is_plain (b ∷ bs) = not (b == 45)

-- what follows two dashes
abbrev pub after_dashes : Text → Option Text
after_dashes (a ∷ b ∷ rest) = if a == 45 && b == 45 then Some rest else None
after_dashes _ = None

-- `NAME` or `NAME=VALUE`, cut at its first `=` (61)
abbrev pub name_of_option : Text → Text
name_of_option text = before_first (λ b. b == 61) text

abbrev pub value_of_option : Text → Option Text
value_of_option text =
    if list_any (λ b. b == 61) text then Some (after_first (λ b. b == 61) text) else None

abbrev pub is_among : List Text → Text → Bool
is_among names name = list_any (λ n. bytes_eq n name) names

-- the option of these names that such a text is, with the value that it has
abbrev pub option_of : List Text → Text → Option (Text × Option Text)
option_of names text = if is_among names (name_of_option text)
    then Some (name_of_option text, value_of_option text) else None

-- the option that a word is, `--NAME` or `--NAME=VALUE`
abbrev pub option_in : List Text → Text → Option (Text × Option Text)
option_in names word = option_and_then (option_of names) (after_dashes word)

-- what a word that is no plain one says, where `rest` is said by the words after it, by the option
-- that waits for its value
abbrev pub said_by : Option (Text × Option Text) → (Option Text → Option Arguments) → Option Arguments
said_by None rest = None
said_by (Some (name, None)) rest = rest (Some name)
said_by (Some (name, Some value)) rest = option_map (with_value name value) (rest None)

-- what the words say from the left, where `waiting` is the option whose value comes next
abbrev pub said_from : List Text → Option Text → List Text → Option Arguments
said_from names None [] = Some nothing
said_from names (Some name) [] = None
said_from names None (word ∷ rest) =
    if is_plain word then option_map (with_plain word) (said_from names None rest)
    else said_by (option_in names word) (λ waiting. said_from names waiting rest)
said_from names (Some name) (word ∷ rest) =
    if is_plain word then option_map (with_value name word) (said_from names None rest) else None

-- what the words say, where they are plain words and options of these names, each with its value
abbrev pub said : List Text → List Text → Option Arguments
said names words = said_from names None words

-- the values of an option, one for each time that it stands there
abbrev pub values_of : Text → List (Text × Text) → List Text
values_of name values = map (λ p. p.1) (filter (λ p. bytes_eq p.0 name) values)
