-- Which words are which command.
use Rattle.std.specs.Prelude.{◌≡◌, ℕ, ◌≤◌, ◌-◌, ◌^◌, false, List, [], ◌∷◌, Some, codes, decimal}
use Rattle.rf_bounds.specs.declared.TheConstants.{MOST_DECISIONS}
use Rattle.rf_words.specs.Arguments.{Text, said, values_of}
use Rattle.rf_words.specs.declared.request.TheConstants.{DEFAULT_BUDGET, DEFAULT_SEED, MOST_GROWTH}
use Rattle.rf_words.specs.declared.request.Command.{Command}
use Rattle.rf_words.specs.declared.request.Command.TheVariants.{Generate, Check, Verify, Evaluate, Session, Grow}

-- the word that each command begins with
abbrev pub name_of : Command → Text
name_of (Generate file seed budget json) = codes "generate"
name_of (Check file graph) = codes "check"
name_of (Verify file tree) = codes "verify"
name_of (Evaluate file) = codes "evaluate"
name_of (Session file script) = codes "session"
name_of (Grow n) = codes "grow"

abbrev pub generate_options : List Text
generate_options = codes "seed" ∷ codes "budget" ∷ []

-- the options that each takes
abbrev pub options_of : Command → List Text
options_of (Generate file seed budget json) = generate_options
options_of _ = []

-- the words of each that are no options
abbrev pub plain_of : Command → List Text
plain_of (Generate file seed budget json) = file ∷ []
plain_of (Check file graph) = file ∷ graph ∷ []
plain_of (Verify file tree) = file ∷ tree ∷ []
plain_of (Evaluate file) = file ∷ []
plain_of (Session file script) = file ∷ script ∷ []
plain_of (Grow n) = decimal n ∷ []

-- a number of an option that stands at most once: a decimal spelling within limits, by default this
abbrev pub HasNumber : List Text → ℕ → ℕ → ℕ → ℕ → Type 0
HasNumber [] least most default n = n ≡ default
HasNumber (value ∷ []) least most default n = (value ≡ decimal n) × (least ≤ n) × (n ≤ most)
HasNumber _ least most default n = ⊥

-- the numbers are within their limits, and those of options are what the options' values say
abbrev pub HasNumbers : Command → List (Text × Text) → Type 0
HasNumbers (Generate file seed budget json) values =
    HasNumber (values_of (codes "seed") values) 0 (2 ^ 64 - 1) DEFAULT_SEED seed
    × HasNumber (values_of (codes "budget") values) 1 MOST_DECISIONS DEFAULT_BUDGET budget × (json ≡ false)
HasNumbers (Grow n) values = (1 ≤ n) × (n ≤ MOST_GROWTH)
HasNumbers _ values = Unit {0}

-- the words after a command's name are those of this command
abbrev pub IsRequest : List Text → Command → Type 0
IsRequest words c = (values : List (Text × Text))
    × (said (options_of c) words ≡ Some (record { plain = plain_of c; values = values }))
    × HasNumbers c values

-- the words say these plain words and no option
abbrev pub SaysPlain : List Text → List Text → Type 0
SaysPlain words plain = (values : List (Text × Text))
    × (said [] words ≡ Some (record { plain = plain; values = values }))

-- the words are this command
abbrev pub IsCommand : List Text → Command → Type 0
IsCommand [] c = ⊥
IsCommand (name ∷ words) c = (name ≡ name_of c) × IsRequest words c
