-- What holds of words and commands.
use Rattle.std.specs.Prelude.{◌≡◌, List}
use Rattle.rf_words.specs.Arguments.{Text}
use Rattle.rf_words.specs.Meaning.{IsCommand}
use Rattle.rf_words.specs.declared.request.Command.{Command}

-- words are at most one command
abbrev pub OneCommandFits : Type 0
OneCommandFits = (words : List Text) (a b : Command) → IsCommand words a → IsCommand words b → a ≡ b
