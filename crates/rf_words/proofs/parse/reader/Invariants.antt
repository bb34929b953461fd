use Rattle.std.proofs.Common.{◌≡◌, take}
use Rattle.clap.specs.Simple.{app_of}
use Rattle.rf_words.specs.Reader.{texts}
use Rattle.rf_words.specs.Reader.{reader}
use Rattle.rf_words.proofs.parse.reader.Given as goal

abbrev pub invariant-loop-name : goal.invariant-loop-name
invariant-loop-name l = app_of l.command ≡ reader (texts (take l.name-index l.names))
