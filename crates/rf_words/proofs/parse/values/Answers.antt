use Rattle.clap.specs.Matches.{found_of}
use Rattle.rf_words.proofs.Fronts.{values_raw}
use Rattle.rf_words.proofs.parse.values.Goals as goal

pub returns : goal.returns
returns c = values_raw (found_of c.args.matches.now) c.args.id.now c.get_raw.result c.get_raw.ensures
