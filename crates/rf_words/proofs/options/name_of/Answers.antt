use Rattle.std.proofs.Common.{◌==◌}
use Rattle.rf_words.proofs.Fronts.{cut_front, uncut_front}
use Rattle.rf_words.proofs.options.name_of.Goals as goal

pub returns-in-Some : goal.returns-in-Some
returns-in-Some c = cut_front (λ b. b == 61) c.args.text.now c.in-Some.end c.in-Some.ensures

pub returns-in-None : goal.returns-in-None
returns-in-None c = uncut_front (λ b. b == 61) c.args.text.now c.in-None.ensures
