use Rattle.rf_rules.proofs.ClassLemmas.{classes_below-is}
use Rattle.rf_rules.proofs.words.classes_below.Goals as goal

pub returns : goal.returns
returns c = classes_below-is c.args.problem.now c.args.top c.below.result c.requires c.below.ensures
