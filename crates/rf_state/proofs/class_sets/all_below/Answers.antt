use Rattle.rf_problem.specs.Classes.{is_below}
use Rattle.rf_state.proofs.ClassLemmas.{empty-all_below}
use Rattle.std.specs.Prelude.{length}
use Rattle.rf_state.proofs.class_sets.all_below.Goals as goal

pub returns : goal.returns
returns c = empty-all_below (length c.args.problem.now.classes) c.args.classes c.args.numbers c.both-declared.result c.below.result c.without.result
    (λ d. is_below c.args.problem.now.classes d c.args.top) c.requires.numbers c.both-declared.ensures.members c.below.ensures
    c.is_empty.result c.is_empty.ensures.members c.without.ensures.members
