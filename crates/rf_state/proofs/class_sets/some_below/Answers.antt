use Rattle.std.proofs.Common.{◌∙◌, ◌&&◌, ap}
use Rattle.std.specs.FinSet.{contains}
use Rattle.rf_state.proofs.ClassLemmas.{empty-some_below}
use Rattle.rf_state.proofs.class_sets.some_below.Goals as goal

pub returns : goal.returns
returns c = empty-some_below c.args.problem.now c.args.classes c.both.result c.args.top c.requires
    (λ d. c.both.ensures.members d ∙ ap (λ b. contains c.args.classes d && b) (c.below.ensures d)) c.is_empty.result c.is_empty.ensures.members
