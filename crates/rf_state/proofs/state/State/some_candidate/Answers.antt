use Rattle.std.proofs.Common.{◌∙◌, ◌&&◌, ap, length}
use Rattle.std.specs.FinSet.{contains}
use Rattle.rf_finite.specs.Range.{some_below}
use Rattle.rf_problem.specs.Classes.{is_below}
use Rattle.rf_state.specs.declared.object.Object.{Object}
use Rattle.rf_state.proofs.state.State.some_candidate.Goals as goal

pub returns : goal.returns
returns c = c.some_below.ensures
    ∙ ap (λ (x : Object). some_below (length c.args.self.now.problem.now.classes) (λ d. contains x.candidates d && is_below c.args.self.now.problem.now.classes d c.args.class)) c.object.ensures
