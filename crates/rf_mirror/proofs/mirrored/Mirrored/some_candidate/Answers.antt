use Rattle.std.proofs.Common.{◌∙◌, ◌&&◌, ap, length}
use Rattle.std.specs.FinSet.{contains}
use Rattle.rf_finite.specs.Range.{some_below}
use Rattle.rf_problem.specs.Classes.{is_below}
use Rattle.rf_state.specs.declared.object.Object.{Object}
use Rattle.rf_state.proofs.ClassLemmas.{empty-some_below}
use Rattle.rf_mirror.proofs.mirrored.Mirrored.some_candidate.Goals as goal

pub returns : goal.returns
returns c =
    let p = c.args.self.now.inner.problem.now in
    let below = rw c.problem.ensures at c.below-below.ensures in
    empty-some_below p c.object.result.candidates c.both.result c.args.class c.requires.class
    (λ d. c.both.ensures.members d ∙ ap (λ b. contains c.object.result.candidates d && b) (below d)) c.is_empty.result c.is_empty.ensures.members
    ∙ ap (λ (x : Object). some_below (length p.classes) (λ d. contains x.candidates d && is_below p.classes d c.args.class)) c.object.ensures.object
