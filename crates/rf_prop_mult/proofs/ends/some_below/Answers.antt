use Rattle.std.proofs.Common.{◌∙◌, ◌&&◌, ap, length}
use Rattle.std.specs.FinSet.{FinSet, contains}
use Rattle.std.specs.Ordering.{nat_cmp}
use Rattle.rf_finite.specs.Range.{some_below}
use Rattle.rf_problem.specs.Classes.{is_below}
use Rattle.rf_problem.specs.declared.problem.Problem.{Problem}
use Rattle.rf_rules.proofs.ClassLemmas.{empty-any}
use Rattle.rf_prop_mult.proofs.ends.some_below.Goals as goal

pub returns : goal.returns
returns g c =
    let p = g.F.Facts.problem c.args.view.now in
    let n = length p.classes in
    let k = c.args.class in
    empty-any n c.candidates.result c.both.result (λ x. is_below p.classes x k) c.candidates.ensures.declared c.is_empty.result
    c.is_empty.ensures.members
    (λ x. c.both.ensures.members x ∙ ap (λ b. contains c.candidates.result x && b)
    (c.below-below.ensures x ∙ ap (λ (q : Problem). is_below q.classes x k) c.problem.ensures))
    ∙ ap (λ (s : FinSet nat_cmp). some_below n (λ x. contains s x && is_below p.classes x k)) c.candidates.ensures.candidates
