use Rattle.std.proofs.Common.{◌∙◌, ◌&&◌, ◌||◌, not, ap, length}
use Rattle.std.specs.FinSet.{FinSet, contains}
use Rattle.std.specs.Ordering.{nat_cmp}
use Rattle.rf_finite.specs.Range.{all_below}
use Rattle.rf_problem.specs.Classes.{is_below}
use Rattle.rf_problem.specs.declared.problem.Problem.{Problem}
use Rattle.rf_rules.proofs.ClassLemmas.{empty-each}
use Rattle.rf_prop_mult.proofs.ends.all_below.Goals as goal

pub returns : goal.returns
returns g c =
    let p = g.F.Facts.problem c.args.view.now in
    let n = length p.classes in
    let k = c.args.class in
    empty-each n c.candidates.result c.without.result (λ x. is_below p.classes x k) c.candidates.ensures.declared c.is_empty.result
    c.is_empty.ensures.members
    (λ x. c.without.ensures.members x ∙ ap (λ b. contains c.candidates.result x && not b)
    (c.below-below.ensures x ∙ ap (λ (q : Problem). is_below q.classes x k) c.problem.ensures))
    ∙ ap (λ (s : FinSet nat_cmp). all_below n (λ x. not (contains s x) || is_below p.classes x k)) c.candidates.ensures.candidates
