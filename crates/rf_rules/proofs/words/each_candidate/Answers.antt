use Rattle.std.proofs.Common.{◌∙◌, ◌||◌, not, ap, length}
use Rattle.std.specs.FinSet.{FinSet, contains}
use Rattle.std.specs.Ordering.{nat_cmp}
use Rattle.rf_finite.specs.Range.{all_below}
use Rattle.rf_rules.proofs.ClassLemmas.{empty-each}
use Rattle.rf_rules.proofs.words.each_candidate.Goals as goal

pub returns : goal.returns
returns g c =
    let n = length (g.F.Facts.problem c.args.view.now).classes in
    empty-each n c.candidates.result c.without.result (contains c.args.classes) c.candidates.ensures.declared c.is_empty.result c.is_empty.ensures.members c.without.ensures.members
    ∙ ap (λ (s : FinSet nat_cmp). all_below n (λ x. not (contains s x) || contains c.args.classes x)) c.candidates.ensures.candidates
