use Rattle.std.proofs.Common.{◌∙◌, ◌&&◌, ap, length}
use Rattle.std.specs.FinSet.{FinSet, contains}
use Rattle.std.specs.Ordering.{nat_cmp}
use Rattle.rf_finite.specs.Range.{some_below}
use Rattle.rf_rules.proofs.ClassLemmas.{empty-any}
use Rattle.rf_rules.proofs.words.any_candidate.Goals as goal

pub returns : goal.returns
returns g c =
    let n = length (g.F.Facts.problem c.args.view.now).classes in
    empty-any n c.candidates.result c.both.result (contains c.args.classes) c.candidates.ensures.declared c.is_empty.result c.is_empty.ensures.members c.both.ensures.members
    ∙ ap (λ (s : FinSet nat_cmp). some_below n (λ x. contains s x && contains c.args.classes x)) c.candidates.ensures.candidates
