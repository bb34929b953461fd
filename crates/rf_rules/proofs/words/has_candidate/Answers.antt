use Rattle.std.proofs.Common.{◌∙◌, ◌&&◌, true, ap, length}
use Rattle.std.specs.FinSet.{FinSet, contains}
use Rattle.std.specs.Ordering.{nat_cmp}
use Rattle.rf_finite.specs.Range.{some_below}
use Rattle.rf_rules.proofs.ClassLemmas.{and_true, empty-any}
use Rattle.rf_rules.proofs.words.has_candidate.Goals as goal

pub returns : goal.returns
returns g c =
    let n = length (g.F.Facts.problem c.args.view.now).classes in
    empty-any n c.candidates.result c.candidates.result (λ x. true) c.candidates.ensures.declared c.is_empty.result c.is_empty.ensures.members (λ x. and_true (contains c.candidates.result x))
    ∙ ap (λ (s : FinSet nat_cmp). some_below n (λ x. contains s x && true)) c.candidates.ensures.candidates
