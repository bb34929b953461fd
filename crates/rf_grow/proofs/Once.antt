-- A number has one problem.
use Rattle.std.proofs.Common.{◌∙◌, sym}
use Rattle.rf_problem.proofs.ProblemLemmas.{same_problem}
use Rattle.rf_grow.specs.Laws.{GrownIsOne}

pub grown_once : GrownIsOne
grown_once n p q one two = same_problem p q (one.classes ∙ sym two.classes) (one.references ∙ sym two.references)
    (one.predicates ∙ sym two.predicates) (one.objects ∙ sym two.objects) (one.assertions ∙ sym two.assertions) (one.scopes ∙ sym two.scopes)
