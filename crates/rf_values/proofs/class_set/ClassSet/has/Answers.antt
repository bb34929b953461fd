use Rattle.std.proofs.Common.{sym, ap, ◌∙◌}
use Rattle.std.specs.FinSet.{contains}
use Rattle.std.proofs.lemmas.Bool.{le-ltb}
use Rattle.rf_values.specs.WordLemmas.{contains-marked, contains-marked_past}
use Rattle.rf_values.proofs.Marked.{has_bit-test}
use Rattle.rf_values.proofs.class_set.ClassSet.has.Goals as goal

pub returns-then-c-lt256-clause-has : goal.returns-then-c-lt256-clause-has
returns-then-c-lt256-clause-has c =
    has_bit-test c.self.inside.words c.args.c
    ∙ sym (contains-marked c.self.inside.words c.args.c c.if-c-lt256.true)
    ∙ ap (λ s. contains s c.args.c) c.self.view_is

pub returns-else-c-lt256-clause-has : goal.returns-else-c-lt256-clause-has
returns-else-c-lt256-clause-has c =
    le-ltb c.args.c 256 c.if-c-lt256.false
    ∙ sym (contains-marked_past c.self.inside.words c.args.c c.if-c-lt256.false)
    ∙ ap (λ s. contains s c.args.c) c.self.view_is
