use Rattle.std.proofs.Common.{◌∙◌, ℕ, List, Option, ap}
use Rattle.rf_problem.specs.Patterns.{fits}
use Rattle.rf_problem.specs.Spoken.{heard_by}
use Rattle.rf_problem.proofs.assertions.Assertions.heard.Goals as goal

pub returns : goal.returns
returns c = c.heard_from.ensures ∙ ap (λ (first : List (Option ℕ)). heard_by (fits c.args.symbol first c.args.tuple.now) c.args.self.now) c.empty.ensures
