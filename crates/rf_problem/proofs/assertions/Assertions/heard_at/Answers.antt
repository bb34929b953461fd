use Rattle.std.proofs.Common.{◌∙◌, ap}
use Rattle.rf_problem.specs.Spoken.{heard_by, is_at}
use Rattle.rf_problem.proofs.TableLemmas.{told-where}
use Rattle.rf_problem.proofs.assertions.Assertions.heard_at.Goals as goal

pub returns : goal.returns
returns c =
    c.heard_at.ensures
    ∙ told-where c.self.inside.list c.self.inside.table.heard c.self.inside.table.stars c.args.symbol c.args.args.now c.self.invariant c.requires
    ∙ ap (heard_by (is_at c.args.symbol c.args.args.now)) c.self.view_is
