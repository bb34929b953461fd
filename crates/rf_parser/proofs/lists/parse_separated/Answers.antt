use Rattle.std.proofs.Common.{◌∙◌}
use Rattle.rf_parser.proofs.ListParts.{separated_parsed, separated_stuck, separated_stuck_after}
use Rattle.rf_parser.proofs.Wholes.{passed_on, returned}
use Rattle.rf_parser.proofs.lists.parse_separated.Goals as goal

pub returns-in_err-first-clause-stop : goal.returns-in_err-first-clause-stop
returns-in_err-first-clause-stop g c =
    returned _ c.from_residual.ensures.1 (passed_on c.in_err-first.ensures.stop (λ left h. separated_stuck c.requires h))

pub returns-in_err-after-clause-stop : goal.returns-in_err-after-clause-stop
returns-in_err-after-clause-stop g c =
    returned _ c.from_residual-in_err-after.ensures.1 (passed_on c.in_err-after.ensures.stop (λ left h. separated_stuck_after c.requires c.in_ok-first.ensures.ok h))

pub returns-clause-ok : goal.returns-clause-ok
returns-clause-ok g c = separated_parsed c.requires c.in_ok-first.ensures.ok (c.from_vec-rest.ensures ∙ c.new.ensures.items) c.in_ok-after.ensures.ok
