use Rattle.rf_parser.proofs.ListParts.{more_parsed, more_stuck, more_stuck_part, no_more, so_far_end, so_far_more}
use Rattle.rf_parser.proofs.Wholes.{passed_on, returned}
use Rattle.rf_parser.proofs.lists.push_each_after.Goals as goal

pub returns-in_err-part-clause-stop : goal.returns-in_err-part-clause-stop
returns-in_err-part-clause-stop g c =
    returned _ c.from_residual.ensures.1 (passed_on c.in_err-part.ensures.stop (λ left h.
    c.loop-after.invariant.onward.stuck left (more_stuck_part c.requires c.in-Some.ensures.found h)))

pub loop-after-preserved : goal.loop-after-preserved
loop-after-preserved g c =
    so_far_more c.loop-after.invariant c.in_ok-push.ensures.ok
    (more_parsed c.requires c.in-Some.ensures.found c.in_ok-part.ensures.ok)
    (more_stuck c.requires c.in-Some.ensures.found c.in_ok-part.ensures.ok)

pub returns-clause-ok : goal.returns-clause-ok
returns-clause-ok g c = so_far_end c.loop-after.invariant (no_more _ _ _ c.in_default.ensures.none)
