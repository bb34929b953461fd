use Rattle.std.proofs.Common.{sym, subst}
use Rattle.rf_decide.specs.Choice.{no_decision}
use Rattle.rf_decide.proofs.Allowed.{IsAllowed, group_allowed}
use Rattle.rf_decide.proofs.counted.Counted.allowed_member.Goals as goal

pub returns-clause-allowed : goal.returns-clause-allowed
returns-clause-allowed g c =
    let p = g.F.Facts.problem c.args.view.now in
    let s = g.F.Facts.state c.args.view.now in
    subst (IsAllowed p s) (sym c.member_in.ensures) (group_allowed p s c.args.number c.args.place no_decision c.requires.place)
