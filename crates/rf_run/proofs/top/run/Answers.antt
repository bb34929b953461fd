use Rattle.std.proofs.Common.{◌≡◌, sym, subst}
use Rattle.rf_run.specs.Ends.{HasEnd}
use Rattle.rf_run.specs.Leaves.{IsRightEnd}
use Rattle.rf_run.proofs.Enough.{not_unfinished}
use Rattle.rf_run.proofs.Left.{answered_as, came_to, complained_as, wrote_as}
use Rattle.rf_run.proofs.top.run.Goals as goal

pub returns-in-Ok-clause-wrote : goal.returns-in-Ok-clause-wrote
returns-in-Ok-clause-wrote g c =
    wrote_as (λ e. e ≡ c.in-Ok.end) (HasEnd c.args.words.now (g.F.Folder.state c.args.folder.now))
    (λ e is. subst (HasEnd c.args.words.now (g.F.Folder.state c.args.folder.now)) (sym is) c.in-Ok.ensures.ended)
    (g.O.Sink.state c.args.out.now) (g.O.Sink.state c.leave.new.out) c.leave.result c.leave.ensures.wrote

pub returns-in-Ok-clause-complained : goal.returns-in-Ok-clause-complained
returns-in-Ok-clause-complained g c =
    complained_as (λ e. e ≡ c.in-Ok.end) (HasEnd c.args.words.now (g.F.Folder.state c.args.folder.now))
    (λ e is. subst (HasEnd c.args.words.now (g.F.Folder.state c.args.folder.now)) (sym is) c.in-Ok.ensures.ended)
    (g.E.Sink.state c.args.err.now) (g.E.Sink.state c.leave.new.err) c.leave.result c.leave.ensures.complained

pub returns-in-Ok-clause-right : goal.returns-in-Ok-clause-right
returns-in-Ok-clause-right g c = λ d i p built is stored subject.
    wrote_as (λ e. e ≡ c.in-Ok.end) (IsRightEnd d p i.second)
    (λ e same. subst (IsRightEnd d p i.second) (sym same) (c.in-Ok.ensures.right d i p built is stored subject))
    (g.O.Sink.state c.args.out.now) (g.O.Sink.state c.leave.new.out) c.leave.result c.leave.ensures.wrote

pub returns-in-Ok-clause-enough : goal.returns-in-Ok-clause-enough
returns-in-Ok-clause-enough g c = λ d i p built is stored subject enough.
    not_unfinished d p i.second (g.O.Sink.state c.args.out.now) (g.O.Sink.state c.leave.new.out) c.leave.result enough
    (wrote_as (λ e. e ≡ c.in-Ok.end) (IsRightEnd d p i.second)
    (λ e same. subst (IsRightEnd d p i.second) (sym same) (c.in-Ok.ensures.right d i p built is stored subject))
    (g.O.Sink.state c.args.out.now) (g.O.Sink.state c.leave.new.out) c.leave.result c.leave.ensures.wrote)

pub returns-in-Ok-clause-complete : goal.returns-in-Ok-clause-complete
returns-in-Ok-clause-complete g c = λ i end ends was unfailed.
    came_to c.in-Ok.end end c.leave.result (g.O.Sink.state c.args.out.now) (g.O.Sink.state c.leave.new.out) (g.E.Sink.state c.args.err.now) (g.E.Sink.state c.leave.new.err)
    (c.in-Ok.ensures.complete i end ends was) c.leave.ensures.status c.leave.ensures.wrote
    c.leave.ensures.complained unfailed

pub returns-in-Ok-clause-answered : goal.returns-in-Ok-clause-answered
returns-in-Ok-clause-answered g c = λ d built is can.
    answered_as c.in-Ok.end c.leave.result (g.O.Sink.state c.args.out.now) (g.O.Sink.state c.leave.new.out)
    (c.in-Ok.ensures.answered d built is can) c.leave.ensures.status
