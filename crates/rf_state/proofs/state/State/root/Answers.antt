use Rattle.rf_state.proofs.FittingObjects.{AreFit-root}
use Rattle.rf_state.proofs.state.State.root.Goals as goal

pub invariant_of-result-clause-fit : goal.invariant_of-result-clause-fit
invariant_of-result-clause-fit c = AreFit-root c.args.problem.now c.in_ok-objects.objects.items c.in_ok-objects.ensures
