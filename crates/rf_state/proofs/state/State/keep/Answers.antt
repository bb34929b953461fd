use Rattle.std.proofs.Common.{ap}
use Rattle.rf_state.specs.declared.object.Object.{Object}
use Rattle.rf_state.proofs.IndexLemmas.{IsIndex-object}
use Rattle.rf_state.proofs.FittingObjects.{AreFit-object, FitsObject-at, FitsObject-kept}
use Rattle.rf_state.proofs.state.State.keep.Goals as goal

pub invariant_of-self : goal.invariant_of-self
invariant_of-self c = record {
  index = λ x e. IsIndex-object c.args.self.now.problem.now c.args.self.now.objects.items c.args.self.now.added x c.args.o _ c.requires
      (ap (λ (z : Object). z.origin) c.object-object.ensures) (c.args.self.now.index x e);
  fit =
      let p = c.args.self.now.problem.now in
      let fits = FitsObject-at p c.args.self.now.objects.items c.args.o c.object-object.result.now c.object-object.ensures c.requires c.args.self.now.fit in
      AreFit-object p c.args.self.now.objects.items c.args.o _
      (FitsObject-kept p c.object-object.result.now c.args.set c.both.result c.both.ensures.members fits) c.args.self.now.fit;
}
