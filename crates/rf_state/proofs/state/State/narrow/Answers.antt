use Rattle.std.proofs.Common.{ap}
use Rattle.rf_state.specs.declared.object.Object.{Object}
use Rattle.rf_state.proofs.IndexLemmas.{IsIndex-object}
use Rattle.rf_state.proofs.FittingObjects.{AreFit-object, FitsObject-at, FitsObject-narrowed}
use Rattle.rf_state.proofs.state.State.narrow.Goals as goal

pub invariant_of-self : goal.invariant_of-self
invariant_of-self c = record {
  index = λ x e. IsIndex-object c.args.self.now.problem.now c.args.self.now.objects.items c.args.self.now.added x c.args.o _ c.requires.object
      (ap (λ (z : Object). z.origin) c.object-object.ensures) (c.args.self.now.index x e);
  fit =
      let p = c.args.self.now.problem.now in
      let fits = FitsObject-at p c.args.self.now.objects.items c.args.o c.object-object.result.now c.object-object.ensures c.requires.object c.args.self.now.fit in
      AreFit-object p c.args.self.now.objects.items c.args.o _
      (FitsObject-narrowed p c.object-object.result.now c.args.count c.meet.result c.meet.ensures c.requires.small fits) c.args.self.now.fit;
}
