use Rattle.std.proofs.Common.{◌∙◌, subst, sym}
use Rattle.rf_state.specs.Root.{FitsObject}
use Rattle.rf_trail.specs.Trail.{items}
use Rattle.rf_vstate.proofs.FitLemmas.{FitsObject-of}
use Rattle.rf_mirror.specs.Meaning.{current}
use Rattle.rf_mirror.proofs.MirrorLemmas.{read-object}
use Rattle.rf_mirror.proofs.mirrored.Mirrored.object.Goals as goal

pub returns-in-Some-clause-object : goal.returns-in-Some-clause-object
returns-in-Some-clause-object c =
    let m = c.args.self.now in
    read-object (current m) (items m.objects) c.args.o c.in-Some.object m.mirror.first (sym c.get.ensures ∙ c.in-Some.is)

pub returns-in-Some-clause-fits : goal.returns-in-Some-clause-fits
returns-in-Some-clause-fits c =
    let m = c.args.self.now in
    let is = read-object (current m) (items m.objects) c.args.o c.in-Some.object m.mirror.first (sym c.get.ensures ∙ c.in-Some.is) in
    subst (FitsObject m.inner.problem.now) (sym is) (FitsObject-of m.inner.problem.now m.inner.store.current c.args.o m.inner.sound c.requires)
