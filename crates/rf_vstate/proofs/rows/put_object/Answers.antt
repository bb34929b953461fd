use Rattle.std.proofs.Common.{◌∙◌, ap, sym}
use Rattle.std.proofs.lemmas.Result.{on_ok_weaker}
use Rattle.rf_vstate.specs.Maps.{object_in}
use Rattle.rf_vstate.proofs.SoundLemmas.{object-made}
use Rattle.rf_vstate.proofs.rows.put_object.Goals as goal

pub returns-clause-sound : goal.returns-clause-sound
returns-clause-sound c =
    let sets = rw (c.object_key.ensures, c.object_value.ensures.value) at c.put.ensures.sets in
    on_ok_weaker c.put.result
    (λ put. (object-made c.args.problem.now c.args.store.now.current c.put.new.self.current c.requires.sound c.args.o c.args.object
    c.requires.there c.requires.fits (ap object_in (sym c.object_value.ensures.value) ∙ c.object_value.ensures.object) put).sound) sets

pub returns-clause-put : goal.returns-clause-put
returns-clause-put c =
    let sets = rw (c.object_key.ensures, c.object_value.ensures.value) at c.put.ensures.sets in
    on_ok_weaker c.put.result
    (λ put. (object-made c.args.problem.now c.args.store.now.current c.put.new.self.current c.requires.sound c.args.o c.args.object
    c.requires.there c.requires.fits (ap object_in (sym c.object_value.ensures.value) ∙ c.object_value.ensures.object) put).state) sets
