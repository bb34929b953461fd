use Rattle.std.proofs.Common.{◌∙◌, ap, sym}
use Rattle.std.proofs.lemmas.Result.{on_ok_weaker}
use Rattle.rf_vstate.specs.Maps.{object_in}
use Rattle.rf_vstate.proofs.SoundLemmas.{pushed-made}
use Rattle.rf_vstate.proofs.rows.push_object.Goals as goal

pub returns-clause-sound : goal.returns-clause-sound
returns-clause-sound c =
    let first = rw (c.object_key.ensures, c.object_value.ensures.value) at c.in_ok-put.ensures.sets in
    let second = rw (c.number_key.ensures, c.number_value.ensures) at c.put-2.ensures.sets in
    on_ok_weaker c.put-2.result
    (λ put. (pushed-made c.args.problem.now c.args.store.now.current c.put-2.new.self.current c.requires.sound c.put.new.self.current c.number-last.result c.args.object
    c.number-last.ensures c.requires.fits (ap object_in (sym c.object_value.ensures.value) ∙ c.object_value.ensures.object) first put).sound) second

pub returns-clause-pushed : goal.returns-clause-pushed
returns-clause-pushed c =
    let first = rw (c.object_key.ensures, c.object_value.ensures.value) at c.in_ok-put.ensures.sets in
    let second = rw (c.number_key.ensures, c.number_value.ensures) at c.put-2.ensures.sets in
    on_ok_weaker c.put-2.result
    (λ put. (pushed-made c.args.problem.now c.args.store.now.current c.put-2.new.self.current c.requires.sound c.put.new.self.current c.number-last.result c.args.object
    c.number-last.ensures c.requires.fits (ap object_in (sym c.object_value.ensures.value) ∙ c.object_value.ensures.object) first put).state) second
