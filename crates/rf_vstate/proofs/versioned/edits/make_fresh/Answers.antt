use Rattle.std.proofs.Common.{◌≡◌, ◌∙◌, ap, sym, Some, length}
use Rattle.std.proofs.lemmas.Result.{on_ok_weaker}
use Rattle.rf_values.specs.Count.{less_one}
use Rattle.rf_state.specs.State.{fresh_of, object_of}
use Rattle.rf_state.specs.declared.object.Object.{Object}
use Rattle.rf_vstate.specs.Copies.{HasFacts, with_fresh_below}
use Rattle.rf_vstate.specs.Maps.{state_of}
use Rattle.rf_vstate.proofs.Reading.{object-read}
use Rattle.rf_vstate.proofs.FitLemmas.{FitsObject-read, IsSmall-less_one, IsSmall-one}
use Rattle.rf_vstate.proofs.FreshLemmas.{AreBelow-state, fresh-below, fresh-made}
use Rattle.rf_vstate.proofs.SoundLemmas.{IsMade}
use Rattle.rf_vstate.proofs.versioned.edits.make_fresh.Goals as goal

pub put_object-requires-clause-fits : goal.put_object-requires-clause-fits
put_object-requires-clause-fits c =
    let fits = FitsObject-read c.args.problem.now c.args.store.now.current c.args.o c.object_at-object.result c.requires.sound c.requires.object c.object_at-object.ensures in
    record { small = rw c.less_one.ensures (IsSmall-less_one c.object_at-object.result.count fits.small); declared = fits.declared }

pub push_object-requires-clause-fits : goal.push_object-requires-clause-fits
push_object-requires-clause-fits c =
    let fits = FitsObject-read c.args.problem.now c.args.store.now.current c.args.o c.object_at-object.result c.requires.sound c.requires.object c.object_at-object.ensures in
    record { small = IsSmall-one; declared = fits.declared }

pub copy_facts-requires-clause-below : goal.copy_facts-requires-clause-below
copy_facts-requires-clause-below c =
    AreBelow-state c.push_object.new.store.current c.number-number.result c.in_ok-push_object.ensures.sound.rows
    (fresh-below c.args.problem.now c.args.store.now.current c.put_object.new.store.current c.push_object.new.store.current c.push_object.new.store.current
    c.args.o c.number-number.result _ _ c.requires.sound c.requires.object c.number-number.ensures c.in_ok-put_object.ensures.sound c.in_ok-put_object.ensures.put
    c.in_ok-push_object.ensures.sound c.in_ok-push_object.ensures.pushed)

made : (c : goal.After-copy_facts) → HasFacts c.push_object.new.store.current c.copy_facts.new.store.current
    (with_fresh_below c.push_object.new.store.current (length c.args.problem.now.references) c.args.o c.number-number.result)
    → IsMade c.args.problem.now (fresh_of (state_of c.args.store.now.current) c.args.o) c.copy_facts.new.store.current
made c copied =
    let here : c.object_at-object.result ≡ object_of (state_of c.args.store.now.current) c.args.o =
    c.object_at-object.ensures ∙ sym (object-read c.args.store.now.current c.args.o c.requires.object) in
    fresh-made c.args.problem.now c.args.store.now.current c.put_object.new.store.current c.push_object.new.store.current c.copy_facts.new.store.current
    c.args.o c.number-number.result _ _ c.requires.sound c.requires.object c.number-number.ensures c.in_ok-put_object.ensures.sound c.in_ok-put_object.ensures.put
    c.in_ok-push_object.ensures.sound c.in_ok-push_object.ensures.pushed
    (λ i. record { origin = (here i).origin; count = (c.less_one.ensures ∙ ap (λ (x : Object). less_one x.count) here) i; candidates = (here i).candidates })
    (λ i. record { origin = (here i).origin; count = record { lo = 1; hi = Some 1 }; candidates = (here i).candidates }) copied

pub returns-clause-sound : goal.returns-clause-sound
returns-clause-sound c =
    let copied = rw c.len-references.ensures at c.copy_facts.ensures.copied in
    on_ok_weaker c.copy_facts.result (λ put. (made c put).sound) copied

pub returns-clause-fresh : goal.returns-clause-fresh
returns-clause-fresh c =
    let copied = rw c.len-references.ensures at c.copy_facts.ensures.copied in
    on_ok_weaker c.copy_facts.result (λ put. (made c put).state) copied
