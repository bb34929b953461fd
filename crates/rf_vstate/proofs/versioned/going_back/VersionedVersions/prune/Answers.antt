use Rattle.std.proofs.lemmas.List.{get_or_read}
use Rattle.rf_vstate.proofs.VersionLemmas.{AreKept-fewer, place-inside, sound-back, states_at-fewer}
use Rattle.rf_vstate.proofs.versioned.going_back.VersionedVersions.prune.Goals as goal

pub invariant_of-self : goal.invariant_of-self
invariant_of-self c =
    let p = c.args.self.now.problem.now in
    let saved = c.args.self.now.store.saved in
    let places = c.args.self.now.places.items in
    let there = place-inside saved places c.args.v c.requires in
    let is = get_or_read places c.args.v c.index.result.now there c.index.ensures 0 in
    record {
      sound = sound-back p saved places c.args.v c.index.result.now c.args.self.now.versions there is c.prune.new.self.current c.prune.ensures.current;
      versions = rw (c.prune.ensures.saved, c.truncate.ensures.items) (AreKept-fewer p saved places c.args.v c.index.result.now c.args.self.now.versions there is);
    }

pub returns-clause-kept : goal.returns-clause-kept
returns-clause-kept c =
    let p = c.args.self.now.problem.now in
    let saved = c.args.self.now.store.saved in
    let places = c.args.self.now.places.items in
    let there = place-inside saved places c.args.v c.requires in
    let is = get_or_read places c.args.v c.index.result.now there c.index.ensures 0 in
    rw (c.prune.ensures.saved, c.truncate.ensures.items) (states_at-fewer p saved places c.args.v c.index.result.now c.args.self.now.versions there is)
